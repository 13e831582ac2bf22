-- `nodes::Manager::settle_three` meets its contract: each way out is a law of `proofs/Quantifying.antt`. Assumes nothing.
use mathlib.Core.Path.{subst}
use Prim.Native.Nat.{ℕ, ◌<◌}
use Rattle.nodes.proofs.Working.{keeps_none}
use Rattle.nodes.proofs.Quantifying.{settle_deeper, settle_joined, settle_lacks, stopped_three}
use Rattle.nodes.proofs.manager.Manager.settle_three.Goals as goal

pub returns-then-v-l : goal.returns-then-v-l
returns-then-v-l c =
    let pre = c.requires in
    record { kept = keeps_none; answers = settle_deeper c.args.self.now.formed pre.used (subst (λ (n : ℕ). c.args.v.v < n) pre.top_level.0 c.if-v-l.true) }

pub returns-in_err-any : goal.returns-in_err-any
returns-in_err-any c =
    let x = c.in_err-any.ensures in
    let h = c.cofactors-c.ensures in
    let r = c.from_residual in
    stopped_three c.operate.new.self r.result r.ensures.0 x.kept (settle_lacks c.args.self.now.formed c.requires.used h.low h.high x.answers)

pub returns : goal.returns
returns c =
    let x = c.in_ok-any.ensures in
    let h = c.cofactors-c.ensures in
    record { kept = x.kept; answers = settle_joined c.args.self.now.formed c.requires.used h.low h.high x.answers }
