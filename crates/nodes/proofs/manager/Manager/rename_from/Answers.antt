-- `nodes::rename_from` meets its contract, level by level: those from k on are done. Assumes nothing.
use mathlib.Core.Path.{refl, ap, ◌∙◌}
use Prim.Native.Nat.{ℕ, ◌+◌, ◌-◌, ◌*◌}
use native.Mathlib.Omega.{arith}
use Rattle.nodes.proofs.Downward.{renamed_down, renamed_done, renamed_full}
use Rattle.nodes.proofs.Stopping.{stopped_maps}
use Rattle.nodes.proofs.manager.Manager.rename_from.Goals as goal

pub returns-in_err-g : goal.returns-in_err-g
returns-in_err-g c =
    let n = c.args.from in
    let w = c.args.to.first in
    let k = c.loop-k.k in
    let r = c.from_residual in
    stopped_maps c.rename.new.self r.result r.ensures.0 refl
    (renamed_full n.first w n.apart refl n.count (k - 1) (omega (arith, c.loop-k.auto.k))
    (renamed_down n.first w n.apart n.count k c.loop-k-test.true c.loop-k.auto.k c.at.ensures
    (c.at-in-loop-k.ensures ∙ ap (λ (a : ℕ). w + (k - 1) * a) c.requires.apart) c.loop-k.invariant c.in_err-g.ensures))

pub loop-k-preserved : goal.loop-k-preserved
loop-k-preserved c =
    let n = c.args.from in
    let w = c.args.to.first in
    let k = c.loop-k.k in
    renamed_down n.first w n.apart n.count k c.loop-k-test.true c.loop-k.auto.k c.at.ensures
    (c.at-in-loop-k.ensures ∙ ap (λ (a : ℕ). w + (k - 1) * a) c.requires.apart) c.loop-k.invariant c.in_ok-g.ensures

pub returns : goal.returns
returns c = let n = c.args.from in renamed_done n.first c.args.to.first n.apart n.count c.loop-k.k (omega (arith, c.loop-k-test.false)) c.loop-k.invariant
