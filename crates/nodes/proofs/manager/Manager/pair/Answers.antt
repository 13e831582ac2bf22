-- `nodes::pair` meets its contract. Assumes nothing.
use mathlib.Core.Path.{refl}
use Rattle.nodes.proofs.Singles.{pairs}
use Rattle.nodes.proofs.Stopping.{full_guards, full_chooses, stopped_guards}
use Rattle.nodes.proofs.manager.Manager.pair.Goals as goal

pub returns-in_err-low : goal.returns-in_err-low
returns-in_err-low c =
    let r = c.from_residual in
    stopped_guards c.guard.new.self r.result r.ensures.0
    (pairs c.args.v.v c.args.w.v {j = 0} c.requires c.in_err-low.ensures (full_guards refl) (full_chooses refl))

pub returns-in_err-high : goal.returns-in_err-high
returns-in_err-high c =
    let r = c.from_residual-in_err-high in
    stopped_guards c.guard-2.new.self r.result r.ensures.0
    (pairs c.args.v.v c.args.w.v c.requires c.in_ok-low.ensures c.in_err-high.ensures (full_chooses refl))

pub returns : goal.returns
returns c = pairs c.args.v.v c.args.w.v c.requires c.in_ok-low.ensures c.in_ok-high.ensures c.node.ensures
