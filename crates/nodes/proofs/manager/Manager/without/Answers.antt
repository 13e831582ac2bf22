-- `nodes::without` meets its contract. Assumes nothing.
use mathlib.Core.Path.{refl}
use Rattle.nodes.proofs.Singles.{without_follows}
use Rattle.nodes.proofs.Stopping.{full_and, stopped_follows}
use Rattle.nodes.proofs.manager.Manager.without.Goals as goal

pub returns-in_err-n : goal.returns-in_err-n
returns-in_err-n c =
    let r = c.from_residual in
    stopped_follows c.not.new.self r.result r.ensures.0 refl (without_follows c.in_err-n.ensures (full_and refl))

pub returns : goal.returns
returns c = without_follows c.in_ok-n.ensures c.and.ensures
