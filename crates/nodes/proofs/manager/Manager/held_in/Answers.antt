-- `nodes::Manager::held_in` meets its contract. Assumes nothing.
use mathlib.Core.Path.{refl}
use native.Mathlib.Omega.{arith}
use Rattle.nodes.proofs.Holding.{work_holds}
use Rattle.nodes.proofs.manager.Manager.held_in.Goals as goal

pub returns : goal.returns
returns c =
    let a = c.args in
    let k = c.in_ok-checked_sub in
    work_holds a.self.now.work.now _ c.memory_at.ensures k.field-0 _ _ _ a.s (omega (arith, c.if-slots-s.false, c.slots.ensures))
    (omega (arith, k.ensures.0, k.ensures.1)) refl refl refl
