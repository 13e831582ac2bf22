-- `nodes::remember` meets its contract. Assumes nothing.
use native.Mathlib.Omega.{arith}
use Rattle.nodes.proofs.Holding.{work_keeps}
use Rattle.nodes.proofs.computed.remember.Goals as goal

pub returns : goal.returns
returns c =
    let x = c.args.x in
    work_keeps c.args.work.now _ c.memory_at.ensures x.number x.first x.second x.third c.args.s (omega (arith, c.if-slots-s.false, c.slots.ensures))
