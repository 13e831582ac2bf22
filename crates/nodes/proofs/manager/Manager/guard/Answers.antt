-- `nodes::guard` meets its contract. Assumes nothing.
use Rattle.nodes.proofs.Singles.{guard_on, guard_off}
use Rattle.nodes.proofs.manager.Manager.guard.Goals as goal

pub returns-then-b : goal.returns-then-b
returns-then-b c = rw c.if-b.true (guard_on c.node.ensures)

pub returns-else-b : goal.returns-else-b
returns-else-b c = rw c.if-b.false (guard_off c.node-else-b.ensures)
