-- `nodes::same` meets its contract, whichever of the levels is the lower one. Assumes nothing.
use Rattle.nodes.proofs.Singles.{lists_same, same_turned}
use Rattle.nodes.proofs.manager.Manager.same.Goals as goal

pub returns-then-v-w : goal.returns-then-v-w
returns-then-v-w c = lists_same c.args.v.v c.args.w.v c.pair.ensures

pub returns-else-v-w : goal.returns-else-v-w
returns-else-v-w c = rw (same_turned c.args.v.v c.args.w.v) (lists_same c.args.w.v c.args.v.v c.pair-else-v-w.ensures)
