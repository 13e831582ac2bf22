-- `nodes::unique::UniqueTable::head_of` meets its contract. Assumes nothing.
use native.Mathlib.Omega.{arith}
use Rattle.nodes.proofs.Parting.{index_fits}
use Rattle.nodes.proofs.unique.UniqueTable.head_of.Goals as goal

pub overflow_add-result : goal.overflow_add-result
overflow_add-result c =
    omega (arith, index_fits c.args.self.now.work.now, c.covers.ensures)

pub overflow_add-result-2 : goal.overflow_add-result-2
overflow_add-result-2 c =
    omega (arith, index_fits c.args.self.now.work.now, c.covers.ensures, c.hashes-n.ensures, c.hash.ensures.1)
