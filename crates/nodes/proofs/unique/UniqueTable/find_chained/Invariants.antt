-- `nodes::unique::UniqueTable::find_chained` meets its contract. The loop's invariant is `Chained`. The measure is the entry at hand, since a chain goes to earlier ones.
-- Assumes nothing.
use Rattle.nodes.specs.internal.Packed.{packed_table}
use Rattle.nodes.specs.internal.Parts.{links_in, heads_in}
use Rattle.nodes.proofs.Indexing.{Chained}
use Rattle.nodes.proofs.unique.UniqueTable.find_chained.Given as goal

abbrev pub invariant-loop-i : goal.invariant-loop-i
invariant-loop-i l = let m = l.self in Chained (packed_table m.packed.now m.high.now m.used) (heads_in m.work.now) (links_in m.work.now) l.node.level l.node.low l.node.high l.i

abbrev pub decreases-loop-i : goal.decreases-loop-i
decreases-loop-i l = l.i
