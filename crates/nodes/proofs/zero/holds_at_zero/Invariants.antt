-- `nodes::zero::holds_at_zero` meets its contract. The loop's invariant: entry k has the root's value. The measure is k. Assumes nothing.
use mathlib.Core.Path.{◌≡◌}
use Prim.Native.Nat.{◌<◌}
use Rattle.nodes.specs.Table.{den}
use Rattle.nodes.specs.internal.Packed.{packed_table}
use Rattle.nodes.specs.internal.Zero.{zeros}
use Rattle.nodes.proofs.zero.holds_at_zero.Given as goal

abbrev pub invariant-loop-k : goal.invariant-loop-k
invariant-loop-k l = (l.k < l.used) × (den (packed_table l.packed l.high l.used) l.k zeros ≡ den (packed_table l.packed l.high l.used) l.root zeros)

abbrev pub decreases-loop-k : goal.decreases-loop-k
decreases-loop-k l = l.k
