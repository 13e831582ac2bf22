-- `nodes::start::unpack` meets its contract. The loop's invariant: the entries passed are apart, if the table is in order, and the others as they were.
-- Assumes nothing.
use mathlib.Core.Path.{◌≡◌}
use Prim.Native.Nat.{ℕ, ◌≤◌}
use lib.ListN.{get_or}
use Rattle.nodes.specs.Table.{WellFormed}
use Rattle.nodes.specs.internal.Packed.{packed_table}
use Rattle.nodes.proofs.Starting.{Unpacks}
use Rattle.nodes.proofs.start.unpack.Given as goal

abbrev pub invariant-loop-i : goal.invariant-loop-i
invariant-loop-i l =
    (WellFormed (packed_table l.initial.low l.high l.used) → Unpacks l.initial.low l.i l.level l.low)
    × ((k : ℕ) → l.i ≤ k → get_or l.low k 0 ≡ get_or l.initial.low k 0)
