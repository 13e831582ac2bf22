-- `nodes::lookup::walk` meets its contract: the loop keeps that the walk from entry i is the walk from the root. Assumes nothing.
use mathlib.Core.Path.{◌≡◌}
use Prim.Native.Nat.{◌+◌, ◌-◌}
use Rattle.nodes.specs.Table.{last_level}
use Rattle.nodes.specs.Lookup.{looked_up, slices, walk_from}
use Rattle.nodes.proofs.lookup.walk.Given as goal

abbrev pub invariant-loop : goal.invariant-loop
invariant-loop l =
    let s = slices l.table.level.now l.table.low.now l.table.high.now in
    let a = looked_up l.p.action l.p.left_now l.p.left_next l.p.right_now l.p.right_next in
    walk_from (last_level + 2 - l.counter) s a l.from l.i ≡ walk_from (last_level + 2) s a 0 l.root
