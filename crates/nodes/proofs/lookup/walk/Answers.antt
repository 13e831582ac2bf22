-- `nodes::lookup::walk` meets its contract: the loop keeps that the walk from entry i is the walk from the root. Assumes nothing.
use mathlib.Core.Path.{◌≡◌, sym, ◌∙◌}
use mathlib.Core.Bool.{cond}
use Prim.Native.Nat.{◌+◌, ◌-◌}
use native.Mathlib.Omega.{arith}
use lib.ListN.{get_or}
use Rattle.nodes.specs.Table.{last_level}
use Rattle.nodes.specs.Lookup.{looked_up, slices}
use Rattle.nodes.proofs.Walking.{walk_on}
use Rattle.nodes.proofs.lookup.walk.Goals as goal
use Rattle.nodes.proofs.lookup.walk.Goals.{then-bit_at, else-bit_at}

pub loop-preserved : goal.loop-preserved
loop-preserved c =
    let t = c.args.table in
    let p = c.args.p in
    let l = c.loop in
    let child : c.if-bit_at.child ≡ cond c.bit_at.result (get_or t.high.now l.i 0) (get_or t.low.now l.i 0) =
    elim c.if-bit_at.branch [ then-bit_at w ↦ rw (w.if-bit_at.true) w.child-is | else-bit_at w ↦ rw (w.if-bit_at.false) w.child-is ] in
    sym (walk_on (slices t.level.now t.low.now t.high.now) (looked_up p.action p.left_now p.left_next p.right_now p.right_next) l.from
    (last_level + 2 - l.counter) l.i (omega arith) (omega arith) (omega arith) (last_level + 2 - (l.counter + 1)) c.if-bit_at.child (omega arith)
    (omega arith) (omega arith) c.bit_at.ensures child) ∙ l.invariant
