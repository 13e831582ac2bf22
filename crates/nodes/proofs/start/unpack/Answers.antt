-- `nodes::start::unpack` meets its contract. The loop's invariant: the entries passed are apart, if the table is in order, and the others as they were.
-- Assumes nothing.
use mathlib.Core.Path.{◌≡◌, ◌∙◌, subst}
use Prim.Native.Nat.{ℕ, ◌+◌, ◌%◌, ◌<◌}
use native.Mathlib.Omega.{arith}
use lib.ListN.{get_or, set}
use lib.Seq.{get_or-set_other}
use Rattle.nodes.specs.Table.{max_length}
use Rattle.nodes.proofs.Parting.{levels_length}
use Rattle.nodes.proofs.Starting.{Unpacks, level_byte, unpacked_byte, unpacked_next, unpacked}
use Rattle.nodes.proofs.start.unpack.Goals as goal

pub loop-i-preserved : goal.loop-i-preserved
loop-i-preserved c =
    let l = c.loop-i in
    let v = l.invariant in
    let packed = c.args.low.now in
    let used = c.args.used in
    let inside : l.i < used = omega (arith, c.loop-i-test.true, c.min-n.ensures) in
    let same = v.1 l.i (omega arith) in (
      λ wf. subst (λ (x : ℕ). Unpacks packed (l.i + 1) (set l.level l.i x) (set l.low l.i (get_or l.low l.i 0 % max_length)))
          (omega (arith, unpacked_byte packed l.low l.i same (level_byte wf l.i inside)))
          (unpacked_next packed l.level l.low l.i (omega arith) (omega arith) same (v.0 wf)),
      λ k h. get_or-set_other l.low l.i k _ 0 (λ e. omega arith) ∙ v.1 k (omega arith),
    )

pub returns : goal.returns
returns c wf =
    let l = c.loop-i in
    let packed = c.args.low.now in
    let r = wf.room in
    let m = levels_length packed in
    let all = l.invariant.0 wf in
    let end : l.i ≡ c.args.used = omega (arith, c.loop-i-test.false, c.min-n.ensures) in
    unpacked packed c.args.high.now l.level l.low c.args.used (subst (λ (n : ℕ). Unpacks packed n l.level l.low) end all) (omega arith) (omega arith) wf
