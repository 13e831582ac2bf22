-- `nodes::unique::UniqueTable::find_chained` meets its contract. The loop's invariant is `Chained`. The measure is the entry at hand, since a chain goes to earlier ones.
-- Assumes nothing.
use mathlib.Core.Path.{◌≡◌, subst}
use native.Mathlib.Omega.{arith}
use Rattle.std.specs.Prelude.{Some, None}
use Rattle.std.proofs.lemmas.Bool.{iff_false}
use Rattle.nodes.specs.internal.Index.{InIndex, Begins}
use Rattle.nodes.proofs.Parting.{index_fits}
use Rattle.nodes.proofs.Holding.{begins_inside, head_inside, work_uncovered, work_start, work_within, work_falls, work_next}
use Rattle.nodes.proofs.unique.UniqueTable.find_chained.Goals as goal

pub returns-in_err-i : goal.returns-in_err-i
returns-in_err-i c = rw c.from_residual.ensures (λ i h n.
    let k = c.args.node in
    let w = c.args.self.now.work.now in
    let is : c.args.head ≡ None = c.in_err-i.was in
    let e = work_uncovered w (subst (Begins w k.level k.low k.high) is c.requires.begins) in
    omega arith)

pub offset_bounds-self-branch : goal.offset_bounds-self-branch
offset_bounds-self-branch c =
    let w = c.args.self.now.work.now in
    omega (arith, head_inside w _ (subst (InIndex w) c.in_ok-i.was (begins_inside w _ _ _ c.args.head c.requires.begins)))

pub bounds-self-branch : goal.bounds-self-branch
bounds-self-branch c =
    let w = c.args.self.now.work.now in
    head_inside w _ (subst (InIndex w) c.in_ok-i.was (begins_inside w _ _ _ c.args.head c.requires.begins))

pub loop-i-init : goal.loop-i-init
loop-i-init c =
    let n = c.args.node in
    let is : c.args.head ≡ Some c.in_ok-i.field-0 = c.in_ok-i.was in
    work_start _ _ _ _ _ c.args.self.now.indexing c.in_ok-i.field-0 (subst (Begins c.args.self.now.work.now n.level n.low n.high) is c.requires.begins)

pub bounds-self-i : goal.bounds-self-i
bounds-self-i c =
    let m = c.args.self.now in
    let w = work_within _ _ _ _ _ m.indexing _ c.loop-i-test.true c.loop-i.invariant in omega (arith, index_fits m.work.now)

pub loop-i-smaller : goal.loop-i-smaller
loop-i-smaller c =
    work_falls _ _ _ _ _ c.args.self.now.indexing _ c.loop-i-test.true c.loop-i.invariant

pub loop-i-preserved : goal.loop-i-preserved
loop-i-preserved c =
    work_next _ _ _ _ _ c.args.self.now.indexing _ c.loop-i-test.true c.loop-i.invariant (iff_false c.is_at.ensures c.if-is_at.false)
