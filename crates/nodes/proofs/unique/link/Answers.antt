-- `nodes::unique::link` meets its contract. Assumes nothing.
use mathlib.Core.Path.{subst}
use Prim.Native.Nat.{ℕ, ◌<◌}
use native.Mathlib.Omega.{arith}
use lib.ListN.{length-set}
use Rattle.nodes.specs.internal.Index.{InIndex, Begins}
use Rattle.nodes.proofs.Parting.{index_fits}
use Rattle.nodes.proofs.Holding.{head_inside, headless, uncovered, work_linked}
use Rattle.nodes.proofs.unique.link.Goals as goal

pub returns-in_default : goal.returns-in_default
returns-in_default c v lo hi b = headless _ _ _ _ _ (subst (InIndex c.args.work.now) c.in_default.is c.requires)

pub bounds-work-head : goal.bounds-work-head
bounds-work-head c = head_inside _ _ (subst (InIndex c.args.work.now) c.in-Some.is c.requires)

pub offset_bounds-work-head : goal.offset_bounds-work-head
offset_bounds-work-head c = omega (arith, head_inside _ _ (subst (InIndex c.args.work.now) c.in-Some.is c.requires))

pub bounds-work-at : goal.bounds-work-at
bounds-work-at c =
    omega (arith, index_fits c.args.work.now, c.covers.ensures, c.if-at-covers.true)

pub offset_bounds-work-head-then-at-covers : goal.offset_bounds-work-head-then-at-covers
offset_bounds-work-head-then-at-covers c = omega (arith, head_inside _ _ (subst (InIndex c.args.work.now) c.in-Some.is c.requires))

pub bounds-work-head-then-at-covers : goal.bounds-work-head-then-at-covers
bounds-work-head-then-at-covers c = simp length-set (head_inside _ _ (subst (InIndex c.args.work.now) c.in-Some.is c.requires))

pub returns-then-at-covers : goal.returns-then-at-covers
returns-then-at-covers c v lo hi b =
    let a = c.args in
    work_linked _ _ _ _ _ c.in-Some.head (subst (λ (n : ℕ). a.used < n) c.covers.ensures c.if-at-covers.true)
    (subst (Begins a.work.now v lo hi) c.in-Some.is b)

pub returns-else-at-covers : goal.returns-else-at-covers
returns-else-at-covers c v lo hi b = uncovered _ _ _ _ _ (omega (arith, c.if-at-covers.false, c.covers.ensures))
