-- `nodes::unique::add` meets its contract: each way out is a law of `proofs/Holding.antt`. Assumes nothing.
use native.Mathlib.Omega.{arith}
use Rattle.nodes.proofs.Parting.{levels_length}
use Rattle.nodes.proofs.Holding.{begins_inside, packed_new, packed_full}
use Rattle.nodes.proofs.unique.add.Goals as goal

pub returns-then-packed-at-clause-makes : goal.returns-then-packed-at-clause-makes
returns-then-packed-at-clause-makes c =
    let a = c.args in
    packed_full a.packed.now a.high.now a.work.now a.used.now _ _ _ c.requires.makeable c.requires.differ c.requires.lacking c.if-packed-at.true

pub bounds-high-at : goal.bounds-high-at
bounds-high-at c =
    omega (arith, c.requires.makeable.formed.high_length, levels_length c.args.packed.now, c.if-packed-at.false)

pub link-requires : goal.link-requires
link-requires c = begins_inside _ _ _ _ _ c.requires.begins

pub returns-clause-makes : goal.returns-clause-makes
returns-clause-makes c =
    let a = c.args in
    rw c.word.ensures (packed_new a.packed.now a.high.now a.work.now a.used.now _ _ _ c.requires.makeable c.requires.differ c.requires.lacking _ (omega (arith, c.if-packed-at.false))
    c.requires.indexing (c.link.ensures _ _ _ c.requires.begins))
