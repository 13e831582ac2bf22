-- `nodes::node` meets its contract. Assumes nothing.
use mathlib.Core.Path.{refl, sym, ◌∙◌, ap₂}
use Prim.Native.Nat.{min}
use Rattle.nodes.specs.internal.Lent.{entering, leaving, held_by}
use Rattle.nodes.proofs.Choosing.{both_deeper, one_not_deeper, not_chosen, makeable, chosen}
use Rattle.nodes.proofs.Making.{answered}
use Rattle.nodes.proofs.manager.Manager.node.Goals as goal

pub returns-then-min-v : goal.returns-then-min-v
returns-then-min-v c =
    let a = c.args in
    let s = entering a.self.now in
    let least = c.min.ensures ∙ ap₂ min c.level.ensures c.level-2.ensures in
    not_chosen s a.v.v a.v.fits refl (one_not_deeper s a.v.v a.v.fits a.low a.high least c.if-min-v.true)

pub returns : goal.returns
returns c =
    let a = c.args in
    let o = c.make in
    let s = entering a.self.now in
    let u = sym c.are_used.ensures ∙ c.if-not-are_used.false in
    let least = c.min.ensures ∙ ap₂ min c.level.ensures c.level-2.ensures in
    let e = both_deeper s a.v.v a.v.fits a.low a.high least u c.if-min-v.false in
    chosen s a.v.v a.v.fits {s' = leaving o.new.self o.result} o.result refl refl u e o.ensures.kept
    (answered (held_by a.self.now) (held_by o.new.self) a.v.v a.low a.high (makeable s a.v.v a.v.fits u e) o.result o.ensures.makes)
