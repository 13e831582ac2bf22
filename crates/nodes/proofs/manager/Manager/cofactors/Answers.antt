-- `nodes::Manager::cofactors` meets its contract, by the laws of an entry with a level fixed. Assumes nothing.
use mathlib.Core.Path.{sym, ◌∙◌, subst}
use mathlib.Core.Bool.{true, false}
use Rattle.nodes.specs.internal.Lent.{table_of}
use Rattle.nodes.specs.internal.Operate.{Cofactor}
use Rattle.nodes.proofs.Parting.{level_at, low_at}
use Rattle.nodes.proofs.Operating.{entry_inside, cofactor_child, cofactor_same}
use Rattle.nodes.proofs.manager.Manager.cofactors.Goals as goal

pub bounds-self-at : goal.bounds-self-at
bounds-self-at c = let m = c.args.self.now in (entry_inside _ m.high.now _ m.formed _ c.requires.0).0

pub returns-then-word-v-clause-low : goal.returns-then-word-v-clause-low
returns-then-word-v-clause-low c =
    let a = c.args in
    subst (Cofactor (table_of a.self.now) a.f a.v.v false) (low_at a.self.now.packed.now a.f)
    (cofactor_child _ a.self.now.formed _ _ c.requires.0 a.v.fits false (level_at a.self.now.packed.now a.f ∙ c.if-word-v.true))

pub returns-then-word-v-clause-high : goal.returns-then-word-v-clause-high
returns-then-word-v-clause-high c =
    let a = c.args in
    cofactor_child _ a.self.now.formed _ _ c.requires.0 a.v.fits true (level_at a.self.now.packed.now a.f ∙ c.if-word-v.true)

pub returns-else-word-v-clause-low : goal.returns-else-word-v-clause-low
returns-else-word-v-clause-low c =
    let a = c.args in
    cofactor_same _ a.self.now.formed _ _ c.requires.0 a.v.fits false c.requires.1 (λ e. c.if-word-v.false (sym (level_at a.self.now.packed.now a.f) ∙ e))

pub returns-else-word-v-clause-high : goal.returns-else-word-v-clause-high
returns-else-word-v-clause-high c =
    let a = c.args in
    cofactor_same _ a.self.now.formed _ _ c.requires.0 a.v.fits true c.requires.1 (λ e. c.if-word-v.false (sym (level_at a.self.now.packed.now a.f) ∙ e))
