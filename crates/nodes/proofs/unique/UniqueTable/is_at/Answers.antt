-- `nodes::unique::UniqueTable::is_at` meets its contract. Assumes nothing.
use mathlib.Core.Path.{◌∙◌, sym}
use native.Mathlib.Omega.{arith}
use borrow.Author.Tests.{eqb-true, eq-eqb}
use Rattle.nodes.proofs.Parting.{levels_length}
use Rattle.nodes.proofs.Holding.{node_there, node_word}
use Rattle.nodes.proofs.unique.UniqueTable.is_at.Goals as goal

pub bounds-self-at : goal.bounds-self-at
bounds-self-at c =
    let m = c.args.self.now in omega (arith, c.requires.2, m.formed.room, levels_length m.packed.now)

pub returns-then-self-at : goal.returns-then-self-at
returns-then-self-at c = (
  λ e. node_there _ _ _ _ _ _ _ c.requires.0 c.requires.1 c.requires.2 (c.if-self-at.true ∙ c.word.ensures) (eqb-true _ _ e),
  λ n. eq-eqb _ _ n.high,
)

pub returns-else-self-at : goal.returns-else-self-at
returns-else-self-at c = (
  λ e. absurd (c.if-self-at.false (eqb-true _ _ e)),
  λ n. absurd (c.if-self-at.false (node_word _ _ _ _ _ _ _ n ∙ sym c.word.ensures)),
)
