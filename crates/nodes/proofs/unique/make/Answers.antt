-- `nodes::unique::make` meets its contract: each way out is a law of `proofs/Making.antt`. Assumes nothing.
use mathlib.Core.Path.{refl}
use Rattle.nodes.proofs.Making.{made_same, made_found}
use Rattle.nodes.proofs.unique.make.Goals as goal

pub returns-then-node : goal.returns-then-node
returns-then-node c = (made_same _ _ _ _ c.requires.makeable c.if-node.true, record { indexing = c.requires.indexing; memo = refl })

pub returns-in-Some : goal.returns-in-Some
returns-in-Some c = (made_found _ _ _ _ c.requires.makeable _ c.in-Some.ensures, record { indexing = c.requires.indexing; memo = refl })
