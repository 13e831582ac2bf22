-- `nodes::settle_junction` meets its contract: each way out is a law of a constant, or of equal operands. Assumes nothing.
use mathlib.Core.Path.{◌∙◌}
use Rattle.nodes.specs.Table.{den}
use Rattle.nodes.proofs.Operating.{junction_turned, junction_decided, junction_left, junction_alike}
use Rattle.nodes.proofs.apply.settle_junction.Goals as goal

pub returns-then-f-decides : goal.returns-then-f-decides
returns-then-f-decides c t some left right = let a = c.args in (left, junction_decided t a.decisive a.f a.g c.if-f-decides.true)

pub returns-then-g-decides : goal.returns-then-g-decides
returns-then-g-decides c t some left right =
    let a = c.args in (right, junction_decided t a.decisive a.g a.f c.if-g-decides.true ∙ junction_turned a.decisive (den t a.g) (den t a.f))

pub returns-then-f-leaves : goal.returns-then-f-leaves
returns-then-f-leaves c t some left right =
    let a = c.args in (right, junction_left t a.decisive a.g a.f c.if-f-leaves.true ∙ junction_turned a.decisive (den t a.g) (den t a.f))

pub returns-then-g-leaves : goal.returns-then-g-leaves
returns-then-g-leaves c t some left right = let a = c.args in (left, junction_left t a.decisive a.f a.g c.if-g-leaves.true)

pub returns-then-f-g : goal.returns-then-f-g
returns-then-f-g c t some left right = let a = c.args in (left, junction_alike t a.decisive a.f a.g c.if-f-g.true)
