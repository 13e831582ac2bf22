-- `nodes::settle_not` meets its contract, by the law of ¬ of a constant. Assumes nothing.
use native.Mathlib.Omega.{arith}
use Rattle.nodes.proofs.Operating.{not_constant}
use Rattle.nodes.proofs.apply.settle_not.Goals as goal

pub returns-then-f-lt2 : goal.returns-then-f-lt2
returns-then-f-lt2 c t some left right = (omega arith, not_constant t _ c.if-f-lt2.true)
