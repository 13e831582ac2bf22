-- `nodes::apply` meets its contract. Assumes nothing.
use mathlib.Core.Path.{refl, sym, ◌∙◌}
use Rattle.nodes.proofs.Working.{operated}
use Rattle.nodes.proofs.manager.Manager.apply.Goals as goal

pub returns : goal.returns
returns c = operated c.args.op c.operate.result refl refl (sym c.are_used.ensures ∙ c.if-not-are_used.false) c.operate.ensures
