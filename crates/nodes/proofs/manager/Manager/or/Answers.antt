-- `nodes::or` meets its contract. Assumes nothing.
use Rattle.nodes.proofs.Working.{or_joins}
use Rattle.nodes.proofs.manager.Manager.or.Goals as goal

pub returns : goal.returns
returns c = or_joins _ _ _ c.apply.ensures
