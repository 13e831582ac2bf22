-- `nodes::and` meets its contract. Assumes nothing.
use Rattle.nodes.proofs.Working.{and_joins}
use Rattle.nodes.proofs.manager.Manager.and.Goals as goal

pub returns : goal.returns
returns c = and_joins _ _ _ c.apply.ensures
