-- `nodes::not` meets its contract. Assumes nothing.
use Rattle.nodes.proofs.Working.{not_maps}
use Rattle.nodes.proofs.manager.Manager.not.Goals as goal

pub returns : goal.returns
returns c = not_maps _ _ c.apply.ensures
