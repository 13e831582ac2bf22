-- `nodes::fix` meets its contract. Assumes nothing.
use Rattle.nodes.proofs.Working.{fix_maps}
use Rattle.nodes.proofs.manager.Manager.fix.Goals as goal

pub returns : goal.returns
returns c = fix_maps _ _ _ _ c.apply.ensures
