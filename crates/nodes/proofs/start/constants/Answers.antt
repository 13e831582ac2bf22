-- `nodes::start::constants` meets its contract. Assumes nothing.
use Rattle.nodes.proofs.Starting.{constants_formed}
use Rattle.nodes.proofs.start.constants.Goals as goal

pub returns : goal.returns
returns c = constants_formed _ _ c.requires
