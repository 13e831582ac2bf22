-- The proof of the cycle of calls {Manager::quantify}. The measure is the operand's number, since a child stands before its node. Assumes nothing.
use Rattle.nodes.proofs.manager.Manager.+quantify.Given as goal

abbrev pub decreases-quantify : goal.decreases-quantify
decreases-quantify l = l.f
