-- `nodes::number_is` meets its contract, digit by digit. Assumes nothing.
use Rattle.nodes.proofs.manager.Manager.+number_is.Given as goal

abbrev pub decreases-number_is : goal.decreases-number_is
decreases-number_is l = l.levels.count
