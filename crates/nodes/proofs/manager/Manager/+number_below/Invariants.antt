-- `nodes::number_below` meets its contract, digit by digit. Assumes nothing.
use Rattle.nodes.proofs.manager.Manager.+number_below.Given as goal

abbrev pub decreases-number_below : goal.decreases-number_below
decreases-number_below l = l.levels.count
