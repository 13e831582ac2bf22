-- The proof of the cycle of calls {operate}. The measure is the sum of the two operands' numbers, since a child stands before its node.
-- Assumes nothing.
use Prim.Native.Nat.{◌+◌}
use Rattle.nodes.proofs.manager.Manager.+operate.Given as goal

abbrev pub decreases-operate : goal.decreases-operate
decreases-operate l = l.f + l.g
