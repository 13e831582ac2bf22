-- The buffer keeps its length, which `done` does not pass and comes nearer to.
use Rattle.std.proofs.Common.{◌-◌, ◌≤◌, length}
use Rattle.checking.proofs.read_rest.Given as goal

abbrev pub invariant-loop-done : goal.invariant-loop-done
invariant-loop-done g l = l.done ≤ length l.initial.buf

abbrev pub decreases-loop-done : goal.decreases-loop-done
decreases-loop-done g l = length l.initial.buf - l.done
