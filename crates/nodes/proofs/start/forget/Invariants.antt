-- `nodes::start::forget` meets its contract. Assumes nothing.
use Rattle.nodes.proofs.Starting.{Forgetting}
use Rattle.nodes.proofs.start.forget.Given as goal

abbrev pub invariant-loop-i : goal.invariant-loop-i
invariant-loop-i l = Forgetting l.initial.work l.i l.work
