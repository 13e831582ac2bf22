-- `nodes::fix_below` meets its contract, level by level: those below v are fixed. Assumes nothing.
use Rattle.nodes.specs.Formula.{fix_below}
use Rattle.nodes.specs.internal.Lent.{entering}
use Rattle.nodes.specs.internal.Work.{Maps}
use Rattle.nodes.proofs.manager.Manager.fix_below.Given as goal

abbrev pub invariant-loop-v : goal.invariant-loop-v
invariant-loop-v l = Maps (entering l.fn.self) (entering l.self) (fix_below l.v l.c) l.f l.g
