-- `nodes::exists_from` meets its contract, level by level: those from k on are done. Assumes nothing.
use Prim.Native.Nat.{◌+◌, ◌*◌, ◌-◌}
use Rattle.nodes.specs.internal.Several.{some_from}
use Rattle.nodes.specs.internal.Lent.{entering}
use Rattle.nodes.specs.internal.Work.{Maps}
use Rattle.nodes.proofs.manager.Manager.exists_from.Given as goal

abbrev pub invariant-loop-k : goal.invariant-loop-k
invariant-loop-k l = let n = l.levels in Maps (entering l.fn.self) (entering l.self) (some_from (n.first + l.k * n.apart) n.apart (n.count - l.k)) l.f l.g
