-- `nodes::numbers_same` meets its contract, digit by digit: those from k on are done. Assumes nothing.
use Prim.Native.Nat.{◌+◌, ◌*◌, ◌-◌}
use Rattle.nodes.specs.internal.Single.{numbers_same}
use Rattle.nodes.specs.internal.Lent.{entering}
use Rattle.nodes.specs.internal.Work.{Lists}
use Rattle.nodes.proofs.manager.Manager.numbers_same.Given as goal

abbrev pub invariant-loop-k : goal.invariant-loop-k
invariant-loop-k l =
    let n = l.levels in
    Lists (entering l.fn.self) (entering l.self) (numbers_same (n.first + l.k * n.apart) n.apart (n.count - l.k)) l.m
