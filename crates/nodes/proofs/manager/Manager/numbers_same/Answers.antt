-- `nodes::numbers_same` meets its contract, digit by digit: those from k on are done. Assumes nothing.
use mathlib.Core.Path.{refl}
use mathlib.Core.Bool.{true}
use Prim.Native.Nat.{◌-◌}
use native.Mathlib.Omega.{arith}
use Rattle.nodes.proofs.Singles.{lists_constant, no_digits_same}
use Rattle.nodes.proofs.Stopping.{stopped_lists}
use Rattle.nodes.proofs.Downward.{same_down, same_done, same_full}
use Rattle.nodes.proofs.manager.Manager.numbers_same.Goals as goal

pub loop-k-init : goal.loop-k-init
loop-k-init c = lists_constant true (no_digits_same (omega arith) _ _)

pub returns-in_err-m : goal.returns-in_err-m
returns-in_err-m c =
    let n = c.args.levels in
    let k = c.loop-k.k in
    let r = c.from_residual in
    stopped_lists c.pair.new.self r.result r.ensures.0
    (same_full n.first n.apart c.requires.apart refl n.count (k - 1) (omega (arith, c.loop-k.auto.k))
    (same_down n.first n.apart c.requires.apart n.count k c.loop-k-test.true c.loop-k.auto.k c.at-v.ensures c.loop-k.invariant c.in_err-m.ensures))

pub loop-k-preserved : goal.loop-k-preserved
loop-k-preserved c =
    let n = c.args.levels in
    same_down n.first n.apart c.requires.apart n.count c.loop-k.k c.loop-k-test.true c.loop-k.auto.k c.at-v.ensures c.loop-k.invariant c.in_ok-m.ensures

pub returns : goal.returns
returns c =
    let n = c.args.levels in same_done n.first n.apart c.requires.apart n.count c.loop-k.k (omega (arith, c.loop-k-test.false)) c.loop-k.invariant
