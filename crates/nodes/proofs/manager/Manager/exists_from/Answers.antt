-- `nodes::exists_from` meets its contract, level by level: those from k on are done. Assumes nothing.
use mathlib.Core.Path.{refl}
use Prim.Native.Nat.{◌-◌}
use native.Mathlib.Omega.{arith}
use Rattle.nodes.proofs.Downward.{some_down, some_done, some_full}
use Rattle.nodes.proofs.Stopping.{stopped_maps}
use Rattle.nodes.proofs.manager.Manager.exists_from.Goals as goal

pub returns-in_err-g : goal.returns-in_err-g
returns-in_err-g c =
    let n = c.args.levels in
    let k = c.loop-k.k in
    let r = c.from_residual in
    stopped_maps c.exists.new.self r.result r.ensures.0 refl
    (some_full n.first n.apart refl n.count (k - 1) (omega (arith, c.loop-k.auto.k))
    (some_down n.first n.apart n.count k c.loop-k-test.true c.loop-k.auto.k c.at.ensures c.loop-k.invariant c.in_err-g.ensures))

pub loop-k-preserved : goal.loop-k-preserved
loop-k-preserved c =
    let n = c.args.levels in
    some_down n.first n.apart n.count c.loop-k.k c.loop-k-test.true c.loop-k.auto.k c.at.ensures c.loop-k.invariant c.in_ok-g.ensures

pub returns : goal.returns
returns c = let n = c.args.levels in some_done n.first n.apart n.count c.loop-k.k (omega (arith, c.loop-k-test.false)) c.loop-k.invariant
