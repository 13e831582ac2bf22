-- `nodes::fix_below` meets its contract, level by level: those below v are fixed. Assumes nothing.
use mathlib.Core.Path.{refl}
use Prim.Native.Nat.{◌+◌}
use native.Mathlib.Omega.{arith}
use Rattle.nodes.proofs.Singles.{maps_fixed}
use Rattle.nodes.proofs.Stopping.{full_below, stopped_maps}
use Rattle.nodes.proofs.manager.Manager.fix_below.Goals as goal

pub returns-in_err-g : goal.returns-in_err-g
returns-in_err-g c =
    let a = c.args in
    let v = c.loop-v.v in
    let r = c.from_residual in
    stopped_maps c.fix.new.self r.result r.ensures.0 refl
    (full_below refl (v + 1) a.n a.c (omega (arith, c.loop-v-test.true)) (maps_fixed v a.c c.digit_at.ensures c.loop-v.invariant c.in_err-g.ensures))

pub loop-v-preserved : goal.loop-v-preserved
loop-v-preserved c = maps_fixed c.loop-v.v c.args.c c.digit_at.ensures c.loop-v.invariant c.in_ok-g.ensures
