-- `nodes::start::forget` meets its contract. Assumes nothing.
use native.Mathlib.Omega.{arith}
use Rattle.nodes.proofs.Starting.{forgetting_first, forgetting_next, forgetting_last}
use Rattle.nodes.proofs.start.forget.Goals as goal

pub loop-i-init : goal.loop-i-init
loop-i-init c = forgetting_first c.args.work.now _ c.memory_at-first.ensures

pub loop-i-preserved : goal.loop-i-preserved
loop-i-preserved c = forgetting_next c.args.work.now c.loop-i.work c.loop-i.i (omega arith) c.loop-i.invariant

pub returns : goal.returns
returns c = forgetting_last c.args.work.now c.loop-i.work c.loop-i.i (omega arith) c.loop-i.invariant
