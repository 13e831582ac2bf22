-- `nodes::Manager::level` meets its contract. Assumes nothing.
use mathlib.Core.Path.{sym}
use native.Mathlib.Omega.{arith}
use Rattle.nodes.proofs.Parting.{level_at}
use Rattle.nodes.proofs.Starting.{level_byte}
use Rattle.nodes.proofs.Operating.{entry_inside}
use Rattle.nodes.proofs.manager.Manager.level.Goals as goal

pub bounds-self-f : goal.bounds-self-f
bounds-self-f c = let m = c.args.self.now in (entry_inside _ m.high.now _ m.formed _ c.requires).0

pub overflow_cast-result-2 : goal.overflow_cast-result-2
overflow_cast-result-2 c =
    omega (arith, level_at c.args.self.now.packed.now c.args.f, level_byte c.args.self.now.formed c.args.f c.requires)

pub returns : goal.returns
returns c = sym (level_at _ _)
