-- `nodes::manager::Manager::new` meets its contract. Assumes nothing.
use mathlib.Core.Path.{refl, sym, subst}
use lib.ListN.{length}
use Rattle.nodes.specs.internal.Operate.{Helping}
use Rattle.nodes.specs.internal.Packed.{packed_table}
use Rattle.nodes.proofs.Starting.{filled_clear, clear_helps, first_helps}
use Rattle.nodes.proofs.manager.Manager.new.Goals as goal
use Rattle.nodes.proofs.manager.Manager.new.Goals.{in-Some, in_default}

pub invariant_of-result-clause-helping : goal.invariant_of-result-clause-helping
invariant_of-result-clause-helping c =
    let t = packed_table c.constants.new.packed c.constants.new.high 2 in
    let clear = filled_clear c.fill.new.self (length c.args.work.now) (c.fill.ensures.after (λ y e. e)) in
    elim c.match-first_mut.branch [
      | in-Some w ↦ subst (Helping t) (sym w.work-is) (first_helps t c.fill.new.self refl clear (length c.constants.new.packed))
      | in_default w ↦ subst (Helping t) (sym w.work-is) (clear_helps t c.fill.new.self refl clear)
    ]
