-- `nodes::manager::Manager::make` meets its contract, by that of `unique::make`. Assumes nothing.
use Rattle.nodes.specs.internal.Make.{Held, held}
use Rattle.nodes.specs.internal.Lent.{held_by}
use Rattle.nodes.proofs.Making.{made_formed, made_helping}
use Rattle.nodes.proofs.manager.Manager.make.Goals as goal

pub invariant_of-self : goal.invariant_of-self
invariant_of-self c =
    let m = c.args.self.now in
    let x = c.make in
    let after : Held = held x.new.packed x.new.high x.new.work x.new.used in
    record {
      formed = made_formed (held_by m) after _ m.formed x.result x.ensures;
      helping = made_helping (held_by m) after _ m.formed m.helping x.result x.ensures;
    }
