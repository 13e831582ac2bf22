-- `nodes::Manager::finish` meets its contract, by those of `make` and `remember`. Assumes nothing.
use Rattle.std.specs.Prelude.{Err}
use Rattle.nodes.specs.internal.Lent.{table_of, held_by}
use Rattle.nodes.proofs.Making.{answered}
use Rattle.nodes.proofs.Memory.{made_recalls, helping_stores}
use Rattle.nodes.proofs.Stopping.{stopped_operating}
use Rattle.nodes.proofs.manager.Manager.finish.Goals as goal

pub returns-in_err-i : goal.returns-in_err-i
returns-in_err-i c =
    let n = c.args.node in
    let x = c.in_err-i.ensures in
    stopped_operating c.make.new.self c.from_residual.result c.from_residual.ensures.0 x.kept
    (answered (held_by c.args.self.now) (held_by c.make.new.self) n.level n.low n.high c.requires.makeable (Err c.in_err-i.field-0.0) x.makes)

pub invariant_of-self : goal.invariant_of-self
invariant_of-self c =
    let m = c.make.new.self in
    let k = c.args.key in
    record {
      formed = m.formed;
      helping = helping_stores (table_of m) (record { number = k.number; first = k.left; second = k.right; third = c.in_ok-i.i })
          (made_recalls (table_of c.args.self.now) (table_of m) c.args.self.now.formed c.args.key _ c.requires.meant _ c.in_ok-i.ensures.makes.0.built)
          m.work.now _ m.helping c.remember.ensures;
    }
