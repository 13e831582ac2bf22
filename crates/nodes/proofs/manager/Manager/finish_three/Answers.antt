-- `nodes::Manager::finish_three` meets its contract: what it made may be remembered. Assumes nothing.
use mathlib.Core.Path.{sym, subst}
use Prim.Native.Nat.{ℕ}
use Rattle.nodes.specs.internal.Lent.{table_of}
use Rattle.nodes.specs.internal.Operate.{Recalls}
use Rattle.nodes.proofs.Memory.{helping_stores}
use Rattle.nodes.proofs.Quantifying.{three_recalled}
use Rattle.nodes.proofs.manager.Manager.finish_three.Goals as goal

pub invariant_of-self : goal.invariant_of-self
invariant_of-self c =
    let m = c.make_three.new.self in
    let r = c.in_ok-r.r in
    let o = c.number_of in
    record {
      formed = m.formed;
      helping = helping_stores (table_of m) (record { number = o.result; first = r.zero; second = r.one; third = r.any })
          (subst (λ (n : ℕ). Recalls (table_of m) n r.zero r.one r.any) (sym o.ensures.0) (three_recalled c.requires.meant c.in_ok-r.ensures.answers))
          m.work.now _ m.helping c.remember.ensures;
    }
