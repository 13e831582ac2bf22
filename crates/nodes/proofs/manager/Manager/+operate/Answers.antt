-- The proof of the cycle of calls {operate}. Each way out is a law of `proofs/Recursion.antt`. Assumes nothing.
use mathlib.Core.Path.{◌∙◌, ap₂}
use Prim.Native.Nat.{ℕ, min}
use Rattle.nodes.specs.internal.Parts.{memo_in}
use Rattle.nodes.specs.internal.Lent.{table_of}
use Rattle.nodes.proofs.Working.{keeps_none, keeps_then}
use Rattle.nodes.proofs.Stopping.{stopped_operating}
use Rattle.nodes.proofs.Recursion.{Open, operate_recalled, operate_short_1, operate_short_2, operate_makeable, operate_meant, operate_answers}
use Rattle.nodes.proofs.manager.Manager.+operate.Goals as goal
use Rattle.nodes.proofs.manager.Manager.+operate.Goals.{After-cofactors-y}

pub returns-in-Some-recall : goal.returns-in-Some-recall
returns-in-Some-recall u c =
    let a = c.args in
    let m = a.self.now in
    record {
      kept = keeps_none;
      answers = operate_recalled a.op (record { formed = m.formed; left = c.requires.0; right = c.requires.1 }) c.key-key.result c.key-key.ensures
          (memo_in m.work.now) m.helping.remembered c.in-Some-recall.k c.in-Some-recall.ensures;
    }

-- what is known before the calls on itself
opened : {u : ℕ} (c : After-cofactors-y u)
    → Open (table_of c.args.self.now) c.args.op c.args.f c.args.g c.min-level.result c.cofactors-x.result c.cofactors-y.result c.key-key.result
opened c = let a = c.args in record {
  ok = record { formed = a.self.now.formed; left = c.requires.0; right = c.requires.1 };
  settles = c.in_default.ensures;
  top = c.min-level.ensures ∙ ap₂ min c.level.ensures c.level-2.ensures;
  low_left = c.cofactors-x.ensures.low;
  high_left = c.cofactors-x.ensures.high;
  low_right = c.cofactors-y.ensures.low;
  high_right = c.cofactors-y.ensures.high;
  key_is = c.key-key.ensures;
}

pub returns-in_err-low : goal.returns-in_err-low
returns-in_err-low u c =
    let p = opened (goal.at.returns-in_err-low u c).After-cofactors-y in
    let x = c.in_err-low.ensures in
    let r = c.from_residual in
    stopped_operating c.operate.new.self r.result r.ensures.0 x.kept (operate_short_1 p x.answers)

pub returns-in_err-high : goal.returns-in_err-high
returns-in_err-high u c =
    let p = opened (goal.at.returns-in_err-high u c).After-cofactors-y in
    let x = c.in_ok-low.ensures in
    let y = c.in_err-high.ensures in
    let r = c.from_residual-in_err-high in
    stopped_operating c.operate-2.new.self r.result r.ensures.0 (keeps_then x.kept y.kept) (operate_short_2 p x.answers y.answers)

pub finish-requires-clause-makeable : goal.finish-requires-clause-makeable
finish-requires-clause-makeable u c =
    operate_makeable (opened (goal.at.finish-requires-clause-makeable u c).After-cofactors-y) c.in_ok-low.ensures.answers c.in_ok-high.ensures.answers

pub finish-requires-clause-meant : goal.finish-requires-clause-meant
finish-requires-clause-meant u c =
    operate_meant (opened (goal.at.finish-requires-clause-meant u c).After-cofactors-y) c.in_ok-low.ensures.answers c.in_ok-high.ensures.answers

pub returns : goal.returns
returns u c =
    let p = opened (goal.at.returns u c).After-cofactors-y in
    let x = c.in_ok-low.ensures in
    let y = c.in_ok-high.ensures in
    let z = c.finish.ensures in
    record {
      kept = keeps_then x.kept (keeps_then y.kept z.kept);
      answers = operate_answers p x.answers y.answers (table_of c.finish.new.self) c.finish.result z.answers;
    }
