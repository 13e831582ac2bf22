-- The proof of the cycle of calls {Manager::quantify}. Each way out is a law of `proofs/Quantifying.antt`. Assumes nothing.
use Prim.Native.Nat.{ℕ}
use Rattle.nodes.specs.internal.Parts.{memo_in}
use Rattle.nodes.specs.internal.Lent.{table_of}
use Rattle.nodes.proofs.Working.{keeps_none, keeps_then}
use Rattle.nodes.proofs.Quantifying.{Above, stopped_three, quantify_recalled, quantify_short_1, quantify_short_2, quantify_makeable, quantify_meant, quantify_answers}
use Rattle.nodes.proofs.manager.Manager.+quantify.Goals as goal
use Rattle.nodes.proofs.manager.Manager.+quantify.Goals.{After-cofactors-c}

pub returns-in-Some : goal.returns-in-Some
returns-in-Some u c =
    let m = c.args.self.now in
    record { kept = keeps_none; answers = quantify_recalled c.args.v c.args.f m.formed (memo_in m.work.now) m.helping.remembered c.in-Some.r c.in-Some.ensures }

-- what is known before the calls on itself
above : {u : ℕ} (c : After-cofactors-c u) → Above (table_of c.args.self.now) c.args.v c.args.f c.level-l.result c.cofactors-c.result.low c.cofactors-c.result.high
above c = record { formed = c.args.self.now.formed; used = c.requires; top = c.level-l.ensures; above = c.if-v-l.false; low = c.cofactors-c.ensures.low; high = c.cofactors-c.ensures.high }

pub returns-in_err-a : goal.returns-in_err-a
returns-in_err-a u c =
    let p = above (goal.at.returns-in_err-a u c).After-cofactors-c in
    let x = c.in_err-a.ensures in
    let r = c.from_residual in
    stopped_three c.quantify.new.self r.result r.ensures.0 x.kept (quantify_short_1 p x.answers)

pub returns-in_err-b : goal.returns-in_err-b
returns-in_err-b u c =
    let p = above (goal.at.returns-in_err-b u c).After-cofactors-c in
    let x = c.in_ok-a.ensures in
    let y = c.in_err-b.ensures in
    let r = c.from_residual-in_err-b in
    stopped_three c.quantify-2.new.self r.result r.ensures.0 (keeps_then x.kept y.kept) (quantify_short_2 p x.answers y.answers)

pub finish_three-requires-clause-makeable : goal.finish_three-requires-clause-makeable
finish_three-requires-clause-makeable u c =
    quantify_makeable (above (goal.at.finish_three-requires-clause-makeable u c).After-cofactors-c) c.in_ok-a.ensures.answers c.in_ok-b.ensures.answers

pub finish_three-requires-clause-meant : goal.finish_three-requires-clause-meant
finish_three-requires-clause-meant u c =
    quantify_meant (above (goal.at.finish_three-requires-clause-meant u c).After-cofactors-c) c.in_ok-a.ensures.answers c.in_ok-b.ensures.answers

pub returns : goal.returns
returns u c =
    let p = above (goal.at.returns u c).After-cofactors-c in
    let x = c.in_ok-a.ensures in
    let y = c.in_ok-b.ensures in
    let z = c.finish_three in
    record {
      kept = keeps_then x.kept (keeps_then y.kept z.ensures.kept);
      answers = quantify_answers p x.answers y.answers (table_of z.new.self) z.result z.ensures.answers;
    }
