-- `seipolku::model::seipolku_model` meets its contract. Assumes nothing.
use mathlib.Core.Path.{refl, sym, ◌∙◌}
use native.Mathlib.Omega.{arith}
use Rattle.frames.proofs.Accepting.{lines_some}
use Rattle.seipolku.proofs.Describing.{described_short, described_refused, described_accepted}
use Rattle.seipolku.proofs.model.seipolku_model.Goals as goal

pub returns-then-answer-lt6 : goal.returns-then-answer-lt6
returns-then-answer-lt6 c = described_short _ _ (omega (arith, c.if-answer-lt6.true))

pub write_model-requires : goal.write_model-requires
write_model-requires c = (lines_some _ _ (sym c.read.ensures ∙ c.in-Ok.is), omega (arith, c.if-answer-lt6.false))

pub returns-in-Ok : goal.returns-in-Ok
returns-in-Ok c = described_accepted _ _ _ _ (sym c.read.ensures ∙ c.in-Ok.is) (omega (arith, c.if-answer-lt6.false)) c.write_model.ensures

pub returns-in-Err : goal.returns-in-Err
returns-in-Err c = described_refused _ _ _ c.in-Err.e (sym c.read.ensures ∙ c.in-Err.is) (omega (arith, c.if-answer-lt6.false)) (c.put.ensures _ _ _ _ _ _ (rw c.number.ensures refl))
