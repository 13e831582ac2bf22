-- `seipolku::seipolku_compare` meets its contract. Assumes nothing.
use mathlib.Core.Path.{refl}
use native.Mathlib.Omega.{arith}
use Rattle.seipolku.proofs.seipolku_compare.Goals as goal

pub returns-then-answer-lt-WORDS : goal.returns-then-answer-lt-WORDS
returns-then-answer-lt-WORDS c =
    record { short = λ _. (refl, refl, refl, refl); long = λ h. absurd (omega (arith, c.if-answer-lt-WORDS.true)) }

pub returns : goal.returns
returns c =
    let w = c.write.ensures in
    let d = c.compare-a in
    record { short = λ h. absurd (omega (arith, c.if-answer-lt-WORDS.false)); long = λ _. (d.result, d.ensures, w.0, w.1) }
