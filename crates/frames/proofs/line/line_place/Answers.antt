-- `frames::line::line_place` meets its contract: it goes on from line to line. Assumes nothing.
use Rattle.std.proofs.Common.{◌≡◌, ℕ, zero, suc, ◌+◌, List, refl, ap, ◌∙◌, arith, rules, tests}
use Rattle.std.specs.List.{fold, range_with_len}
use Rattle.std.proofs.lemmas.Iterator.{YieldsList-from_range}
use Rattle.std.proofs.lemmas.Iterator.Consumers.{fold_from_yields_List}
use Rattle.frames.specs.Line.{place_after}
use Rattle.frames.specs.internal.Lines.{place_of}
use Rattle.frames.proofs.line.line_place.Goals as goal

-- n lines on from line i
lines_on : (t : List ℕ) (n a i : ℕ) → fold (λ at x. place_after t at) (place_of t i) (range_with_len a n) ≡ place_of t (i + n)
unfolding place_of
lines_on t zero a i = let e : i ≡ i + 0 = omega arith in ap (place_of t) e
lines_on t (suc n) a i = let e : suc i + n ≡ i + suc n = omega arith in lines_on t n _ (suc i) ∙ ap (place_of t) e

pub returns : goal.returns
unfolding place_of
returns c =
    let k = c.args.k in
    let t = c.args.text.now in
    let e : 0 + k ≡ k = omega arith in
    fold_from_yields_List _ (λ at x. place_after t at) 0 _ c.fold.ensures.ran (YieldsList-from_range 0 k k refl (omega arith)) (λ a x b q d. search (rules, tests))
    ∙ lines_on t k 0 0 ∙ ap (place_of t) e
