-- Six words written at once are those written one by one. Assumes nothing.
use mathlib.Core.Path.{◌≡◌, refl, ap}
use mathlib.Core.List.{List, [], ◌∷◌}
use Prim.Native.Nat.{ℕ, zero, suc, ◌+◌, ◌≤◌}
use native.Mathlib.Omega.{arith}
use native.Mathlib.Numerals.{unary_clauses}
use lib.ListN.{length}
use borrow.Rule.Slice.PartMut.{put_mid}
use Rattle.seipolku.specs.Exported.{six}

pub at_once : (at : ℕ) (words : List ℕ) (a b c d e f : ℕ) → at + 6 ≤ length words
    → put_mid at 6 words (a ∷ b ∷ c ∷ d ∷ e ∷ f ∷ []) ≡ six words at a b c d e f
at_once zero (u ∷ v ∷ w ∷ x ∷ y ∷ z ∷ words) a b c d e f h = refl
at_once (suc at) (u ∷ words) a b c d e f h =
    let then = at_once at words a b c d e f (omega arith) in
    simp unary_clauses (ap (λ l. u ∷ l) (simp unary_clauses at then))
at_once zero [] a b c d e f h = absurd (omega arith)
at_once zero (u ∷ []) a b c d e f h = absurd (omega arith)
at_once zero (u ∷ v ∷ []) a b c d e f h = absurd (omega arith)
at_once zero (u ∷ v ∷ w ∷ []) a b c d e f h = absurd (omega arith)
at_once zero (u ∷ v ∷ w ∷ x ∷ []) a b c d e f h = absurd (omega arith)
at_once zero (u ∷ v ∷ w ∷ x ∷ y ∷ []) a b c d e f h = absurd (omega arith)
at_once (suc at) [] a b c d e f h = absurd (omega arith)
