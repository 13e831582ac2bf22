-- The walk of a look-up, an entry at a time. Assumes nothing.
use mathlib.Core.Path.{◌≡◌, refl, ◌∙◌}
use mathlib.Core.Logic.{◌⊎◌, inl, inr}
use mathlib.Core.Bool.{Bool, cond, ◌&&◌}
use Rattle.std.specs.Prelude.{Ok, Err}
use Prim.Native.Nat.{ℕ, zero, suc, ◌+◌, ◌-◌, ◌≤◌, ◌<◌}
use native.Mathlib.Nat.{not-suc-le-zero}
use native.Mathlib.Numerals.{add-one}
use native.Mathlib.Omega.{arith}
use borrow.Author.Tests.{lt-ltb, le-leb, lt-leb}
use lib.Dec.{eqb, ltb, leb}
use lib.ListN.{length, get_or}
use Rattle.nodes.specs.Fun.{Assignment}
use Rattle.nodes.specs.Table.{last_level}
use Rattle.nodes.specs.Lookup.{Slices, walk_from}
use Rattle.nodes.specs.declared.lookup.LookUpError.TheVariants.{Outside}

module _ (s : Slices) (a : Assignment) (from : ℕ) where
  pub walk_none : (n i : ℕ) → n ≤ 0 → walk_from n s a from i ≡ Err Outside
  unfolding walk_from
  walk_none zero i h = refl
  walk_none (suc n) i h = absurd (not-suc-le-zero h)

  pub walk_end : (n i : ℕ) → 0 < n → i < 2 → walk_from n s a from i ≡ Ok (eqb i 1)
  unfolding walk_from
  walk_end zero i h l = absurd (not-suc-le-zero h)
  walk_end (suc n) zero h l = refl
  walk_end (suc n) (suc zero) h l = refl
  walk_end (suc n) (suc (suc k)) h l = absurd (omega arith)

  -- a step on from a node, where its level is in order
  pub walk_at : (n i : ℕ) → 0 < n → 2 ≤ i → walk_from n s a from i
      ≡ cond (ltb i (length s.level) && (leb from (get_or s.level i 0) && leb (get_or s.level i 0) last_level))
      (walk_from (n - 1) s a (get_or s.level i 0 + 1) (cond (a (get_or s.level i 0)) (get_or s.high i 0) (get_or s.low i 0))) (Err Outside)
  unfolding walk_from
  walk_at zero i h two = absurd (not-suc-le-zero h)
  walk_at (suc n) zero h two = absurd (omega arith)
  walk_at (suc n) (suc zero) h two = absurd (omega arith)
  walk_at (suc n) (suc (suc k)) h two = let e : suc n - 1 ≡ n = omega arith in rw (e, add-one (get_or s.level (suc (suc k)) 0)) refl

  module _ (n i : ℕ) (some : 0 < n) (two : 2 ≤ i) (h : i < length s.level) where
    -- its level is out of order
    pub walk_off : (get_or s.level i 0 < from) ⊎ ((from ≤ get_or s.level i 0) × (last_level < get_or s.level i 0)) → walk_from n s a from i ≡ Err Outside
    walk_off (inl l) = walk_at n i some two ∙ rw (lt-ltb i (length s.level) h, lt-leb from (get_or s.level i 0) l) refl
    walk_off (inr (l, u)) =
        walk_at n i some two ∙ rw (lt-ltb i (length s.level) h, le-leb from (get_or s.level i 0) l, lt-leb (get_or s.level i 0) last_level u) refl

    -- on to the child by the bit b at its level
    pub walk_on : (m child : ℕ) {b : Bool} → n ≡ m + 1 → from ≤ get_or s.level i 0 → get_or s.level i 0 ≤ last_level
        → b ≡ a (get_or s.level i 0) → child ≡ cond b (get_or s.high i 0) (get_or s.low i 0)
        → walk_from n s a from i ≡ walk_from m s a (get_or s.level i 0 + 1) child
    walk_on m child d l u e f =
        let o : n - 1 ≡ m = omega arith in
        walk_at n i some two
        ∙ rw (o, lt-ltb i (length s.level) h, le-leb from (get_or s.level i 0) l, le-leb (get_or s.level i 0) last_level u, f, e) refl
