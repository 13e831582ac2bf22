-- A look-up from an entry of a table in order gives the value of what the entry stands for. Assumes nothing.
use mathlib.Core.Path.{◌≡◌, refl, sym, ap, ◌∙◌, subst}
use mathlib.Core.Bool.{Bool, true, false, cond}
use mathlib.Core.List.{[], ◌∷◌}
use Prim.Native.Nat.{ℕ, zero, suc, ◌+◌, ◌≤◌, ◌<◌, zero-le}
use native.Mathlib.Omega.{arith}
use borrow.Author.Tests.{lt-ltb, le-leb, leb-true, eq-eqb, eqb-true}
use lib.Dec.{ltb, leb, eqb}
use lib.ListN.{length}
use Rattle.std.specs.Prelude.{Ok}
use Rattle.nodes.specs.Fun.{Assignment, Fun, digit}
use Rattle.nodes.specs.Table.{Table, table, last_level, max_length, level_of, low_of, high_of, choice, den, WellFormed}
use Rattle.nodes.specs.internal.Start.{Fits}
use Rattle.nodes.proofs.Tables.{den_0, den_1, den_node}
use Rattle.nodes.proofs.Working.{and_both}
use Rattle.nodes.specs.Lookup.{looked_up, Slices, table_fits, number_of, values_of, walk_from, small, look_up}

module _ (s : Slices) (used : ℕ) (formed : WellFormed (table s.level s.low s.high used)) (a : Assignment) where
  abbrev t : Table
  t = table s.level s.low s.high used

  -- the child of node i
  child : ℕ → ℕ
  child i = cond (a (level_of t i)) (high_of t i) (low_of t i)

  by_child : (P : ℕ → Type 0) (i : ℕ) → P (high_of t i) → P (low_of t i) → P (child i)
  unfolding child
  by_child P i h l = go (a (level_of t i))
    where
      go : (b : Bool) → P (cond b (high_of t i) (low_of t i))
      go true = h
      go false = l

  den_child : (i : ℕ) → 2 ≤ i → i < used → den t i a ≡ den t (child i) a
  unfolding child choice
  den_child i h k = ap (λ (f : Fun). f a) (den_node t formed i h k) ∙ go (a (level_of t i))
    where
      go : (b : Bool) → cond b (den t (high_of t i) a) (den t (low_of t i) a) ≡ den t (cond b (high_of t i) (low_of t i)) a
      go true = refl
      go false = refl

  walks : (n from i : ℕ) → i < used → (2 ≤ i → from ≤ level_of t i) → from ≤ last_level + 1 → last_level + 2 ≤ n + from → walk_from n s a from i ≡ Ok (den t i a)
  unfolding walk_from child
  walks zero from i h above most enough = absurd (omega arith)
  walks (suc n) from zero h above most enough = ap (λ (b : Bool). Ok b) (sym (den_0 t a))
  walks (suc n) from (suc zero) h above most enough = ap (λ (b : Bool). Ok b) (sym (den_1 t a))
  walks (suc n) from (suc (suc k)) h above most enough =
      let i = suc (suc k) in
      let order = formed.nodes i (omega arith) h in
      let inside : ltb i (length s.level) ≡ true = lt-ltb i (length s.level) (omega (arith, formed.room)) in
      let lower : leb from (level_of t i) ≡ true = le-leb from (level_of t i) (above (omega arith)) in
      let upper : leb (level_of t i) last_level ≡ true = le-leb (level_of t i) last_level order.in_range in
      rw (inside, lower, upper)
      (walks n (suc (level_of t i)) (child i)
      (by_child (λ c. c < used) i (omega (arith, order.high_before)) (omega (arith, order.low_before)))
      (λ two. by_child (λ c. suc (level_of t i) ≤ level_of t c) i order.high_deeper order.low_deeper)
      (omega (arith, order.in_range)) (omega (arith, above (omega arith)))
      ∙ ap (λ (b : Bool). Ok b) (sym (den_child i (omega arith) h)))

-- the slices of a table in order fit
pub formed_fits : (s : Slices) (used : ℕ) → WellFormed (table s.level s.low s.high used) → table_fits s ≡ true
unfolding table_fits
formed_fits s used formed =
    let low : eqb (length s.low) (length s.level) ≡ true = eq-eqb (length s.low) (length s.level) formed.low_length in
    let high : eqb (length s.high) (length s.level) ≡ true = eq-eqb (length s.high) (length s.level) formed.high_length in
    let least : leb 2 (length s.level) ≡ true = le-leb 2 (length s.level) (omega (arith, formed.some, formed.room)) in
    let most : leb (length s.level) max_length ≡ true = le-leb (length s.level) max_length formed.most in
    rw (low, high, least, most) refl

-- In a table in order no look-up from an entry in use is refused, and it gives the value of what the entry stands for.
pub looks_up : (s : Slices) (used : ℕ) → WellFormed (table s.level s.low s.high used) → (root α x x' y y' : ℕ) → root < used
    → small α x x' y y' ≡ true → look_up s root α x x' y y' ≡ Ok (den (table s.level s.low s.high used) root (looked_up α x x' y y'))
unfolding look_up
looks_up s used formed root α x x' y y' h ok =
    rw (formed_fits s used formed, ok) (walks s used formed (looked_up α x x' y y') (last_level + 2) 0 root h (λ _. zero-le) zero-le (omega arith))

-- the same by document 01's number and values
pub looks_up_values : (s : Slices) (used : ℕ) → WellFormed (table s.level s.low s.high used) → (root α x x' y y' : ℕ) → root < used
    → small α x x' y y' ≡ true
    → (number_of (look_up s root α x x' y y') ≡ 0)
    × (values_of (look_up s root α x x' y y') ≡ digit (den (table s.level s.low s.high used) root (looked_up α x x' y y')) ∷ [])
looks_up_values s used formed root α x x' y y' h ok =
    let e = looks_up s used formed root α x x' y y' h ok in
    (ap number_of e, ap values_of e)

-- slices that fit, of which the last two hold a table
pub fitting : (s : Slices) → table_fits s ≡ true → (length s.low ≡ length s.level) × Fits s.low s.high
unfolding table_fits
fitting s e =
    let a = and_both (eqb (length s.low) (length s.level)) _ e in
    let b = and_both (eqb (length s.high) (length s.level)) _ a.1 in
    let c = and_both (leb 2 (length s.level)) _ b.1 in
    let low = eqb-true (length s.low) (length s.level) a.0 in (
      low,
      record {
        high_length = eqb-true (length s.high) (length s.level) b.0 ∙ sym low;
        least = subst (λ (n : ℕ). 2 ≤ n) (sym low) (leb-true 2 (length s.level) c.0);
        most = subst (λ (n : ℕ). n ≤ max_length) (sym low) (leb-true (length s.level) max_length c.1);
      },
    )
