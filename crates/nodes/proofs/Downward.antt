-- Levels that are gone through from the highest down. Assumes nothing.
--     some_down, renamed_down, same_down     one level more
--     some_done, renamed_done, same_done     no level is left
--     some_full, renamed_full, same_full     the levels that are left, on a full manager
use mathlib.Core.Path.{◌≡◌, subst}
use mathlib.Core.Bool.{true}
use Prim.Native.Nat.{ℕ, zero, suc, ◌+◌, ◌-◌, ◌*◌, ◌≤◌, ◌<◌}
use native.Mathlib.Omega.{arith}
use Rattle.nodes.specs.Formula.{some, renamed}
use Rattle.nodes.specs.internal.Several.{some_from, renamed_from}
use Rattle.nodes.specs.internal.Single.{Guards, numbers_same, paired}
use Rattle.nodes.specs.internal.Work.{Store, Lists, Maps}
use Rattle.nodes.proofs.Singles.{maps_then, lists_paired}
use Rattle.nodes.proofs.Stopping.{more_some, more_renamed, full_maps, full_guards}

-- P u n holds where n steps from u on are done: a step at u does one more, and the last is the one at 0
module _ (P : ℕ → ℕ → Type 0) (step : (u m : ℕ) → P (u + 1) m → P u (m + 1)) where
  all_steps : (u m : ℕ) → P u m → P 0 (u + m)
  all_steps zero m x = subst (P 0) (omega arith) x
  all_steps (suc u) m x = subst (P 0) (omega arith) (all_steps u (m + 1) (step u m (subst (λ (k : ℕ). P k m) (omega arith) x)))

no_steps : (P : ℕ → ℕ → Type 0) (n k : ℕ) → k ≤ 0 → P k (n - k) → P 0 n
no_steps P n k e x = subst (P 0) {x = n - k} (omega (arith, e)) (subst (λ (u : ℕ). P u (n - k)) (omega (arith, e)) x)

-- the m levels from the one of digit u on
abbrev pub SomeAfter : ℕ → ℕ → Store → ℕ → Store → ℕ → ℕ → ℕ → Type 0
SomeAfter v a s f s₁ i u m = Maps s s₁ (some_from (v + u * a) a m) f i

abbrev pub RenamedAfter : ℕ → ℕ → ℕ → Store → ℕ → Store → ℕ → ℕ → ℕ → Type 0
RenamedAfter v w a s f s₁ i u m = Maps s s₁ (renamed_from (v + u * a) (w + u * a) a m) f i

abbrev pub SameAfter : ℕ → ℕ → Store → Store → ℕ → ℕ → ℕ → Type 0
SameAfter v a s s₁ i u m = Lists s s₁ (numbers_same (v + u * a) a m) i

module _ (v a : ℕ) {s s₁ : Store} {f i : ℕ} where
  some_step : {s₂ : Store} {j : ℕ} (u m : ℕ) → SomeAfter v a s f s₁ i (u + 1) m → Maps s₁ s₂ (some (v + u * a)) i j → SomeAfter v a s f s₂ j u (m + 1)
  some_step {s₂} {j} u m x y =
      let next : v + (u + 1) * a ≡ v + u * a + a = omega arith in
      let more : suc m ≡ m + 1 = omega arith in
      subst (SomeAfter v a s f s₂ j u) more
      (maps_then (some_from (v + u * a + a) a m) (some (v + u * a)) (subst (λ (b : ℕ). Maps s s₁ (some_from b a m) f i) next x) y)

  pub some_down : {s₂ : Store} {j : ℕ} (n k : ℕ) {w : ℕ} → 0 < k → k ≤ n → w ≡ v + (k - 1) * a → SomeAfter v a s f s₁ i k (n - k) → Maps s₁ s₂ (some w) i j
      → SomeAfter v a s f s₂ j (k - 1) (n - (k - 1))
  some_down {s₂} {j} n k l m e x y =
      subst (SomeAfter v a s f s₂ j (k - 1)) (omega (arith, l, m))
      (some_step (k - 1) (n - k) (subst (λ (u : ℕ). SomeAfter v a s f s₁ i u (n - k)) (omega (arith, l)) x) (subst (λ (u : ℕ). Maps s₁ s₂ (some u) i j) e y))

  first_some : (n : ℕ) → SomeAfter v a s f s₁ i 0 n → Maps s s₁ (some_from v a n) f i
  first_some n x = let first : v + 0 * a ≡ v = omega arith in subst (λ (b : ℕ). Maps s s₁ (some_from b a n) f i) first x

  pub some_done : (n k : ℕ) → k ≤ 0 → SomeAfter v a s f s₁ i k (n - k) → Maps s s₁ (some_from v a n) f i
  some_done n k e x = first_some n (no_steps (SomeAfter v a s f s₁ i) n k e x)

  pub some_full : s₁.full ≡ true → (n k : ℕ) → k ≤ n → SomeAfter v a s f s₁ i k (n - k) → Maps s s₁ (some_from v a n) f i
  some_full full n k m x =
      let all : k + (n - k) ≡ n = omega (arith, m) in
      first_some n (subst (SomeAfter v a s f s₁ i 0) all
      (all_steps (SomeAfter v a s f s₁ i) (λ u d z. some_step u d z (full_maps full (more_some (v + u * a)))) k (n - k) x))

module _ (v w a : ℕ) {s s₁ : Store} {f i : ℕ} where
  renamed_step : {s₂ : Store} {j : ℕ} (u m : ℕ) → RenamedAfter v w a s f s₁ i (u + 1) m → Maps s₁ s₂ (renamed (v + u * a) (w + u * a)) i j → RenamedAfter v w a s f s₂ j u (m + 1)
  renamed_step {s₂} {j} u m x y =
      let next : v + (u + 1) * a ≡ v + u * a + a = omega arith in
      let next′ : w + (u + 1) * a ≡ w + u * a + a = omega arith in
      let more : suc m ≡ m + 1 = omega arith in
      subst (RenamedAfter v w a s f s₂ j u) more
      (maps_then (renamed_from (v + u * a + a) (w + u * a + a) a m) (renamed (v + u * a) (w + u * a))
      (subst (λ (b : ℕ). Maps s s₁ (renamed_from b (w + u * a + a) a m) f i) next (subst (λ (b : ℕ). Maps s s₁ (renamed_from (v + (u + 1) * a) b a m) f i) next′ x)) y)

  pub renamed_down : {s₂ : Store} {j : ℕ} (n k : ℕ) {p q : ℕ} → 0 < k → k ≤ n → p ≡ v + (k - 1) * a → q ≡ w + (k - 1) * a → RenamedAfter v w a s f s₁ i k (n - k)
      → Maps s₁ s₂ (renamed p q) i j → RenamedAfter v w a s f s₂ j (k - 1) (n - (k - 1))
  renamed_down {s₂} {j} n k {p} l m e d x y =
      subst (RenamedAfter v w a s f s₂ j (k - 1)) (omega (arith, l, m))
      (renamed_step (k - 1) (n - k) (subst (λ (u : ℕ). RenamedAfter v w a s f s₁ i u (n - k)) (omega (arith, l)) x)
      (subst (λ (b : ℕ). Maps s₁ s₂ (renamed b (w + (k - 1) * a)) i j) e (subst (λ (b : ℕ). Maps s₁ s₂ (renamed p b) i j) d y)))

  first_renamed : (n : ℕ) → RenamedAfter v w a s f s₁ i 0 n → Maps s s₁ (renamed_from v w a n) f i
  first_renamed n x =
      let first : v + 0 * a ≡ v = omega arith in
      let first′ : w + 0 * a ≡ w = omega arith in
      subst (λ (b : ℕ). Maps s s₁ (renamed_from b w a n) f i) first (subst (λ (b : ℕ). Maps s s₁ (renamed_from (v + 0 * a) b a n) f i) first′ x)

  pub renamed_done : (n k : ℕ) → k ≤ 0 → RenamedAfter v w a s f s₁ i k (n - k) → Maps s s₁ (renamed_from v w a n) f i
  renamed_done n k e x = first_renamed n (no_steps (RenamedAfter v w a s f s₁ i) n k e x)

  pub renamed_full : s₁.full ≡ true → (n k : ℕ) → k ≤ n → RenamedAfter v w a s f s₁ i k (n - k) → Maps s s₁ (renamed_from v w a n) f i
  renamed_full full n k m x =
      let all : k + (n - k) ≡ n = omega (arith, m) in
      first_renamed n (subst (RenamedAfter v w a s f s₁ i 0) all
      (all_steps (RenamedAfter v w a s f s₁ i) (λ u d z. renamed_step u d z (full_maps full (more_renamed (v + u * a) (w + u * a)))) k (n - k) x))

module _ (v a : ℕ) (two : 2 ≤ a) {s s₁ : Store} {i : ℕ} where
  same_step : {s₂ : Store} {j : ℕ} (u m : ℕ) → SameAfter v a s s₁ i (u + 1) m → Guards s₁ s₂ (v + u * a + 1 + 1) (paired (v + u * a) (v + u * a + 1)) i j
      → SameAfter v a s s₂ j u (m + 1)
  same_step {s₂} {j} u m x y =
      let next : v + (u + 1) * a ≡ v + u * a + a = omega arith in
      let more : suc m ≡ m + 1 = omega arith in
      subst (SameAfter v a s s₂ j u) more
      (lists_paired (v + u * a) a m two (subst (λ (b : ℕ). Lists s s₁ (numbers_same b a m) i) next x) y)

  pub same_down : {s₂ : Store} {j : ℕ} (n k : ℕ) {w : ℕ} → 0 < k → k ≤ n → w ≡ v + (k - 1) * a → SameAfter v a s s₁ i k (n - k) → Guards s₁ s₂ (w + 1 + 1) (paired w (w + 1)) i j
      → SameAfter v a s s₂ j (k - 1) (n - (k - 1))
  same_down {s₂} {j} n k l m e x y =
      subst (SameAfter v a s s₂ j (k - 1)) (omega (arith, l, m))
      (same_step (k - 1) (n - k) (subst (λ (u : ℕ). SameAfter v a s s₁ i u (n - k)) (omega (arith, l)) x)
      (subst (λ (u : ℕ). Guards s₁ s₂ (u + 1 + 1) (paired u (u + 1)) i j) e y))

  first_same : (n : ℕ) → SameAfter v a s s₁ i 0 n → Lists s s₁ (numbers_same v a n) i
  first_same n x = let first : v + 0 * a ≡ v = omega arith in subst (λ (b : ℕ). Lists s s₁ (numbers_same b a n) i) first x

  pub same_done : (n k : ℕ) → k ≤ 0 → SameAfter v a s s₁ i k (n - k) → Lists s s₁ (numbers_same v a n) i
  same_done n k e x = first_same n (no_steps (SameAfter v a s s₁ i) n k e x)

  pub same_full : s₁.full ≡ true → (n k : ℕ) → k ≤ n → SameAfter v a s s₁ i k (n - k) → Lists s s₁ (numbers_same v a n) i
  same_full full n k m x =
      let all : k + (n - k) ≡ n = omega (arith, m) in
      first_same n (subst (SameAfter v a s s₁ i 0) all
      (all_steps (SameAfter v a s s₁ i) (λ u d z. same_step u d z (full_guards full)) k (n - k) x))
