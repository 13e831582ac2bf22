-- Binary digits, and the bit of a look-up at a level. Assumes nothing.
use mathlib.Core.Path.{◌≡◌, refl, sym, ap, ◌∙◌}
use mathlib.Core.Logic.{◌≢◌}
use mathlib.Core.Bool.{false}
use Prim.Native.Nat.{ℕ, zero, suc, ◌/◌, ◌%◌, ◌-◌, ◌^◌, ◌≤◌, ◌<◌}
use native.Mathlib.Decide.{ℕ_discrete}
use native.Mathlib.Omega.{arith}
use borrow.Author.Tests.{le-ltb}
use lib.Dec.{eqb}
use Rattle.std.proofs.lemmas.Nat.Bits.{bit_at-suc, bit_at_lowest, bit_at_above}
use Rattle.std.specs.Int.{bit_at}
use Rattle.std.specs.Option.{unwrap_or}
use Rattle.std.specs.Prelude.{Option, Some, None, SomeIff}
use Rattle.nodes.specs.Formula.{bit}
use Rattle.nodes.specs.Lookup.{slot_code, looked_up}

bit_is_bit_at : (n k : ℕ) → eqb (bit_at n k) 1 ≡ bit n k
bit_is_bit_at n zero = rw (bit_at_lowest n) refl
bit_is_bit_at n (suc k) = rw (bit_at-suc n k) (bit_is_bit_at (n / 2) k)

bit_above : (n k : ℕ) → n < 2 ^ 64 → 64 ≤ k → bit n k ≡ false
bit_above n k h g = sym (bit_is_bit_at n k) ∙ ap (λ x. eqb x 1) (bit_at_above n 64 k h g)

-- what `checked_shr` leaves has the digit at its end
pub shifted_digit : (n k : ℕ) (r : Option ℕ) → n < 2 ^ 64 → SomeIff r (k < 64) (n / 2 ^ k) → eqb (unwrap_or r 0 % 2) 1 ≡ bit n k
shifted_digit n k (Some m) h e = ap (λ x. eqb (x % 2) 1) e.1 ∙ bit_is_bit_at n k
shifted_digit n k None h e = sym (bit_above n k h (omega (arith, e)))

pub bit_none : (k : ℕ) → bit 0 k ≡ false
bit_none zero = refl
bit_none (suc k) = bit_none k

-- ---- the bit at a level whose slot has no code

module _ (α x x' y y' v : ℕ) (h : 6 ≤ v) where
  empty_slot : (s : ℕ) → (v - 6) % 6 ≡ s → slot_code x x' y y' s ≡ 0 → looked_up α x x' y y' v ≡ false
  unfolding looked_up
  empty_slot s e f = rw (le-ltb v 6 h, e, f) (bit_none ((v - 6) / 6))

  pub middle_level : (v - 6) % 6 ≢ 0 → (v - 6) % 6 ≢ 1 → (v - 6) % 6 ≢ 3 → (v - 6) % 6 ≢ 4 → looked_up α x x' y y' v ≡ false
  middle_level a b c d = go (ℕ_discrete ((v - 6) % 6) 2)
    where
      go : Dec ((v - 6) % 6 ≡ 2) → looked_up α x x' y y' v ≡ false
      go (yes e) = empty_slot 2 e refl
      go (no e) = empty_slot 5 (omega arith) refl
