-- Laws of digits and bytes, and what decoding answers. Assumes nothing.
use Rattle.std.proofs.Common.{◌≡◌, ℕ, zero, suc, ◌+◌, ◌-◌, ◌*◌, ◌/◌, ◌%◌, ◌<◌, ◌≤◌, Bool, true, false, cond, ◌&&◌, ltb, leb, ◌↔◌, List, [], ◌∷◌, length, get_or, drop, Result, Ok, Err, refl, ap, ◌∙◌, le_refl, not-suc-le-zero, add-one, arith, drop_of_length-le, drop-cons, ltb-false, ltb-true, le-ltb, le-leb, leb-false, leb-true}
use mathlib.Core.Bool.{false≢true}
use borrow.Author.Tests.{lt-leb}
use Rattle.frames.specs.Bytes.{hex_value, is_hex, all, spelt, bytes_of, max_bytes}
use Rattle.frames.specs.internal.Decoded.{decoded}
use Rattle.frames.specs.declared.bytes.DecodeError.{DecodeError}
use Rattle.frames.specs.declared.bytes.DecodeError.TheVariants.{Stray, Long}

-- both sides of a conjunction that is true
pub both : (a b : Bool) → (a && b) ≡ true → (a ≡ true) × (b ≡ true)
both true b e = (refl, e)
both false b e = absurd (false≢true e)

-- a property of both sides of a choice, each under its test
pub choice : (P : ℕ → Type 0) (b : Bool) (x y : ℕ) → (b ≡ true → P x) → (b ≡ false → P y) → P (cond b x y)
choice P true x y f g = f refl
choice P false x y f g = g refl

-- ---- digits and bytes

pub hex_value_le : (c : ℕ) → hex_value c ≤ 16
unfolding hex_value
hex_value_le c =
    choice (λ (v : ℕ). v ≤ 16) (ltb c 48) 16 _ (λ _. le_refl 16)
    (λ _. choice (λ (v : ℕ). v ≤ 16) (leb c 57) (c - 48) _ (λ h. omega (arith, leb-true c 57 h))
    (λ _. choice (λ (v : ℕ). v ≤ 16) (ltb c 65) 16 _ (λ _. le_refl 16)
    (λ _. choice (λ (v : ℕ). v ≤ 16) (leb c 70) (c - 55) 16 (λ h. omega (arith, leb-true c 70 h)) (λ _. le_refl 16))))

-- the value of a digit by what is left of the byte past 48 and past 65, differences that wrap
module _ (c d : ℕ) (is : (d + 48) % 256 ≡ c) where
  pub hex_digit : d < 10 → d ≡ hex_value c
  unfolding hex_value
  hex_digit h = rw (le-ltb c 48 (omega arith), le-leb c 57 (omega arith)) (omega arith)

  module _ (range : d < 256) (no : 10 ≤ d) (l : ℕ) (past : (l + 65) % 256 ≡ c) where
    pub hex_letter : l < 6 → l + 10 ≡ hex_value c
    unfolding hex_value
    hex_letter h = rw (le-ltb c 48 (omega arith), lt-leb c 57 (omega arith), le-ltb c 65 (omega arith), le-leb c 70 (omega arith)) (omega arith)

    pub hex_none : l < 256 → 6 ≤ l → 16 ≡ hex_value c
    unfolding hex_value
    hex_none r h =
        choice (λ (v : ℕ). 16 ≡ v) (ltb c 48) 16 _ (λ _. refl)
        (λ p. choice (λ (v : ℕ). 16 ≡ v) (leb c 57) (c - 48) _ (λ q. omega (arith, ltb-false c 48 p, leb-true c 57 q))
        (λ _. choice (λ (v : ℕ). 16 ≡ v) (ltb c 65) 16 _ (λ _. refl)
        (λ q. choice (λ (v : ℕ). 16 ≡ v) (leb c 70) (c - 55) 16 (λ k. omega (arith, ltb-false c 65 q, leb-true c 70 k)) (λ _. refl))))

pub length_bytes : (d : List ℕ) → length (bytes_of d) ≡ length d / 2
unfolding bytes_of
length_bytes [] = refl
length_bytes (a ∷ []) = refl
length_bytes (a ∷ b ∷ ds) = ap suc (length_bytes ds) ∙ omega arith

-- byte i is spelt by the digits 2 · i and 2 · i + 1
pub byte_digits : (d : List ℕ) (i : ℕ) → i < length d / 2 → get_or (bytes_of d) i 0 ≡ hex_value (get_or d (2 * i) 0) * 16 + hex_value (get_or d (2 * i + 1) 0)
unfolding bytes_of
byte_digits [] i h = absurd (not-suc-le-zero h)
byte_digits (a ∷ []) i h = absurd (not-suc-le-zero h)
byte_digits (a ∷ b ∷ ds) zero h = refl
byte_digits (a ∷ b ∷ ds) (suc i) h =
    let e : 2 * suc i ≡ suc (suc (2 * i)) = omega arith in
    let e' : suc (suc (2 * i)) + 1 ≡ suc (suc (2 * i + 1)) = omega arith in
    rw (e, e') (byte_digits ds i (omega arith))

-- ---- a test at each element, from a place on

pub all_stop : (f : ℕ → Bool) (l : List ℕ) (i : ℕ) → i < length l → f (get_or l i 0) ≡ false → all f (drop i l) ≡ false
unfolding all
all_stop f l i h e = rw (drop-cons l i 0 h, e)

pub all_on : (f : ℕ → Bool) (l : List ℕ) (i : ℕ) → i < length l → f (get_or l i 0) ≡ true → all f (drop i l) ≡ all f (drop (i + 1) l)
unfolding all
all_on f l i h e = rw (drop-cons l i 0 h, e, add-one)

pub all_past : (f : ℕ → Bool) (l : List ℕ) (i : ℕ) → length l ≤ i → all f (drop i l) ≡ true
unfolding all
all_past f l i h = rw drop_of_length-le

-- where it passes at each element, it does at any one
pub all_at : (f : ℕ → Bool) (l : List ℕ) (i : ℕ) → all f l ≡ true → i < length l → f (get_or l i 0) ≡ true
unfolding all
all_at f [] i e h = absurd (not-suc-le-zero h)
all_at f (x ∷ l) zero e h = (both (f x) (all f l) e).0
all_at f (x ∷ l) (suc i) e h = all_at f l i (both (f x) (all f l) e).1 (omega arith)

-- ---- digits that spell bytes

module _ (ds : List ℕ) (ok : spelt ds ≡ true) where
  pub digit_small : (i : ℕ) → i < length ds → hex_value (get_or ds i 0) < 16
  unfolding spelt is_hex
  digit_small i h = ltb-true (hex_value (get_or ds i 0)) 16 (all_at is_hex ds i (both (all is_hex ds) _ ok).0 h)

  -- each byte is below 256
  pub byte_small : (i : ℕ) → i < length (bytes_of ds) → get_or (bytes_of ds) i 0 < 256
  byte_small i h =
      let l : i < length ds / 2 = omega (arith, length_bytes ds) in
      omega (arith, byte_digits ds i l, digit_small (2 * i) (omega arith), digit_small (2 * i + 1) (omega arith))

-- ---- what decoding answers

-- the answer, by the two tests
abbrev answer_by : List ℕ → Bool → Bool → Result (List ℕ) DecodeError
answer_by ds ok short = cond ok (cond short (Ok (bytes_of ds)) (Err Long)) (Err Stray)

module _ (ds : List ℕ) where
  pub decoded_stray : spelt ds ≡ false → decoded ds ≡ Err Stray
  unfolding decoded
  decoded_stray e = rw e

  pub decoded_long : spelt ds ≡ true → max_bytes < length (bytes_of ds) → decoded ds ≡ Err Long
  unfolding decoded
  decoded_long e l = rw (e, lt-leb (length (bytes_of ds)) max_bytes l)

  pub decoded_bytes : spelt ds ≡ true → length (bytes_of ds) ≤ max_bytes → decoded ds ≡ Ok (bytes_of ds)
  unfolding decoded
  decoded_bytes e l = rw (e, le-leb (length (bytes_of ds)) max_bytes l)

  -- Stray: some byte is no digit, or a digit is alone.
  pub stray : (decoded ds ≡ Err Stray) ↔ (spelt ds ≡ false)
  unfolding decoded
  stray = (go (spelt ds) (leb (length (bytes_of ds)) max_bytes), decoded_stray)
    where
      go : (ok short : Bool) → answer_by ds ok short ≡ Err Stray → ok ≡ false
      go true true e = cc
      go true false e = cc
      go false short e = refl

  -- Long: the digits spell more than 255 bytes.
  pub long : (decoded ds ≡ Err Long) ↔ ((spelt ds ≡ true) × (max_bytes < length (bytes_of ds)))
  unfolding decoded
  long = (go (spelt ds) (leb (length (bytes_of ds)) max_bytes) refl refl, λ (e, l). decoded_long e l)
    where
      go : (ok short : Bool) → spelt ds ≡ ok → leb (length (bytes_of ds)) max_bytes ≡ short → answer_by ds ok short ≡ Err Long → (spelt ds ≡ true) × (max_bytes < length (bytes_of ds))
      go true true p q e = absurd (cc)
      go true false p q e = (p, leb-false (length (bytes_of ds)) max_bytes q)
      go false short p q e = absurd (cc)

-- Bytes: they are those that the digits spell, at most 255.
pub record Decodes (ds b : List ℕ) : Type 0 where
  pub spelt_whole : spelt ds ≡ true
  pub handed : b ≡ bytes_of ds
  pub short : length b ≤ max_bytes
  pub small : (i : ℕ) → i < length b → get_or b i 0 < 256

pub decodes : (ds b : List ℕ) → decoded ds ≡ Ok b → Decodes ds b
unfolding decoded
decodes ds b e = go (spelt ds) (leb (length (bytes_of ds)) max_bytes) refl refl e
  where
    go : (ok short : Bool) → spelt ds ≡ ok → leb (length (bytes_of ds)) max_bytes ≡ short → answer_by ds ok short ≡ Ok b → Decodes ds b
    go true true p q x =
        let same : b ≡ bytes_of ds = cc in
        record {
          spelt_whole = p;
          handed = same;
          short = rw same (leb-true (length (bytes_of ds)) max_bytes q);
          small = rw same (byte_small ds p);
        }
    go true false p q x = absurd (cc)
    go false short p q x = absurd (cc)
