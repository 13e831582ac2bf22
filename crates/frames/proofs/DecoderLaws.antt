-- Laws of decoding in one pass: a line may be cut anywhere, and what comes out is what decoding the whole line answers. Assumes nothing.
use Rattle.std.proofs.Common.{◌≡◌, ℕ, zero, suc, ◌+◌, ◌-◌, ◌*◌, ◌/◌, ◌%◌, ◌<◌, ◌≤◌, min, Bool, true, false, cond, not, ◌&&◌, ◌||◌, eqb, ltb, leb, ◌⊎◌, List, [], ◌∷◌, ◌++◌, length, get_or, take, drop, set, replicate, fold, Option, Some, None, Ok, Err, sym, refl, ap, ◌∙◌, subst, ap₂, inl, inr, add-zero, mod-eq_of_lt, add-one, arith, length-drop, drop-drop, take-append-drop, take_all, take_at, drop-cons, take-add, ltb-false, ltb-true, le-ltb, lt-ltb, eq-eqb, ne_eqb, eqb-true, le-leb, leb-false, leb-true}
use mathlib.Core.Bool.{or-false}
use borrow.Author.Tests.{lt-leb, eqb-false}
use lib.Seq.{sets, sets-eq}
use Rattle.std.proofs.lemmas.List.{get_or-take, get_or-drop}
use Rattle.std.specs.Simd.{first_chunks}
use Rattle.std.specs.Option.{is_some, unwrap_or}
use Rattle.std.specs.List.{list_any, IsFirstAndRest}
use Rattle.frames.specs.Bytes.{hex_value, is_hex, all, spelt, bytes_of, max_bytes}
use Rattle.frames.specs.Decoder.{too_many, start, digit_of, stray_after, pushed_on, pushed, run, finished}
use Rattle.frames.specs.declared.bytes.DecodeError.TheVariants.{Stray, Long}
use Rattle.frames.specs.declared.decoder.Decoder.{Decoder}
use Rattle.frames.specs.internal.Alone.{last_alone}
use Rattle.frames.specs.internal.Decoded.{decoded}
use Rattle.frames.proofs.ByteLaws.{both, hex_value_le, length_bytes, decoded_stray, decoded_long, decoded_bytes}

-- a test that failed before, or fails at one of two
or_not : (s x z : Bool) → ((s || not x) || not z) ≡ (s || not (x && z))
or_not true x z = refl
or_not false true z = refl
or_not false false z = refl

-- states with equal fields
same_state : {s s' : Bool} {h h' : Option ℕ} {n n' : ℕ} {b : List ℕ} → s ≡ s' → h ≡ h' → n ≡ n' → ◌≡◌ {A = Decoder} (record { stray = s; half = h; count = n; bytes = b }) (record { stray = s'; half = h'; count = n'; bytes = b })
same_state {s' = s'} {h = h} {n = n} {b = b} p q r =
    ap (λ (x : Bool). record { stray = x; half = h; count = n; bytes = b }) p
    ∙ ap₂ (λ (x : Option ℕ) (y : ℕ). record { stray = s'; half = x; count = y; bytes = b }) q r

-- ---- a line may be cut anywhere

pub run_cut : (d : Decoder) (a b : List ℕ) → run d (a ++ b) ≡ run (run d a) b
unfolding run
run_cut d [] b = refl
run_cut d (c ∷ a) b = run_cut (pushed d c) a b

-- ---- one byte

pub digit_of_small : (c : ℕ) → digit_of c < 16
unfolding digit_of
digit_of_small c = omega arith

-- a digit goes on with its own value
digit_own : (c : ℕ) → is_hex c ≡ true → digit_of c ≡ hex_value c
unfolding digit_of is_hex
digit_own c e = mod-eq_of_lt {n = hex_value c} {m = 16} (ltb-true (hex_value c) 16 e)

-- what the code reads a byte as
abbrev pub read_as : ℕ → Option ℕ
read_as c = cond (is_hex c) (Some (hex_value c)) None

pub read_some : (c : ℕ) → is_some (read_as c) ≡ is_hex c
read_some c = go (is_hex c)
  where
    go : (b : Bool) → is_some {T = ℕ} (cond b (Some (hex_value c)) None) ≡ b
    go true = refl
    go false = refl

pub read_digit : (c : ℕ) → unwrap_or (read_as c) 0 ≡ digit_of c
unfolding digit_of is_hex
read_digit c = go (ltb (hex_value c) 16) refl
  where
    go : (b : Bool) → ltb (hex_value c) 16 ≡ b → unwrap_or {T = ℕ} (cond b (Some (hex_value c)) None) 0 ≡ hex_value c % 16
    go true e = sym (mod-eq_of_lt {n = hex_value c} {m = 16} (ltb-true (hex_value c) 16 e))
    go false e = let s : hex_value c ≡ 16 = omega (arith, ltb-false (hex_value c) 16 e, hex_value_le c) in rw s

module _ (c : ℕ) {o : Option ℕ} (is : o ≡ read_as c) where
  pub digit_is : {v : ℕ} → v ≡ unwrap_or o 0 → v ≡ digit_of c
  digit_is q = q ∙ ap (λ (o : Option ℕ). unwrap_or o 0) is ∙ read_digit c

  pub none_is : (r : Bool) → is_some o ≡ not r → r ≡ not (is_hex c)
  none_is r q = go r ∙ ap not (sym q ∙ ap (λ (o : Option ℕ). is_some o) is ∙ read_some c)
    where
      go : (b : Bool) → b ≡ not (not b)
      go true = refl
      go false = refl

stray_test : (c : ℕ) → eqb (hex_value c) 16 ≡ not (is_hex c)
unfolding is_hex
stray_test c = go (ltb (hex_value c) 16) refl
  where
    go : (b : Bool) → ltb (hex_value c) 16 ≡ b → eqb (hex_value c) 16 ≡ not b
    go true e = ne_eqb (hex_value c) 16 (λ q. omega (arith, ltb-true (hex_value c) 16 e))
    go false e = eq-eqb (hex_value c) 16 (omega (arith, ltb-false (hex_value c) 16 e, hex_value_le c))

-- some byte is no digit
pub any_stray : (l : List ℕ) → list_any (λ c. not (is_hex c)) l ≡ not (all is_hex l)
unfolding all
any_stray [] = refl
any_stray (c ∷ l) = ap (λ (b : Bool). not (is_hex c) || b) (any_stray l) ∙ or_not false (is_hex c) (all is_hex l)

-- noted byte by byte, after those before
pub stray_noted : (stray : Bool) (l : List ℕ) → fold (λ b c. b || not (is_hex c)) stray l ≡ (stray || list_any (λ c. not (is_hex c)) l)
stray_noted stray [] = sym (or-false stray)
stray_noted stray (c ∷ l) = stray_noted (stray || not (is_hex c)) l ∙ go stray
  where
    go : (s : Bool) → ((s || not (is_hex c)) || list_any (λ c. not (is_hex c)) l) ≡ (s || (not (is_hex c) || list_any (λ c. not (is_hex c)) l))
    go true = refl
    go false = refl

-- after a second digit none waits
pub push_even : (d : Decoder) (c : ℕ) {e : Decoder} → is_some d.half ≡ true → e ≡ pushed d c → e.half ≡ None
unfolding pushed pushed_on
push_even d c odd q = rw q (go d.half odd)
  where
    kept : (b : Bool) (x y : List ℕ) (s : Bool) (m n : ℕ) → (let r : Decoder = cond b (record { stray = s; half = None; count = m; bytes = x }) (record { stray = s; half = None; count = n; bytes = y }) in r.half ≡ None)
    kept true x y s m n = refl
    kept false x y s m n = refl

    go : (h : Option ℕ) → is_some h ≡ true → (pushed_on h d c).half ≡ None
    go None e = absurd (cc)
    go (Some h) e = kept (ltb d.count max_bytes) _ _ _ _ _

-- ---- two bytes, where no digit waits

abbrev stray_both : Decoder → ℕ → ℕ → Bool
stray_both d a b = (d.stray || not (is_hex a)) || not (is_hex b)

-- their byte is kept, or there is no room for it
abbrev kept : Decoder → ℕ → ℕ → Decoder
kept d a b = record { stray = stray_both d a b; half = None; count = d.count + 1; bytes = set d.bytes d.count (digit_of a * 16 + digit_of b) }

abbrev past : Decoder → ℕ → ℕ → Decoder
past d a b = record { stray = stray_both d a b; half = None; count = too_many; bytes = d.bytes }

module _ (d : Decoder) (a b : ℕ) (even : d.half ≡ None) where
  pair_kept : d.count < max_bytes
      → pushed (pushed d a) b ≡ kept d a b
  unfolding pushed pushed_on stray_after
  pair_kept l =
      rw (even, lt-ltb d.count max_bytes l, mod-eq_of_lt {n = digit_of a * 16 + digit_of b} {m = 256} (omega (arith, digit_of_small a, digit_of_small b)))

  pair_past : max_bytes ≤ d.count
      → pushed (pushed d a) b ≡ past d a b
  unfolding pushed pushed_on stray_after
  pair_past l = rw (even, le-ltb d.count max_bytes l)

  -- a property of the state after them, by either way
  pair : (P : Decoder → Type 0)
      → (d.count < max_bytes → P (kept d a b))
      → (max_bytes ≤ d.count → P (past d a b))
      → P (pushed (pushed d a) b)
  pair P f g = go (ltb d.count max_bytes) refl
    where
      go : (b' : Bool) → ltb d.count max_bytes ≡ b' → P (pushed (pushed d a) b)
      go true e = let l = ltb-true d.count max_bytes e in subst P (sym (pair_kept l)) (f l)
      go false e = let l = ltb-false d.count max_bytes e in subst P (sym (pair_past l)) (g l)

-- one byte, where no digit waits
single : (d : Decoder) (a : ℕ) → d.half ≡ None → pushed d a ≡ record { stray = d.stray || not (is_hex a); half = Some (digit_of a); count = d.count; bytes = d.bytes }
unfolding pushed pushed_on stray_after
single d a even = rw even

-- ---- what bytes leave, from a state in which no digit waits

one_stray : (s x : Bool) → (s || not x) ≡ (s || not (x && true))
one_stray s x = sym (or-false (s || not x)) ∙ or_not s x true

two_stray : (s x y z : Bool) → (((s || not x) || not y) || not z) ≡ (s || not (x && (y && z)))
two_stray s x y z = or_not (s || not x) y z ∙ or_not s x (y && z)

-- a stray byte is noted, and never forgotten
run_stray : (l : List ℕ) (d : Decoder) → d.half ≡ None → (run d l).stray ≡ (d.stray || not (all is_hex l))
unfolding run all
run_stray [] d even = sym (or-false d.stray)
run_stray (a ∷ []) d even = rw (single d a even) (one_stray d.stray (is_hex a))
run_stray (a ∷ b ∷ l) d even =
    pair d a b even (λ (e : Decoder). (run e l).stray ≡ (d.stray || not (is_hex a && (is_hex b && all is_hex l))))
    (λ _. run_stray l _ refl ∙ two_stray d.stray (is_hex a) (is_hex b) (all is_hex l))
    (λ _. run_stray l _ refl ∙ two_stray d.stray (is_hex a) (is_hex b) (all is_hex l))

last_two : (a b : ℕ) (l : List ℕ) → last_alone l ≡ last_alone (a ∷ b ∷ l)
unfolding last_alone
last_two a b [] = refl
last_two a b (x ∷ l) =
    let two : length (a ∷ b ∷ x ∷ l) % 2 ≡ length (x ∷ l) % 2 = omega arith in
    let p : suc (length l) - 1 ≡ length l = omega arith in
    let q : suc (suc (suc (length l))) - 1 ≡ suc (suc (length l)) = omega arith in
    rw (two, p, q)

-- the digit that waits is the last one of an odd number
run_half : (l : List ℕ) (d : Decoder) → d.half ≡ None → (run d l).half ≡ last_alone l
unfolding run
run_half [] d even = even ∙ (unfold last_alone in refl)
run_half (a ∷ []) d even = rw (single d a even) (unfold last_alone in refl)
run_half (a ∷ b ∷ l) d even =
    pair d a b even (λ (e : Decoder). (run e l).half ≡ last_alone (a ∷ b ∷ l)) (λ _. run_half l _ refl ∙ last_two a b l) (λ _. run_half l _ refl ∙ last_two a b l)

-- and none waits after an even number
last_waits : (l : List ℕ) → is_some (last_alone l) ≡ not (eqb (length l % 2) 0)
unfolding last_alone
last_waits l = go (eqb (length l % 2) 1) refl
  where
    go : (b : Bool) → eqb (length l % 2) 1 ≡ b → is_some {T = ℕ} (cond b (Some (digit_of (get_or l (length l - 1) 0))) None) ≡ not (eqb (length l % 2) 0)
    go true e = rw (ne_eqb (length l % 2) 0 (λ q. omega (arith, eqb-true (length l % 2) 1 e)))
    go false e = rw (eq-eqb (length l % 2) 0 (let n = eqb-false (length l % 2) 1 e in omega arith))

-- the count is exact up to 255
run_count : (l : List ℕ) (d : Decoder) → d.half ≡ None → d.count + length l / 2 ≤ max_bytes → (run d l).count ≡ d.count + length l / 2
unfolding run
run_count [] d even h = omega arith
run_count (a ∷ []) d even h = rw (single d a even) (omega arith)
run_count (a ∷ b ∷ l) d even h =
    rw (run, pair_kept d a b even (omega arith)) (run_count l _ refl (omega arith) ∙ omega arith)

-- and stays above it from there on
run_past : (l : List ℕ) (d : Decoder) → d.half ≡ None → d.count ≤ too_many → max_bytes < d.count + length l / 2 → (run d l).count ≡ too_many
unfolding run
run_past [] d even m h = omega arith
run_past (a ∷ []) d even m h = rw (single d a even) (omega arith)
run_past (a ∷ b ∷ l) d even m h =
    pair d a b even (λ (e : Decoder). (run e l).count ≡ too_many) (λ k. run_past l _ refl (omega arith) (omega arith)) (λ k. run_past l _ refl (omega arith) (omega arith))

-- digits that spell bytes for which there is room are kept
run_bytes : (l : List ℕ) (d : Decoder) → d.half ≡ None → all is_hex l ≡ true → d.count + length (bytes_of l) ≤ max_bytes → (run d l).bytes ≡ sets d.bytes d.count (bytes_of l)
unfolding run all bytes_of
run_bytes [] d even x h = refl
run_bytes (a ∷ []) d even x h = rw (single d a even)
run_bytes (a ∷ b ∷ l) d even x h =
    let (p, y) = both (is_hex a) (all is_hex (b ∷ l)) x in
    let (q, z) = both (is_hex b) (all is_hex l) y in
    rw (run, pair_kept d a b even (omega arith), digit_own a p, digit_own b q)
    (run_bytes l _ refl z (omega arith) ∙ ap (λ (i : ℕ). sets (set d.bytes d.count (hex_value a * 16 + hex_value b)) i (bytes_of l)) (add-one d.count))

-- ---- for the code: pairs of digits, and what is left of a piece

-- a piece in two parts
run_parts : (d : Decoder) (ds : List ℕ) (k : ℕ) → run (run d (take k ds)) (drop k ds) ≡ run d ds
run_parts d ds k = sym (run_cut d (take k ds) (drop k ds)) ∙ ap (run d) (take-append-drop k ds)

-- a part of a slice up to its end
part_end : (ds : List ℕ) (k : ℕ) → take (length ds - k) (drop k ds) ≡ drop k ds
part_end ds k = take_all (length ds - k) (drop k ds) (omega (arith, length-drop k ds))

module _ (d : Decoder) (ds : List ℕ) {e r : Decoder} where
  pub run_both : (k : ℕ) → e ≡ run d (take k ds) → r ≡ run e (take (length ds - k) (drop k ds)) → r ≡ run d ds
  run_both k p q = q ∙ rw (part_end ds k, p) (run_parts d ds k)

pub run_first : (d : Decoder) (ds : List ℕ) {c : ℕ} {l : List ℕ} {e r : Decoder} → IsFirstAndRest ds c l → e ≡ pushed d c → r ≡ run e l → r ≡ run d ds
unfolding run
run_first d ds is p q = q ∙ rw (is.0, p)

pub run_none : (d : Decoder) (ds : List ℕ) → length ds ≡ 0 → d ≡ run d ds
unfolding run
run_none d [] e = refl
run_none d (c ∷ ds) e = absurd (omega arith)

-- the digits as pairs
pair_at : (k i : ℕ) (ds : List ℕ) → i < k → get_or (first_chunks 2 k ds) i [] ≡ take 2 (drop (2 * i) ds)
pair_at zero i ds h = absurd (omega arith)
pair_at (suc k) zero ds h = refl
pair_at (suc k) (suc i) ds h =
    let e : 2 + 2 * i ≡ 2 * suc i = omega arith in
    pair_at k i (drop 2 ds) (omega arith) ∙ ap (take 2) (drop-drop (2 * i) 2 ds) ∙ ap (λ (m : ℕ). take 2 (drop m ds)) e

module _ (ds : List ℕ) (n i : ℕ) {k : ℕ} {pairs : List (List ℕ)} (is : pairs ≡ first_chunks 2 k ds) (h : i < n) (m : n ≤ k) where
  of_pair : (j : ℕ) → j < 2 → get_or (get_or (take n pairs) i []) j 0 ≡ get_or ds (2 * i + j) 0
  of_pair j l =
      ap (λ (p : List ℕ). get_or p j 0) (get_or-take n pairs i [] h ∙ ap (λ (q : List (List ℕ)). get_or q i []) is ∙ pair_at k i ds (omega arith))
      ∙ get_or-take 2 (drop (2 * i) ds) j 0 l
      ∙ get_or-drop (2 * i) ds j 0

  pub first_of_pair : read_as (get_or (get_or (take n pairs) i []) 0 0) ≡ read_as (get_or ds (2 * i) 0)
  first_of_pair = ap read_as (of_pair 0 (omega arith)) ∙ ap (λ (j : ℕ). read_as (get_or ds j 0)) (add-zero (2 * i))

  pub second_of_pair : read_as (get_or (get_or (take n pairs) i []) 1 0) ≡ read_as (get_or ds (2 * i + 1) 0)
  second_of_pair = ap read_as (of_pair 1 (omega arith))

-- the loop over pairs of digits
module _ (d : Decoder) (ds : List ℕ) where
  -- one pair more
  pair_more : {e : Decoder} (i : ℕ) → 2 * i + 1 < length ds → run d (take (2 * i) ds) ≡ e → run d (take (2 * (i + 1)) ds) ≡ pushed (pushed e (get_or ds (2 * i) 0)) (get_or ds (2 * i + 1) 0)
  unfolding run
  pair_more {e} i h q =
      let n : 2 * (i + 1) ≡ 2 * i + 2 = omega arith in
      let x : 2 * i < length ds = omega arith in
      let y : suc (2 * i) < length ds = omega arith in
      let z : suc (2 * i) ≡ 2 * i + 1 = omega arith in
      ap (λ (k : ℕ). run d (take k ds)) n
      ∙ ap (run d) (take-add (2 * i) 2 ds)
      ∙ run_cut d (take (2 * i) ds) (take 2 (drop (2 * i) ds))
      ∙ ap (λ (r : Decoder). run r (take 2 (drop (2 * i) ds))) q
      ∙ ap (λ (l : List ℕ). run e (take 2 l)) (drop-cons ds (2 * i) 0 x ∙ ap (λ (l : List ℕ). get_or ds (2 * i) 0 ∷ l) (drop-cons ds (suc (2 * i)) 0 y))
      ∙ ap (λ (k : ℕ). pushed (pushed e (get_or ds (2 * i) 0)) (get_or ds k 0)) z

  pub pairs_none : d.half ≡ None → run d (take (2 * 0) ds) ≡ record { stray = d.stray; half = None; count = d.count + 0; bytes = d.bytes }
  unfolding run
  pairs_none even = same_state refl even (sym (add-zero d.count))

  pub pair_told : (n i : ℕ) {s : Bool} {b : List ℕ} {x y : Bool} {high low : ℕ} → 2 * i + 1 < length ds → n + i < max_bytes
      → run d (take (2 * i) ds) ≡ record { stray = s; half = None; count = n + i; bytes = b }
      → high ≡ digit_of (get_or ds (2 * i) 0) → low ≡ digit_of (get_or ds (2 * i + 1) 0) → x ≡ not (is_hex (get_or ds (2 * i) 0)) → y ≡ not (is_hex (get_or ds (2 * i + 1) 0))
      → run d (take (2 * (i + 1)) ds) ≡ record { stray = (s || x) || y; half = None; count = n + (i + 1); bytes = set b (n + i) (high % 16 * 16 + low % 16) }
  pair_told n i {s} {b} {x} {y} {high} {low} h r q u v w z =
      let e : n + i + 1 ≡ n + (i + 1) = omega arith in
      pair_more i h q
      ∙ pair_kept (record { stray = s; half = None; count = n + i; bytes = b }) (get_or ds (2 * i) 0) (get_or ds (2 * i + 1) 0) refl r
      ∙ rw (u, v, w, z, e, mod-eq_of_lt {n = digit_of (get_or ds (2 * i) 0)} {m = 16} (digit_of_small (get_or ds (2 * i) 0)), mod-eq_of_lt {n = digit_of (get_or ds (2 * i + 1) 0)} {m = 16} (digit_of_small (get_or ds (2 * i + 1) 0))) refl

  -- the same by the values of the digits
  pub pairs_on : (n i : ℕ) {s : Bool} {b : List ℕ} {high low : ℕ} → 2 * i + 1 < length ds → n + i < max_bytes
      → run d (take (2 * i) ds) ≡ record { stray = s; half = None; count = n + i; bytes = b }
      → high ≡ hex_value (get_or ds (2 * i) 0) → low ≡ hex_value (get_or ds (2 * i + 1) 0)
      → run d (take (2 * (i + 1)) ds) ≡ record { stray = (s || eqb high 16) || eqb low 16; half = None; count = n + (i + 1); bytes = set b (n + i) (high % 16 * 16 + low % 16) }
  unfolding digit_of
  pairs_on n i {s} {b} {high} {low} h r q x y =
      let e : n + i + 1 ≡ n + (i + 1) = omega arith in
      pair_more i h q
      ∙ pair_kept (record { stray = s; half = None; count = n + i; bytes = b }) (get_or ds (2 * i) 0) (get_or ds (2 * i + 1) 0) refl r
      ∙ rw (x, y, stray_test (get_or ds (2 * i) 0), stray_test (get_or ds (2 * i + 1) 0), e)

  pub pairs_end : d.half ≡ None → (n i : ℕ) {s : Bool} {b : List ℕ} → i ≡ n
      → run (record { stray = d.stray; half = None; count = d.count; bytes = d.bytes }) (take (2 * i) ds) ≡ record { stray = s; half = None; count = d.count + i; bytes = b }
      → record { stray = s; half = None; count = d.count + n; bytes = b } ≡ run d (take (2 * n) ds)
  pairs_end even n i {s} {b} e q = sym (ap (λ (h : Option ℕ). run (record { stray = d.stray; half = h; count = d.count; bytes = d.bytes }) (take (2 * n) ds)) even ∙ rw (← e) q)

past_two : (t : Bool) → cond t too_many too_many ≡ too_many
past_two true = refl
past_two false = refl

-- at most one digit is left, or there is no room for another byte
run_rest : (l : List ℕ) (d : Decoder) → d.half ≡ None → (length l ≤ 1) ⊎ (max_bytes ≤ d.count)
    → run d l ≡ record { stray = d.stray || not (all is_hex l); half = last_alone l; count = cond (ltb 1 (length l)) too_many d.count; bytes = d.bytes }
unfolding run all last_alone
run_rest [] d even o = ap₂ (λ (s : Bool) (h : Option ℕ). record { stray = s; half = h; count = d.count; bytes = d.bytes }) (sym (or-false d.stray)) even
run_rest (a ∷ []) d even o = single d a even ∙ ap (λ (s : Bool). record { stray = s; half = Some (digit_of a); count = d.count; bytes = d.bytes }) (one_stray d.stray (is_hex a))
run_rest (a ∷ b ∷ l) d even (inl h) = absurd (omega arith)
run_rest (a ∷ b ∷ l) d even (inr h) =
    rw (run, pair_past d a b even h)
    (run_rest l (past d a b) refl (inr (omega arith))
    ∙ same_state (two_stray d.stray (is_hex a) (is_hex b) (all is_hex l)) (last_two a b l) (past_two (ltb 1 (length l)) ∙ ap (λ (t : Bool). cond t too_many d.count) (sym (lt-ltb 1 (length (a ∷ b ∷ l)) (omega arith)))))

-- as the code works it out
rest_is : (d : Decoder) (ds : List ℕ) {s : Bool} {h : Option ℕ} {n : ℕ} → d.half ≡ None → (length ds ≤ 1) ⊎ (max_bytes ≤ d.count) → s ≡ not (all is_hex ds) → h ≡ last_alone ds → n ≡ cond (ltb 1 (length ds)) too_many d.count
    → record { stray = d.stray || s; half = h; count = n; bytes = d.bytes } ≡ run d ds
rest_is d ds even o p q r = same_state (ap (λ (x : Bool). d.stray || x) p) q r ∙ sym (run_rest ds d even o)

-- as many pairs as the digits have and as there is room for, then what is left
pub even_is : (d : Decoder) (ds : List ℕ) (n : ℕ) {m : ℕ} {i : ℕ} {s t : Bool} {b : List ℕ} {h : Option ℕ} {c : ℕ} → d.half ≡ None → m ≡ max_bytes - d.count → n ≡ min (length ds / 2) m → i ≡ n
    → run (record { stray = d.stray; half = None; count = d.count; bytes = d.bytes }) (take (2 * i) ds) ≡ record { stray = s; half = None; count = d.count + i; bytes = b }
    → t ≡ not (all is_hex (take (length ds - 2 * n) (drop (2 * n) ds))) → h ≡ last_alone (take (length ds - 2 * n) (drop (2 * n) ds)) → c ≡ cond (ltb 1 (length (take (length ds - 2 * n) (drop (2 * n) ds)))) too_many (d.count + n)
    → record { stray = s || t; half = h; count = c; bytes = b } ≡ run d ds
even_is d ds n {m} {i} {s} {t} {b} even is least e q x y z =
    run_both d ds (2 * n) (pairs_end d ds even n i e q)
    (rest_is (record { stray = s; half = None; count = d.count + n; bytes = b }) (take (length ds - 2 * n) (drop (2 * n) ds)) refl (go (leb (length ds / 2) m) refl) x y z)
  where
    go : (k : Bool) → leb (length ds / 2) m ≡ k → (length (take (length ds - 2 * n) (drop (2 * n) ds)) ≤ 1) ⊎ (max_bytes ≤ d.count + n)
    go true k = inl (rw (part_end ds (2 * n)) (omega (arith, length-drop (2 * n) ds, leb-true (length ds / 2) m k)))
    go false k = inr (omega (arith, leb-false (length ds / 2) m k))

-- ---- what a state says of a line that ends there

-- a stray byte, or a digit alone
abbrev turned_down : Decoder → Bool
turned_down d = d.stray || is_some d.half

module _ (d : Decoder) where
  pub finished_stray : turned_down d ≡ true → finished d ≡ Err Stray
  unfolding finished
  finished_stray t = rw t

  pub finished_long : turned_down d ≡ false → max_bytes < d.count → finished d ≡ Err Long
  unfolding finished
  finished_long t l = rw (t, lt-leb d.count max_bytes l)

  pub finished_bytes : turned_down d ≡ false → d.count ≤ max_bytes → finished d ≡ Ok (take d.count d.bytes)
  unfolding finished
  finished_bytes t l = rw (t, le-leb d.count max_bytes l)

-- ---- the whole line

zeros_left : (m n : ℕ) → drop {A = ℕ} n (replicate m 0) ≡ replicate (m - n) 0
zeros_left m zero = let e : m ≡ m - 0 = omega arith in ap (λ (k : ℕ). replicate k 0) e
zeros_left zero (suc n) = let e : 0 ≡ 0 - suc n = omega arith in ap (λ (k : ℕ). replicate k 0) e
zeros_left (suc m) (suc n) = let e : m - n ≡ suc m - suc n = omega arith in zeros_left m n ∙ ap (λ (k : ℕ). replicate k 0) e

-- The state that a line's front leaves, whatever its length.
pub record Leaves (ds : List ℕ) (d : Decoder) : Type 0 where
  -- whether one of its bytes is no digit
  pub stray : d.stray ≡ not (all is_hex ds)
  -- the digit that waits: the last one, if their number is odd
  pub half : d.half ≡ last_alone ds
  -- the count is exact up to 255, and 256 above that
  pub exact : length ds / 2 ≤ max_bytes → d.count ≡ length ds / 2
  pub saturated : max_bytes < length ds / 2 → d.count ≡ too_many
  -- the bytes that digits spell, with zeros after them (after a stray byte, or past 255 bytes, nothing depends on them)
  pub bytes : all is_hex ds ≡ true → length ds / 2 ≤ max_bytes → d.bytes ≡ bytes_of ds ++ replicate (max_bytes - length (bytes_of ds)) 0

pub front_leaves : (ds : List ℕ) → Leaves ds (run start ds)
unfolding start
front_leaves ds = record {
  stray = run_stray ds start refl;
  half = run_half ds start refl;
  exact = λ h. run_count ds start refl (omega arith) ∙ omega arith;
  saturated = λ h. run_past ds start refl (omega arith) (omega arith);
  bytes = λ x h.
      run_bytes ds start refl x (omega (arith, length_bytes ds))
      ∙ sets-eq (bytes_of ds) (replicate max_bytes 0) 0 (omega (arith, length_bytes ds))
      ∙ (let e : 0 + length (bytes_of ds) ≡ length (bytes_of ds) = omega arith in ap (λ (k : ℕ). bytes_of ds ++ drop k (replicate max_bytes 0)) e)
      ∙ ap (λ (z : List ℕ). bytes_of ds ++ z) (zeros_left max_bytes (length (bytes_of ds)));
}

-- the line is turned down exactly where its digits don't spell bytes
leaves_test : (ds : List ℕ) → turned_down (run start ds) ≡ not (spelt ds)
unfolding spelt
leaves_test ds = let l = front_leaves ds in ap₂ (λ (x y : Bool). x || y) l.stray (ap (λ (h : Option ℕ). is_some h) l.half ∙ last_waits ds) ∙ or_not false (all is_hex ds) (eqb (length ds % 2) 0)

hex_spelt : (ds : List ℕ) → spelt ds ≡ true → all is_hex ds ≡ true
unfolding spelt
hex_spelt ds w = (both (all is_hex ds) (eqb (length ds % 2) 0) w).0

-- What the bytes of a whole line leave says what decoding the line answers.
pub whole_line : (ds : List ℕ) → finished (run start ds) ≡ decoded ds
whole_line ds = go (spelt ds) (leb (length ds / 2) max_bytes) refl refl
  where
    l : Leaves ds (run start ds)
    l = front_leaves ds

    go : (w short : Bool) → spelt ds ≡ w → leb (length ds / 2) max_bytes ≡ short → finished (run start ds) ≡ decoded ds
    go false short w k = finished_stray (run start ds) (leaves_test ds ∙ ap not w) ∙ sym (decoded_stray ds w)
    go true true w k =
        let h = leb-true (length ds / 2) max_bytes k in
        let n : (run start ds).count ≡ length (bytes_of ds) = omega (arith, l.exact h, length_bytes ds) in
        finished_bytes (run start ds) (leaves_test ds ∙ ap not w) (omega (arith, l.exact h))
        ∙ ap Ok (rw (n, l.bytes (hex_spelt ds w) h) (take_at (bytes_of ds) (replicate (max_bytes - length (bytes_of ds)) 0) (length (bytes_of ds)) refl))
        ∙ sym (decoded_bytes ds w (omega (arith, length_bytes ds)))
    go true false w k =
        let h = leb-false (length ds / 2) max_bytes k in
        finished_long (run start ds) (leaves_test ds ∙ ap not w) (omega (arith, l.saturated h)) ∙ sym (decoded_long ds w (omega (arith, length_bytes ds)))
