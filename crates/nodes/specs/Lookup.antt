-- A look-up in a table: a root, an action and four state codes. Assumes nothing.
use Rattle.std.specs.Prelude.{Bool, true, false, cond, ◌&&◌, List, [], ◌∷◌, ℕ, zero, suc, ◌+◌, ◌-◌, ◌/◌, ◌%◌, ◌^◌, ltb, leb, eqb, length, get_or, Result, Ok, Err}
use Rattle.nodes.specs.declared.lookup.LookUpError.{LookUpError}
use Rattle.nodes.specs.declared.lookup.LookUpError.TheVariants.{Table, Outside}
use Rattle.nodes.specs.Fun.{Assignment, digit}
use Rattle.nodes.specs.Formula.{bit}
use Rattle.nodes.specs.Table.{last_level, max_bits, max_length}

-- ---- the slices of a table

pub record Slices : Type 0 where
  pub level : List ℕ
  pub low : List ℕ
  pub high : List ℕ

abbrev pub slices : List ℕ → List ℕ → List ℕ → Slices
slices level low high = record { level = level; low = low; high = high }

-- they are of one length, from 2 to 1,048,576
unfoldable pub table_fits : Slices → Bool
table_fits s =
    eqb (length s.low) (length s.level) && (eqb (length s.high) (length s.level)
    && (leb 2 (length s.level) && leb (length s.level) max_length))

-- ---- the assignment of a look-up: an action and four state codes; middle bits are 0

-- left now and next, right now and next: the code in a slot
abbrev pub slot_code : ℕ → ℕ → ℕ → ℕ → ℕ → ℕ
slot_code x x' y y' zero = x
slot_code x x' y y' (suc zero) = x'
slot_code x x' y y' (suc (suc zero)) = 0
slot_code x x' y y' (suc (suc (suc zero))) = y
slot_code x x' y y' (suc (suc (suc (suc zero)))) = y'
slot_code x x' y y' (suc (suc (suc (suc (suc s))))) = 0

-- levels 0 to 5 are the action's bits; from 6 on each six are bit k of the six slots
unfoldable pub looked_up : ℕ → ℕ → ℕ → ℕ → ℕ → Assignment
looked_up α x x' y y' l = cond (ltb l 6) (bit α l) (bit (slot_code x x' y y' ((l - 6) % 6)) ((l - 6) / 6))

-- an action of 6 bits, and state codes of at most `max_bits`
unfoldable pub small : ℕ → ℕ → ℕ → ℕ → ℕ → Bool
small α x x' y y' =
    leb α 63 && (ltb x (2 ^ max_bits) && (ltb x' (2 ^ max_bits) && (ltb y (2 ^ max_bits) && ltb y' (2 ^ max_bits))))

-- ---- the answer

-- document 01's number of a refusal
abbrev pub error_number : LookUpError → ℕ
error_number Table = 7
error_number Outside = 10

-- its number of the answer, 0 where there is none, and its values
abbrev pub number_of : Result Bool LookUpError → ℕ
number_of (Ok b) = 0
number_of (Err e) = error_number e

abbrev pub values_of : Result Bool LookUpError → List ℕ
values_of (Ok b) = digit b ∷ []
values_of (Err e) = []

-- The walk from entry i by the bits of a, of fewer than n steps: it ends at entry 0 or 1. A node is in the slices, and its level is `from` or
-- above and at most the last one; the level of the next node is above it.
unfoldable pub walk_from : ℕ → Slices → Assignment → ℕ → ℕ → Result Bool LookUpError
walk_from zero s a from i = Err Outside
walk_from (suc n) s a from zero = Ok false
walk_from (suc n) s a from (suc zero) = Ok true
walk_from (suc n) s a from (suc (suc k)) =
    let i = suc (suc k) in
    let v = get_or s.level i 0 in
    cond (ltb i (length s.level) && (leb from v && leb v last_level))
    (walk_from n s a (suc v) (cond (a v) (get_or s.high i 0) (get_or s.low i 0))) (Err Outside)

-- The answer of a look-up: 7, then 10, else the value. Levels rise, so a walk meets at most a node of each level and an end.
unfoldable pub look_up : Slices → ℕ → ℕ → ℕ → ℕ → ℕ → ℕ → Result Bool LookUpError
look_up s root α x x' y y' =
    cond (table_fits s) (cond (small α x x' y y') (walk_from (last_level + 2) s (looked_up α x x' y y') 0 root) (Err Outside)) (Err Table)
