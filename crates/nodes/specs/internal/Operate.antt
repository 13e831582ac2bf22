-- The operations on entries, and the memory of their results. Assumes nothing.
use Rattle.std.specs.Prelude.{◌≡◌, ◌⊎◌, Bool, true, false, cond, ◌&&◌, List, ℕ, zero, suc, ◌+◌, ◌-◌, ◌*◌, ◌/◌, ◌%◌, ◌≤◌, ◌<◌, eqb, ltb, length, get_or, set, Option, Some, None}
use Rattle.nodes.specs.declared.apply.Operation.{Operation}
use Rattle.nodes.specs.declared.apply.Operation.TheVariants.{And, Or, Not, Fix}
use Rattle.nodes.specs.declared.computed.Key.{Key}
use Rattle.nodes.specs.declared.computed.Slot.{Slot}
use Rattle.nodes.specs.Fun.{Fun, both, either, negated, fixed, exists, digit}
use Rattle.nodes.specs.Table.{Table, last_level, constant_level, max_length, level_of, den}
use Rattle.nodes.specs.internal.Parts.{memory_at, links_in, heads_in, memo_in}
use Rattle.nodes.specs.internal.Index.{Indexed}

-- what an operation makes of two functions: ¬ and fixing look at the first alone
abbrev pub operation : Operation → Fun → Fun → Fun
operation And f g = both f g
operation Or f g = either f g
operation Not f g = negated f
operation (Fix v b) f g = fixed v.v b f

-- its number in the memory of results
abbrev pub number_of : Operation → ℕ
number_of And = 0
number_of Or = 1
number_of Not = 2
number_of (Fix v b) = 3 + 2 * v.v + digit b

-- what a number stands for
unfoldable pub numbered : ℕ → Fun → Fun → Fun
numbered zero f g = both f g
numbered (suc zero) f g = either f g
numbered (suc (suc zero)) f g = negated f
numbered (suc (suc (suc k))) f g = fixed (k / 2) (eqb (k % 2) 1) f

-- the last one fixes the last level to 1
abbrev pub last_operation : ℕ
last_operation = 4 + 2 * last_level

-- the memory has the operands of ∧ and ∨ by their numbers, and so the other way round
abbrev pub turns_of : ℕ → ℕ → ℕ → Bool
turns_of o f g = ltb o 2 && ltb g f

-- the key of an operation's result
abbrev pub key_of : ℕ → ℕ → ℕ → Key
key_of o f g = record { number = o; left = cond (turns_of o f g) g f; right = cond (turns_of o f g) f g }

-- ∨ and ∧, by the constant that decides them
abbrev pub junction : Bool → Fun → Fun → Fun
junction true f g = either f g
junction false f g = both f g

-- the answer of h is known from the entries' numbers, or the first is a node
abbrev pub SettlesBy : (Fun → Fun → Fun) → ℕ → ℕ → Option ℕ → Type 0
SettlesBy h f g (Some k) = (t : Table) → 2 ≤ t.used → f < t.used → g < t.used → (k < t.used) × (den t k ≡ h (den t f) (den t g))
SettlesBy h f g None = 2 ≤ f

-- where a level is to be fixed, f is above it
abbrev pub IsAbove : Table → Operation → ℕ → Type 0
IsAbove t And f = Unit {0}
IsAbove t Or f = Unit {0}
IsAbove t Not f = Unit {0}
IsAbove t (Fix v b) f = level_of t f < v.v

-- the answer is an entry at hand; or f is a node, and above the level that is to be fixed
abbrev pub Settles : Table → Operation → ℕ → ℕ → Option ℕ → Type 0
Settles t o f g (Some k) = (k < t.used) × (den t k ≡ operation o (den t f) (den t g))
Settles t o f g None = (2 ≤ f) × IsAbove t o f

-- entry r stands for what f stands for with level v fixed to b
pub record Cofactor (t : Table) (f v : ℕ) (b : Bool) (r : ℕ) : Type 0 where
  pub used : r < t.used
  pub deeper : v < level_of t r
  pub stands : den t r ≡ fixed v b (den t f)
  pub most : r ≤ f
  pub less : level_of t f ≡ v → r < f

-- A memory of results: a list of any length, in slots of four numbers, the first of which is 0 in an empty slot. A slot of an operation has its
-- number plus 1, the operands and the result. A slot of ∃v f has `quantifying v f` plus 1, and the three results.

-- the numbers of ∃ come behind those of the operations, so many for each entry: one for every level that an entry may have
abbrev pub levels_each : ℕ
levels_each = constant_level + 1

-- the number of ∃v f, and the level and the entry of a number
abbrev pub quantifying : ℕ → ℕ → ℕ
quantifying v f = last_operation + 1 + v + f * levels_each

abbrev pub quantified_level : ℕ → ℕ
quantified_level o = (o - (last_operation + 1)) % levels_each

abbrev pub quantified_entry : ℕ → ℕ
quantified_entry o = (o - (last_operation + 1)) / levels_each

-- the largest number that there may be
abbrev pub last_number : ℕ
last_number = last_operation + max_length * levels_each

-- the entries z, w and r stand for what f stands for with level v fixed to false, fixed to true, and for ∃v of it
pub record Quantified (t : Table) (v f z w r : ℕ) : Type 0 where
  pub operand : f < t.used
  pub zero : den t z ≡ fixed v false (den t f)
  pub one : den t w ≡ fixed v true (den t f)
  pub any : den t r ≡ exists v (den t f)

-- what a slot of number o says
pub record Recalls (t : Table) (o f g r : ℕ) : Type 0 where
  pub left : f < t.used
  pub right : g < t.used
  pub found : r < t.used
  pub stands : o ≤ last_operation → den t r ≡ numbered o (den t f) (den t g)
  pub quantified : last_operation < o → Quantified t (quantified_level o) (quantified_entry o) f g r

abbrev pub Remembered : Table → List ℕ → Type 0
Remembered t memo = (s : ℕ) → 4 * s + 3 < length memo → (o : ℕ) → get_or memo (4 * s) 0 ≡ o + 1
    → Recalls t o (get_or memo (4 * s + 1) 0) (get_or memo (4 * s + 2) 0) (get_or memo (4 * s + 3) 0)

-- a slot holds the result r
pub record Holds (memo : List ℕ) (o f g r : ℕ) : Type 0 where
  pub slot : ℕ
  pub within : 4 * slot + 3 < length memo
  pub key : get_or memo (4 * slot) 0 ≡ o + 1
  pub left : get_or memo (4 * slot + 1) 0 ≡ f
  pub right : get_or memo (4 * slot + 2) 0 ≡ g
  pub result : get_or memo (4 * slot + 3) 0 ≡ r

-- what was read from a slot
abbrev pub HeldIn : List ℕ → Option Slot → Type 0
HeldIn memo (Some x) = Holds memo x.number x.first x.second x.third
HeldIn memo None = Unit {0}

abbrev pub Recalled : List ℕ → Key → Option ℕ → Type 0
Recalled memo k (Some r) = Holds memo k.number k.left k.right r
Recalled memo k None = Unit {0}

-- the memory is as it was, or a slot of it has been written
abbrev pub Stores : List ℕ → ℕ → ℕ → ℕ → ℕ → List ℕ → Type 0
Stores memo o f g r memo' =
    (memo' ≡ memo)
    ⊎ ((s : ℕ) × (4 * s + 3 < length memo) × (memo' ≡ set (set (set (set memo (4 * s) (o + 1)) (4 * s + 1) f) (4 * s + 2) g) (4 * s + 3) r))

-- ---- the work list

-- how many slots the memory has
abbrev pub slots_in : List ℕ → ℕ
slots_in work = (length work - memory_at work) / 4

-- a slot of the memory holds x, or nothing was written; the index is as it was
pub record Remembers (work : List ℕ) (x : Slot) (work' : List ℕ) : Type 0 where
  pub stores : Stores (memo_in work) x.number x.first x.second x.third (memo_in work')
  pub heads : heads_in work' ≡ heads_in work
  pub links : links_in work' ≡ links_in work

-- the lent lists serve the table
pub record Helped (t : Table) (head next memo : List ℕ) : Type 0 where
  pub indexed : Indexed t head next
  pub remembered : Remembered t memo

abbrev pub Helping : Table → List ℕ → Type 0
Helping t work = Helped t (heads_in work) (links_in work) (memo_in work)

-- the function h is the result of a key's operation
pub record Meant (t : Table) (k : Key) (h : Fun) : Type 0 where
  pub known : k.number ≤ last_operation
  pub left : k.left < t.used
  pub right : k.right < t.used
  pub stands : h ≡ numbered k.number (den t k.left) (den t k.right)
