-- How a table grows by a function: it has it, or it is full and lacks a part of it. Assumes nothing.
use Rattle.std.specs.Prelude.{◌≡◌, ℕ, ◌≤◌, ◌<◌, length, Result, Ok, Err}
use Rattle.nodes.specs.declared.manager.Full.{Full}
use Rattle.nodes.specs.Fun.{Fun, Part, Varies}
use Rattle.nodes.specs.Table.{Table, level_of, low_of, high_of, den, WellFormed}

-- the entries in use of t are those of t', which may have more, in slices of the same length
pub record Extends (t t' : Table) : Type 0 where
  pub longer : t.used ≤ t'.used
  pub same_length : length t'.level ≡ length t.level
  pub same_level : (i : ℕ) → i < t.used → level_of t' i ≡ level_of t i
  pub same_low : (i : ℕ) → i < t.used → low_of t' i ≡ low_of t i
  pub same_high : (i : ℕ) → i < t.used → high_of t' i ≡ high_of t i

-- no entry in use stands for f
abbrev pub Absent : Table → Fun → Type 0
Absent t f = (i : ℕ) → i < t.used → den t i ≡ f → ⊥

-- t' is t with new entries that all stand for parts of f
pub record Grown (t t' : Table) (f : Fun) : Type 0 where
  pub formed : WellFormed t'
  pub extends : Extends t t'
  pub parts : (i : ℕ) → t.used ≤ i → i < t'.used → Part f (den t' i)

-- entry i of t' stands for f, and whatever is new in t' was needed for it
pub record Built (t t' : Table) (f : Fun) (i : ℕ) : Type 0 where
  pub grown : Grown t t' f
  pub found : i < t'.used
  pub stands : den t' i ≡ f

-- t' is full, and lacks a node that f needs
pub record Short (t t' : Table) (f : Fun) : Type 0 where
  pub grown : Grown t t' f
  pub full : t'.used ≡ length t'.level
  pub lacking : Fun
  pub needed : Part f lacking
  pub varies : Varies lacking
  pub absent : Absent t' lacking

-- what an operation answers whose result is f: an entry that stands for it, or that the table is too short
abbrev pub Answers : Table → Table → Fun → Result ℕ Full → Type 0
Answers t t' f (Ok i) = Built t t' f i
Answers t t' f (Err e) = Short t t' f
