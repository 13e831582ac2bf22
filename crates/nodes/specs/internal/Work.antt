-- Calls one after the other on one table: the list of functions that they worked out, and where the table was too short. Assumes nothing.
use Rattle.std.specs.Prelude.{◌≡◌, ◌⊎◌, Bool, true, false, ◌&&◌, ℕ, ◌+◌, ◌-◌, ◌≤◌, ◌<◌, length, get_or, ltb, Result}
use Rattle.std.specs.Borrow.{GName}
use mathlib.Core.List.{List, [], ◌∷◌, Memᴰ}
use Rattle.nodes.specs.declared.apply.Operation.{Operation}
use Rattle.nodes.specs.declared.manager.Full.{Full}
use Rattle.nodes.specs.Fun.{Fun, Part, Varies, From}
use Rattle.nodes.specs.Formula.{Formula, ⟪◌⟫, value, results}
use Rattle.nodes.specs.Table.{Table, choice, den, Entry, WellFormed}
use Rattle.nodes.specs.internal.Growth.{Extends, Absent, Answers}
use Rattle.nodes.specs.internal.Operate.{operation}

-- g is a part of a function of the list
abbrev pub PartOf : List Fun → Fun → Type 0
PartOf fs g = (f : Fun) × Memᴰ f fs × Part f g

-- t' is t with new entries that all stand for parts of functions of fs
pub record Added (t t' : Table) (fs : List Fun) : Type 0 where
  pub began : WellFormed t
  pub formed : WellFormed t'
  pub extends : Extends t t'
  pub parts : (i : ℕ) → t.used ≤ i → i < t'.used → PartOf fs (den t' i)

-- an entry stands for f
abbrev pub Has : Table → Fun → Type 0
Has t f = (i : ℕ) × Entry t i f

-- the functions fs were worked out: t' has them, and nothing new but what they need
pub record Grows (t t' : Table) (fs : List Fun) : Type 0 where
  pub added : Added t t' fs
  pub has : (f : Fun) → Memᴰ f fs → Has t' f

-- the table was too short for them: t' is full, and lacks a node that they need
pub record Lacks (t t' : Table) (fs : List Fun) : Type 0 where
  pub added : Added t t' fs
  pub full : t'.used ≡ length t'.level
  pub lacking : Fun
  pub needed : PartOf fs lacking
  pub varies : Varies lacking
  pub absent : Absent t' lacking

-- the names of three slices that are lent to be written: they tell what each holds when it is given back
pub record Names : Type 0 where
  pub packed : GName
  pub high : GName
  pub work : GName

-- A manager, as calls find it and leave it: its table, the list that holds it packed, the work list that serves it, the slices' names, and
-- whether a node did not fit. Where it is full, no more calls are made.
pub record Store : Type 0 where
  pub table : Table
  pub packed : List ℕ
  pub work : List ℕ
  pub names : Names
  pub full : Bool
  pub formed : WellFormed table

-- the slices are those of before, and keep their lengths
pub record Keeps (s s' : Store) : Type 0 where
  pub packed : length s'.packed ≡ length s.packed
  pub high : length s'.table.high ≡ length s.table.high
  pub work : length s'.work ≡ length s.work
  pub names : s'.names ≡ s.names

-- what calls did for the functions fs
pub data Does (s s' : Store) (fs : List Fun) : Type 0 where
  stayed : s.full ≡ true → s' ≡ s → Does s s' fs
  grew : s.full ≡ false → s'.full ≡ false → Grows s.table s'.table fs → Does s s' fs
  filled : s.full ≡ false → s'.full ≡ true → Lacks s.table s'.table fs → Does s s' fs

-- a store was reached from s by working the functions fs out, or by filling the table with them, and n is the number of its nodes
pub record Counts (s : Store) (fs : List Fun) (n : ℕ) : Type 0 where
  pub reached : Store
  pub does : Does s reached fs
  pub nodes : n ≡ reached.table.used - 2

-- entry i stands for f, where the table is not full
abbrev pub Stands : Store → ℕ → Fun → Type 0
Stands s i f = s.full ≡ false → Entry s.table i f

-- a formula was worked out, with its list, and entry i stands for its value
pub record Gives (s s' : Store) (φ : Formula) (i : ℕ) : Type 0 where
  pub does : Does s s' (results φ)
  pub stands : Stands s' i (value φ)

-- ---- what a call ensures, from s to s'

-- a function f was worked out on a table that was not full: an entry stands for it, or the table is too short
pub record Operating (s s' : Store) (f : Fun) (r : Result ℕ Full) : Type 0 where
  pub kept : Keeps s s'
  pub answers : Answers s.table s'.table f r

-- it works a function out as a whole
pub record Lists (s s' : Store) (f : Fun) (i : ℕ) : Type 0 where
  pub kept : Keeps s s'
  pub gives : Gives s s' ⟪ f ⟫ i

-- its operand f has been worked out as φ, since any store s₀: it goes on to C φ
pub record Continues (s s' : Store) (C : Formula → Formula) (f i : ℕ) : Type 0 where
  pub kept : Keeps s s'
  pub gives : {s₀ : Store} {φ : Formula} → Gives s₀ s φ f → Gives s₀ s' (C φ) i

-- the same; where f is no entry in use, it does nothing, and answers f
pub record Maps (s s' : Store) (C : Formula → Formula) (f i : ℕ) : Type 0 where
  pub kept : Keeps s s'
  pub gives : {s₀ : Store} {φ : Formula} → Gives s₀ s φ f → Gives s₀ s' (C φ) i
  pub nothing : s.table.used ≤ f → (s' ≡ s) × (i ≡ f)

-- the same of two operands, in whichever order they were worked out; where one is no entry in use, it does nothing, and answers f
pub record Joins (s s' : Store) (C : Formula → Formula → Formula) (f g i : ℕ) : Type 0 where
  pub kept : Keeps s s'
  pub gives : {s₀ s₁ : Store} {φ ψ : Formula} → Gives s₀ s₁ φ f → Gives s₁ s ψ g → Gives s₀ s' (C φ ψ) i
  pub turned : {s₀ s₁ : Store} {φ ψ : Formula} → Gives s₀ s₁ ψ g → Gives s₁ s φ f → Gives s₀ s' (C φ ψ) i
  pub nothing : (s.table.used ≤ f) ⊎ (s.table.used ≤ g) → (s' ≡ s) × (i ≡ f)

-- The same of two operands that were worked out in this order. It looks at f last: where g is no entry in use, it does nothing, and answers f.
pub record Follows (s s' : Store) (C : Formula → Formula → Formula) (f g i : ℕ) : Type 0 where
  pub kept : Keeps s s'
  pub gives : {s₀ s₁ : Store} {φ ψ : Formula} → Gives s₀ s₁ φ f → Gives s₁ s ψ g → Gives s₀ s' (C φ ψ) i
  pub nothing : s.table.used ≤ g → (s' ≡ s) × (i ≡ f)

-- its operands stand for F and G: it works out a formula over them
pub record Uses₁ (s s' : Store) (C : Fun → Formula) (f i : ℕ) : Type 0 where
  pub kept : Keeps s s'
  pub gives : (F : Fun) → Stands s f F → Gives s s' (C F) i

pub record Uses₂ (s s' : Store) (C : Fun → Fun → Formula) (f g i : ℕ) : Type 0 where
  pub kept : Keeps s s'
  pub gives : (F G : Fun) → Stands s f F → Stands s g G → Gives s s' (C F G) i

-- an operation on the entries f and g, listed by its result; where one is no entry in use, nothing is done, and the answer is f
pub record Applies (s s' : Store) (o : Operation) (f g i : ℕ) : Type 0 where
  pub kept : Keeps s s'
  pub adds : (F G : Fun) → Stands s f F → Stands s g G → Does s s' (operation o F G ∷ []) × Stands s' i (operation o F G)
  pub nothing : (s.table.used ≤ f) ⊎ (s.table.used ≤ g) → (s' ≡ s) × (i ≡ f)

-- the entry is there, and its level is above v
abbrev pub is_deeper : ℕ → ℕ → List ℕ → Bool
is_deeper v f level = ltb f (length level) && ltb v (get_or level f 0)

-- The node of level v over the entries lo and hi, which read only levels above v. Where one is no entry in use, or where the level of one is not
-- above v, nothing is done, and the answer is lo.
pub record Chooses (s s' : Store) (v lo hi i : ℕ) : Type 0 where
  pub kept : Keeps s s'
  pub adds : (F G : Fun) → Stands s lo F → Stands s hi G → From (v + 1) F → From (v + 1) G
      → Does s s' (choice v G F ∷ []) × Stands s' i (choice v G F)
  pub nothing : (s.table.used ≤ lo) ⊎ (s.table.used ≤ hi) → (s' ≡ s) × (i ≡ lo)
  pub not_above : (is_deeper v lo s.table.level && is_deeper v hi s.table.level) ≡ false → (s' ≡ s) × (i ≡ lo)
