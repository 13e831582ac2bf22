-- ∃ of a level by one recursion, which works out its three functions at a time. Assumes nothing.
use Rattle.std.specs.Prelude.{◌≡◌, true, false, List, [], ◌∷◌, ℕ, ◌<◌, Option, Some, None, Result, Ok, Err}
use Rattle.nodes.specs.declared.levels.Level.{Level}
use Rattle.nodes.specs.declared.manager.Full.{Full}
use Rattle.nodes.specs.declared.quantify.Trio.{Trio}
use Rattle.nodes.specs.Fun.{Fun, fixed, exists}
use Rattle.nodes.specs.Table.{Table, den, Entry}
use Rattle.nodes.specs.internal.Make.{Makeable, node_fun}
use Rattle.nodes.specs.internal.Operate.{Holds}
use Rattle.nodes.specs.internal.Work.{Added, Lacks, Store, Keeps}

-- three functions
pub record Funs : Type 0 where
  pub zero : Fun
  pub one : Fun
  pub any : Fun

abbrev pub listed : Funs → List Fun
listed h = h.zero ∷ h.one ∷ h.any ∷ []

-- the functions that ∃v F lists
abbrev pub results_of : ℕ → Fun → Funs
results_of v F = record { zero = fixed v false F; one = fixed v true F; any = exists v F }

-- the entries r of t' stand for the functions h, and whatever is new in t' was needed for them
pub record Trebled (t t' : Table) (h : Funs) (r : Trio) : Type 0 where
  pub added : Added t t' (listed h)
  pub zero : Entry t' r.zero h.zero
  pub one : Entry t' r.one h.one
  pub any : Entry t' r.any h.any

-- three nodes of level v would be in order
pub record MakeableThree (t : Table) (v : ℕ) (a b : Trio) : Type 0 where
  pub zero : Makeable t v a.zero b.zero
  pub one : Makeable t v a.one b.one
  pub any : Makeable t v a.any b.any

-- their functions
abbrev pub node_funs : Table → ℕ → Trio → Trio → Funs
node_funs t v a b = record {
  zero = node_fun t v a.zero b.zero;
  one = node_fun t v a.one b.one;
  any = node_fun t v a.any b.any;
}

abbrev pub RecalledThree : List ℕ → ℕ → Option Trio → Type 0
RecalledThree memo o (Some r) = Holds memo o r.zero r.one r.any
RecalledThree memo o None = Unit {0}

-- the three functions are what ∃v of f's function lists
pub record MeantThree (t : Table) (v : Level) (f : ℕ) (h : Funs) : Type 0 where
  pub used : f < t.used
  pub zero : h.zero ≡ fixed v.v false (den t f)
  pub one : h.one ≡ fixed v.v true (den t f)
  pub any : h.any ≡ exists v.v (den t f)

-- ---- what a call ensures, from s to s'

-- the answer for three functions h: entries that stand for them, or that the table is too short
abbrev pub Trebles : Table → Table → Funs → Result Trio Full → Type 0
Trebles t t' h (Ok r) = Trebled t t' h r
Trebles t t' h (Err e) = Lacks t t' (listed h)

pub record Trebling (s s' : Store) (h : Funs) (r : Result Trio Full) : Type 0 where
  pub kept : Keeps s s'
  pub answers : Trebles s.table s'.table h r
