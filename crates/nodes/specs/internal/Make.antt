-- What making a node needs and answers. Assumes nothing.
use Rattle.std.specs.Prelude.{◌≡◌, List, ℕ, ◌+◌, ◌≤◌, ◌<◌, length, Option, Some, None, Result, Ok, Err}
use Rattle.nodes.specs.declared.manager.Full.{Full}
use Rattle.nodes.specs.Fun.{Fun}
use Rattle.nodes.specs.internal.Packed.{packed_table}
use Rattle.nodes.specs.internal.Parts.{memo_in}
use Rattle.nodes.specs.internal.Index.{Indexing}
use Rattle.nodes.specs.Table.{Table, last_level, level_of, low_of, high_of, choice, den, WellFormed}
use Rattle.nodes.specs.internal.Growth.{Absent, Built}

-- a node of level v with children lo and hi would be in order
pub record Makeable (t : Table) (v lo hi : ℕ) : Type 0 where
  pub formed : WellFormed t
  pub in_range : v ≤ last_level
  pub low_used : lo < t.used
  pub high_used : hi < t.used
  pub low_deeper : v < level_of t lo
  pub high_deeper : v < level_of t hi

-- entry i is the node of v, lo and hi
pub record IsNode (t : Table) (v lo hi i : ℕ) : Type 0 where
  pub node : 2 ≤ i
  pub used : i < t.used
  pub level : level_of t i ≡ v
  pub low : low_of t i ≡ lo
  pub high : high_of t i ≡ hi

-- an entry from `from` on is the node, or none is
abbrev pub FindsFrom : ℕ → Table → ℕ → ℕ → ℕ → Option ℕ → Type 0
FindsFrom from t v lo hi (Some i) = IsNode t v lo hi i
FindsFrom from t v lo hi None = (i : ℕ) → from ≤ i → IsNode t v lo hi i → ⊥

-- an entry below `to` is the node, or none is
abbrev pub FindsBelow : ℕ → Table → ℕ → ℕ → ℕ → Option ℕ → Type 0
FindsBelow to t v lo hi (Some i) = IsNode t v lo hi i
FindsBelow to t v lo hi None = (i : ℕ) → i < to → IsNode t v lo hi i → ⊥

abbrev pub Finds : Table → ℕ → ℕ → ℕ → Option ℕ → Type 0
Finds t v lo hi (Some i) = IsNode t v lo hi i
Finds t v lo hi None = (i : ℕ) → IsNode t v lo hi i → ⊥

-- the function of a node
abbrev pub node_fun : Table → ℕ → ℕ → ℕ → Fun
node_fun t v lo hi = choice v (den t hi) (den t lo)

-- entry i of t' stands for f, and is the only entry that t' may have more than t
pub record MadeAt (t t' : Table) (f : Fun) (i : ℕ) : Type 0 where
  pub built : Built t t' f i
  pub fresh : (k : ℕ) → t.used ≤ k → k < t'.used → k ≡ i

-- the lists that a call holds: the table in two, the work list, and how many entries are in use
pub record Held : Type 0 where
  pub packed : List ℕ
  pub high : List ℕ
  pub work : List ℕ
  pub used : ℕ

abbrev pub held : List ℕ → List ℕ → List ℕ → ℕ → Held
held packed high work used = record { packed = packed; high = high; work = work; used = used }

abbrev pub held_table : Held → Table
held_table h = packed_table h.packed h.high h.used

-- the table is full, no entry stands for f, and nothing was written
pub record Lacking (h h' : Held) (f : Fun) : Type 0 where
  pub full : h.used ≡ length h.packed
  pub absent : Absent (held_table h) f
  pub same : h' ≡ h

-- the index covers the table, and the memory of results is as it was
pub record Serves (h h' : Held) : Type 0 where
  pub indexing : Indexing (held_table h') h'.work
  pub memo : memo_in h'.work ≡ memo_in h.work

-- An entry stands for f: one that is there already, or one entry more. Or no entry does, and none is left for it.
abbrev pub Makes : Held → Held → Fun → Result ℕ Full → Type 0
Makes h h' f (Ok i) = MadeAt (held_table h) (held_table h') f i × Serves h h'
Makes h h' f (Err e) = Lacking h h' f

-- What the step that makes a node says (document 02, point 6): the node is new, the first entry that was not in use, and one entry more is in use.
abbrev pub IsNew : ℕ → ℕ → Result ℕ Full → Type 0
IsNew used used' (Ok i) = (i ≡ used) × (used' ≡ used + 1)
IsNew used used' (Err e) = used' ≡ used
