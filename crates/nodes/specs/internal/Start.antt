-- How a table begins, and how it is left. Assumes nothing.
use Rattle.std.specs.Prelude.{◌≡◌, List, ℕ, ◌≤◌, ◌<◌, length, get_or}
use Rattle.std.specs.Borrow.{MutBor}
use Rattle.nodes.specs.declared.manager.Manager.{Manager}
use Rattle.nodes.specs.Table.{Table, table, max_length, den, WellFormed}
use Rattle.nodes.specs.internal.Parts.{links_in, heads_in, memo_in}

abbrev pub Clear : List ℕ → Type 0
Clear s = (k : ℕ) → get_or s k 0 ≡ 0

-- the two slices in which calls hold a table fit
pub record Fits (packed high : List ℕ) : Type 0 where
  pub high_length : length high ≡ length packed
  pub least : 2 ≤ length packed
  pub most : length packed ≤ max_length

-- a manager of three slices, whose table has the constants alone
pub record Starts (packed high work : MutBor (List ℕ)) (m : Manager) : Type 0 where
  pub constants : m.used ≡ 2
  pub packed_length : length m.packed.now ≡ length packed.now
  pub high_length : length m.high.now ≡ length high.now
  pub work_length : length m.work.now ≡ length work.now
  pub packed_name : m.packed.ghost_name ≡ packed.ghost_name
  pub high_name : m.high.ghost_name ≡ high.ghost_name
  pub work_name : m.work.ghost_name ≡ work.ghost_name

-- a manager of three slices, in two of which a table with so many entries in use stands as it is; the work list is theirs by its length and its name
pub record Takes (packed high work : MutBor (List ℕ)) (used : ℕ) (m : Manager) : Type 0 where
  pub entries : m.used ≡ used
  pub packed_now : m.packed.now ≡ packed.now
  pub high_now : m.high.now ≡ high.now
  pub work_length : length m.work.now ≡ length work.now
  pub packed_name : m.packed.ghost_name ≡ packed.ghost_name
  pub high_name : m.high.ghost_name ≡ high.ghost_name
  pub work_name : m.work.ghost_name ≡ work.ghost_name

-- the work list is as it is, too
pub record Resumes (packed high work : MutBor (List ℕ)) (used : ℕ) (m : Manager) : Type 0 where
  pub takes : Takes packed high work used m
  pub work_now : m.work.now ≡ work.now

-- the memory of results is empty; the index is as it was
pub record Forgets (work work' : List ℕ) : Type 0 where
  pub same_length : length work' ≡ length work
  pub heads : heads_in work' ≡ heads_in work
  pub links : links_in work' ≡ links_in work
  pub empty : Clear (memo_in work')

-- of the work list the index is as it is, and the memory is empty
pub record TakesIndex (packed high work : MutBor (List ℕ)) (used : ℕ) (m : Manager) : Type 0 where
  pub takes : Takes packed high work used m
  pub forgets : Forgets work.now m.work.now

-- the table is left in document 01's three slices: the same entries in use, each standing for what it stood for
pub record Unpacked (t : Table) (level low high : List ℕ) : Type 0 where
  pub formed : WellFormed (table level low high t.used)
  pub same : (i : ℕ) → i < t.used → den (table level low high t.used) i ≡ den t i
