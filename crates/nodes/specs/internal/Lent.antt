-- A manager that is lent to a call, as the clauses of a contract name it: the store that the call finds, and the one that it leaves. Assumes nothing.
use Rattle.std.specs.Prelude.{Bool, false, ℕ, Result, Ok, Err, is_err}
use Rattle.nodes.specs.declared.manager.Full.{Full}
use Rattle.nodes.specs.declared.manager.Manager.{Manager}
use Rattle.nodes.specs.Table.{Table}
use Rattle.nodes.specs.internal.Packed.{packed_table}
use Rattle.nodes.specs.internal.Make.{Held, held}
use Rattle.nodes.specs.internal.Work.{Store}

abbrev pub table_of : Manager → Table
table_of m = packed_table m.packed.now m.high.now m.used

abbrev pub held_by : Manager → Held
held_by m = held m.packed.now m.high.now m.work.now m.used

abbrev pub store : Manager → Bool → Store
store m full = record {
  table = table_of m;
  packed = m.packed.now;
  work = m.work.now;
  names = record { packed = m.packed.ghost_name; high = m.high.ghost_name; work = m.work.ghost_name };
  full = full;
  formed = m.formed;
}

-- The next three are in the clauses of all calls: one name for them and each kind of contract together would be two dozen names more.
-- the store that a call finds
abbrev pub entering : Manager → Store
entering m = store m false

-- the store that it leaves, with its answer: `Full` says that a node did not fit
abbrev pub leaving : {A : Type 0} → Manager → Result A Full → Store
leaving m r = store m (is_err r)

-- the entry that it answers
abbrev pub entry_of : Result ℕ Full → ℕ
entry_of (Ok i) = i
entry_of (Err e) = 0
