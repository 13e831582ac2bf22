-- A table as the calls hold it, in two lists: an entry's level and its low child in one number, and its high child. Assumes nothing.
use Rattle.std.specs.Prelude.{List, map, ℕ, ◌/◌, ◌%◌, ◌+◌, ◌*◌}
use Rattle.nodes.specs.Table.{Table, table, max_length}

-- a level and a low child in one number: a child is below the length of the longest table
abbrev pub packing : ℕ → ℕ → ℕ
packing v lo = v * max_length + lo

abbrev pub level_in : ℕ → ℕ
level_in p = p / max_length

abbrev pub low_in : ℕ → ℕ
low_in p = p % max_length

unfoldable pub levels : List ℕ → List ℕ
levels packed = map level_in packed

unfoldable pub lows : List ℕ → List ℕ
lows packed = map low_in packed

abbrev pub packed_table : List ℕ → List ℕ → ℕ → Table
packed_table packed high used = table (levels packed) (lows packed) high used
