-- The value of an entry where every variable is 0. Assumes nothing.
use Rattle.std.specs.Prelude.{Bool, false, ◌&&◌, ℕ, ltb}
use Rattle.nodes.specs.Fun.{Assignment}
use Rattle.nodes.specs.Table.{Table, den}

abbrev pub zeros : Assignment
zeros l = false

-- i is an entry in use, and its function holds there
abbrev pub holds_at_zero : Table → ℕ → Bool
holds_at_zero t i = ltb i t.used && den t i zeros
