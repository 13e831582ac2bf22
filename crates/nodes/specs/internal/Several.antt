-- Formulas over several levels, as the calls work them out: from the lowest level on, by recursion. Assumes nothing.
use Rattle.std.specs.Prelude.{◌≡◌, ℕ, zero, suc, ◌+◌}
use Rattle.nodes.specs.declared.levels.Levels.{Levels}
use Rattle.nodes.specs.Formula.{Formula, some, renamed}

-- ∃ of the n levels v, v + k, v + 2 k and so on, highest first
abbrev pub some_from : ℕ → ℕ → ℕ → Formula → Formula
some_from v k zero φ = φ
some_from v k (suc n) φ = some v (some_from (v + k) k n φ)

-- n levels from v on renamed to those from w on, k apart, highest first
abbrev pub renamed_from : ℕ → ℕ → ℕ → ℕ → Formula → Formula
renamed_from v w k zero φ = φ
renamed_from v w k (suc n) φ = renamed v w (renamed_from (v + k) (w + k) k n φ)

-- levels may be renamed to others: as many, as far apart, and other ones
pub record Alike (from to : Levels) : Type 0 where
  pub apart : to.apart ≡ from.apart
  pub count : to.count ≡ from.count
  pub other : from.first ≡ to.first → ⊥
