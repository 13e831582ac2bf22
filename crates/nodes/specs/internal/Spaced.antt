-- Levels of nodes that stand apart. Assumes nothing.
use Rattle.std.specs.Prelude.{ℕ, ◌+◌, ◌*◌, ◌≤◌, ◌<◌}
use Rattle.nodes.specs.Table.{last_level}

-- the w levels v, v + k, v + 2 k and so on are levels of nodes, each with n levels for itself
pub record Spaced (v k w n : ℕ) : Type 0 where
  pub apart : n ≤ k
  pub near : k ≤ 6
  pub first : v ≤ last_level + 6
  pub levels : (i : ℕ) → i < w → v + i * k + n ≤ last_level + 1
