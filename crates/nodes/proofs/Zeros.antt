-- The walk where every variable is 0: it goes by low children. Assumes nothing.
use mathlib.Core.Path.{◌≡◌, refl, sym, ap}
use Prim.Native.Nat.{ℕ, zero, suc, ◌≤◌, ◌<◌}
use native.Mathlib.Omega.{arith}
use borrow.Author.Tests.{lt-ltb}
use lib.Dec.{eqb}
use Rattle.nodes.specs.Fun.{Fun}
use Rattle.nodes.specs.Table.{Table, den, low_of, choice, WellFormed}
use Rattle.nodes.specs.internal.Zero.{zeros, holds_at_zero}
use Rattle.nodes.proofs.Tables.{den_0, den_1, den_node}

-- an entry in use
pub at_zero : (t : Table) (i : ℕ) → i < t.used → holds_at_zero t i ≡ den t i zeros
at_zero t i h = rw (lt-ltb i t.used h) refl

module _ (t : Table) (wf : WellFormed t) where
  -- to an earlier entry of the same value
  pub zeros_low : (i : ℕ) → 1 < i → i < t.used → den t i zeros ≡ den t (low_of t i) zeros
  unfolding choice
  zeros_low i h u = ap (λ (f : Fun). f zeros) (den_node t wf i h u)

  pub low_earlier : (i : ℕ) → 1 < i → i < t.used → low_of t i < i
  low_earlier i h u = (wf.nodes i h u).low_before

  -- and it ends at entry 0 or 1
  pub zeros_end : (i : ℕ) → i ≤ 1 → eqb i 1 ≡ den t i zeros
  zeros_end zero h = sym (den_0 t zeros)
  zeros_end (suc zero) h = sym (den_1 t zeros)
  zeros_end (suc (suc i)) h = absurd (omega arith)
