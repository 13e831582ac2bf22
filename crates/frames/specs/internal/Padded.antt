-- The bytes of a frame in the place of the most that a frame may have. Assumes nothing.
use Rattle.std.specs.Prelude.{ℕ, ◌-◌, List, ◌++◌, length, replicate}
use Rattle.frames.specs.Bytes.{max_bytes}

-- zeros behind them
unfoldable pub padded : List ℕ → List ℕ
padded xs = xs ++ replicate (max_bytes - length xs) 0
