-- The digit that is left of digits taken in pairs.
use Rattle.std.specs.Prelude.{ℕ, ◌-◌, ◌%◌, cond, List, length, Option, Some, None, ◌==◌, slice_index}
use Rattle.frames.specs.Decoder.{digit_of}

-- the value of the last digit, where it is without its second
unfoldable pub last_alone : List ℕ → Option ℕ
last_alone ds = cond (length ds % 2 == 1) (Some (digit_of (slice_index ds (length ds - 1)))) None
