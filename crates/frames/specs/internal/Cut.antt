-- A line cut off a text.
use Rattle.std.specs.Prelude.{ℕ, ◌+◌, List, length, take, drop, nat_lt}
use Rattle.frames.specs.Line.{Line, line, line_length, state_at, place_after}
use Rattle.frames.specs.declared.line.Cut.{Cut}

-- So many bytes are looked at together where the end of a line is looked for.
abbrev pub block : ℕ
block = 16

-- the line that a text starts with
unfoldable pub first_line : List ℕ → Line
first_line t = line (take (line_length t) t) (nat_lt (line_length t) (length t))

-- The line at a place: whether there is one and whether it is ended, where it ends, and the place of the line after it.
unfoldable pub cut_at : List ℕ → ℕ → Cut
cut_at t at = record { state = state_at t at; end = at + line_length (drop at t); next = place_after t at }
