-- The reader of lines: the reader that stands before the first line, the one past a line, and what a reader says of its next line.
use Rattle.std.specs.Prelude.{ℕ, zero, suc, List}
use Rattle.std.specs.Borrow.{Bor}
use Rattle.frames.specs.Line.{state_at, digits_at, place_after}
use Rattle.frames.specs.declared.line.LineState.{LineState}
use Rattle.frames.specs.declared.reader.Reader.{Reader}

abbrev pub starting : Bor (List ℕ) → Reader
starting s = record { text = s; at = 0 }

abbrev pub past : Reader → Reader
past r = record { text = r.text; at = place_after r.text.now r.at }

-- whether a line is left, and whether it is ended
abbrev pub state_of : Reader → LineState
state_of r = state_at r.text.now r.at

-- its digits
abbrev pub digits_of : Reader → List ℕ
digits_of r = digits_at r.text.now r.at

-- The reader of a text past its first k lines.
abbrev pub reader_at : Bor (List ℕ) → ℕ → Reader
reader_at s zero = starting s
reader_at s (suc k) = past (reader_at s k)
