-- Decoding a line's digits in one pass: the state between two of its bytes, which is all that is kept of those before, and what that state says of
-- a line that ends there.
use Rattle.std.specs.Prelude.{ℕ, ◌+◌, ◌*◌, ◌%◌, Bool, false, cond, not, ◌||◌, List, [], ◌∷◌, take, replicate, Option, Some, None, Result, Ok, Err, nat_le, nat_lt, slice_set}
use Rattle.std.specs.Option.{is_some}
use Rattle.frames.specs.Bytes.{hex_value, is_hex, max_bytes}
use Rattle.frames.specs.Summary.{max_bits, refused, taken_of}
use Rattle.frames.specs.declared.bytes.DecodeError.{DecodeError}
use Rattle.frames.specs.declared.bytes.DecodeError.TheVariants.{Stray, Long}
use Rattle.frames.specs.declared.decoder.Decoder.{Decoder}
use Rattle.frames.specs.declared.refusal.Refusal.{Refusal}
use Rattle.frames.specs.declared.refusal.Refusal.TheVariants.{Spelling, Size}
use Rattle.frames.specs.declared.summary.Summary.{Summary}
use Rattle.frames.specs.declared.summary.Taken.{Taken}

-- Before a line's first byte: no stray byte, no digit that waits for its second, no byte spelt.
unfoldable pub start : Decoder
start = record { stray = false; half = None; count = 0; bytes = replicate max_bytes 0 }

-- the count past 255, where it stays: it stands for every larger one
abbrev pub too_many : ℕ
too_many = 256

-- the value that a byte goes on with: a digit's own; a stray byte is noted, and goes on as a 0
unfoldable pub digit_of : ℕ → ℕ
digit_of c = hex_value c % 16

unfoldable pub stray_after : Decoder → ℕ → Bool
stray_after d c = d.stray || not (is_hex c)

-- One byte more, by the digit that waits. A first digit waits for its second; the two spell a byte, which is kept while there is room. The
-- remainder by 256 matters only where the digit that waits is above 15, which no reading leaves.
unfoldable pub pushed_on : Option ℕ → Decoder → ℕ → Decoder
pushed_on None d c = record { stray = stray_after d c; half = Some (digit_of c); count = d.count; bytes = d.bytes }
pushed_on (Some high) d c =
    cond (nat_lt d.count max_bytes)
    (record { stray = stray_after d c; half = None; count = d.count + 1; bytes = slice_set d.bytes d.count ((high * 16 + digit_of c) % 256) })
    (record { stray = stray_after d c; half = None; count = too_many; bytes = d.bytes })

-- One byte more.
unfoldable pub pushed : Decoder → ℕ → Decoder
pushed d c = pushed_on d.half d c

-- A piece of the line more, of any length: its bytes, one after the other.
unfoldable pub run : Decoder → List ℕ → Decoder
run d [] = d
run d (c ∷ cs) = run (pushed d c) cs

-- Pieces one after the other, each from the state that the one before left.
unfoldable pub runs : Decoder → List (List ℕ) → Decoder
runs d [] = d
runs d (p ∷ ps) = runs (run d p) ps

-- What a state says of a line that ends there: Stray after a stray byte or with a digit alone, Long past 255 bytes, else its bytes.
unfoldable pub finished : Decoder → Result (List ℕ) DecodeError
finished d = cond (d.stray || is_some d.half) (Err Stray) (cond (nat_le d.count max_bytes) (Ok (take d.count d.bytes)) (Err Long))

-- refusal 1 for a stray byte or a digit alone, refusal 2 for more than 255 bytes, else what the bytes give
unfoldable pub taken_by : Summary → Result (List ℕ) DecodeError → Taken Refusal
taken_by s (Ok b) = taken_of max_bits s b
taken_by s (Err Stray) = refused s Spelling
taken_by s (Err Long) = refused s Size

-- Reading a line from the state that its bytes left, after the lines that the summary tells of.
unfoldable pub taken_state : Summary → Decoder → Taken Refusal
taken_state s d = taken_by s (finished d)
