-- Document 01's numbers and values for the answers: 0 where nothing is refused, else the number of the refusal.
use Rattle.std.specs.Prelude.{ℕ, Result, Ok, Err, List, [], ◌∷◌}
use Rattle.frames.specs.declared.bytes.DecodeError.{DecodeError}
use Rattle.frames.specs.declared.bytes.DecodeError.TheVariants.{Stray, Long}
use Rattle.frames.specs.declared.frame.Frame.{Frame}
use Rattle.frames.specs.declared.refusal.Refusal.{Refusal}
use Rattle.frames.specs.declared.refusal.Refusal.TheVariants.{Spelling, Size, Number, Kind, Range, Limits}
use Rattle.frames.specs.declared.summary.Summary.{Summary}
use Rattle.frames.specs.declared.text.TextError.{TextError}

-- of a refusal
abbrev pub refusal_number : Refusal → ℕ
refusal_number Spelling = 1
refusal_number Size = 2
refusal_number Number = 3
refusal_number Kind = 4
refusal_number Range = 5
refusal_number Limits = 6

-- of a line's digits
abbrev pub decoding_number : Result (List ℕ) DecodeError → ℕ
decoding_number (Ok _) = 0
decoding_number (Err Stray) = 1
decoding_number (Err Long) = 2

-- of a line
abbrev pub answer_number : Result Frame Refusal → ℕ
answer_number (Ok _) = 0
answer_number (Err r) = refusal_number r

-- of a text
abbrev pub verdict_number : Result Summary TextError → ℕ
verdict_number (Ok _) = 0
verdict_number (Err e) = refusal_number e.refusal

-- the line that is refused
abbrev pub verdict_values : Result Summary TextError → List ℕ
verdict_values (Ok _) = []
verdict_values (Err e) = e.line ∷ []
