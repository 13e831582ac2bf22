-- From what reading a text answers to what the exported call tells of its model. Assumes nothing.
use mathlib.Core.Path.{◌≡◌, refl, sym, ap, ◌∙◌}
use mathlib.Core.List.{List}
use Prim.Native.Nat.{ℕ, ◌-◌, ◌≤◌, ◌<◌}
use native.Mathlib.Omega.{arith}
use lib.ListN.{length}
use Rattle.frames.specs.Summary.{line_bits, line_uses, line_states}
use Rattle.frames.specs.Text.{read_text}
use Rattle.frames.specs.declared.summary.Summary.{Summary}
use Rattle.frames.specs.declared.text.TextError.{TextError}
use Rattle.std.proofs.Common.{Result, Ok, Err}
use Rattle.frames.proofs.Accepting.{lines_counted, lines_some, bits_entry, uses_entry, states_entry, model_last}
use Rattle.seipolku.specs.Exported.{six, refusal_words, read_kind, model_words, Described}
use Rattle.verdicts.specs.Contract.{refused_values}
use Rattle.verdicts.specs.declared.answer.CompareError.TheVariants.{Text}
use Rattle.verdicts.specs.declared.answer.Side.TheVariants.{Left}

-- the words that a summary gives for its last line
abbrev pub summary_words : List ℕ → Summary → List ℕ
summary_words words s =
    six words 0 (line_bits s (s.lines - 1)) s.lines (line_uses s (s.lines - 1)) (line_states s (s.lines - 1)) 0 0

-- with too few words
pub described_short : (t words : List ℕ) → length words < 6 → Described t words words 3
described_short t words few = record { short = λ _. (refl, refl); long = λ h. absurd (omega arith) }

-- by what reading answers
described_by : (t words words' : List ℕ) (returned : ℕ) (r : Result Summary TextError) → read_text t ≡ r → 6 ≤ length words → returned ≡ read_kind r
    → words' ≡ model_words words t r → Described t words words' returned
described_by t words words' returned r e many kind same =
    record { short = λ h. absurd (omega arith); long = λ _. (kind ∙ ap read_kind (sym e), same ∙ ap (model_words words t) (sym e)) }

-- a refused text
pub described_refused : (t words words' : List ℕ) (e : TextError) → read_text t ≡ Err e → 6 ≤ length words
    → words' ≡ refusal_words words (refused_values (Text Left e.refusal e.line)) → Described t words words' 2
described_refused t words words' e reads many same = described_by t words words' 2 (Err e) reads many refl same

-- an accepted one: the summary's last entries are those of its model
pub described_accepted : (t words words' : List ℕ) (s : Summary) → read_text t ≡ Ok s → 6 ≤ length words → words' ≡ summary_words words s → Described t words words' 0
described_accepted t words words' s ok many same = described_by t words words' 0 (Ok s) ok many refl (same ∙ last_entries)
  where
    inside : s.lines - 1 < s.lines
    inside = omega (arith, lines_some t s ok)

    last_entries : summary_words words s ≡ model_words words t (Ok s)
    last_entries = rw (bits_entry t s ok _ inside, uses_entry t s ok _ inside, states_entry t s ok _ inside, sym (model_last t s ok), lines_counted t s ok) refl
