-- What the exported functions answer: numbers for C, and the words of an answer. Assumes nothing.
use Rattle.std.specs.Prelude.{◌≡◌, Bool, Result, Ok, Err, List, [], ◌∷◌, ℕ, ◌+◌, ◌≤◌, ◌<◌, length, set}
use Rattle.frames.specs.Line.{lines_of}
use Rattle.frames.specs.Text.{read_text}
use Rattle.frames.specs.Process.{width, leaves, state_count, model_of}
use Rattle.frames.specs.declared.summary.Summary.{Summary}
use Rattle.frames.specs.declared.text.TextError.{TextError}
use Rattle.nodes.specs.Lookup.{Slices, number_of as looked_number, values_of as looked_values}
use Rattle.nodes.specs.declared.lookup.LookUpError.{LookUpError}
use Rattle.verdicts.specs.Bisimulation.{strong, weak}
use Rattle.verdicts.specs.Contract.{Values, Answer, refused_values, values_of, Compared}
use Rattle.verdicts.specs.declared.answer.CompareError.TheVariants.{Text}
use Rattle.verdicts.specs.declared.answer.Nodes.{Nodes}
use Rattle.verdicts.specs.declared.answer.Side.TheVariants.{Left}

-- 0: the comparison is answered, 2: it is refused
abbrev pub kind_of : Answer → ℕ
kind_of (Ok a) = 0
kind_of (Err e) = 2

-- the list with six words from a place on
abbrev pub six : List ℕ → (at a b c d e f : ℕ) → List ℕ
six words at a b c d e f = set (set (set (set (set (set words at a) (at + 1) b) (at + 2) c) (at + 3) d) (at + 4) e) (at + 5) f

-- the last six of twelve words: rounds and iterate's root of the weak verdict; nodes of the whole list, up to the relations, up to the weak answers; 0
abbrev pub last_words : List ℕ → (rounds iterate : ℕ) → Nodes → List ℕ
last_words words rounds iterate nodes = six words 6 rounds iterate nodes.whole nodes.relations nodes.answers 0

-- the twelve words of an answer: left root, right root; number, rounds and iterate's root of the strong verdict, and of the weak one; the three numbers of nodes; 0
abbrev pub answer_words : List ℕ → Values → List ℕ
answer_words words v =
    last_words (six words 0 v.left v.right (v.verdict strong).number (v.verdict strong).rounds (v.verdict strong).iterate (v.verdict weak).number)
    (v.verdict weak).rounds (v.verdict weak).iterate v.nodes

-- the first six words of a refusal: number, side, line, 0, 0, 0
abbrev pub refusal_words : List ℕ → Values → List ℕ
refusal_words words v = six words 0 v.number v.side v.line 0 0 0

-- its twelve: of 8 with the nodes, of other refusals with 0 in their place
abbrev pub refusal_twelve : List ℕ → Values → List ℕ
refusal_twelve words v = last_words (refusal_words words v) 0 0 v.nodes

-- the words of an answer or refusal, by the documents' number and values; those past the twelfth stay
abbrev pub written : List ℕ → Answer → List ℕ
written words (Ok a) = answer_words words (values_of (Ok a))
written words (Err e) = refusal_twelve words (refused_values e)

-- The contract of the exported comparison. With fewer than twelve words for the answer it returns 3 and touches nothing. The work slice is free
-- afterwards.
pub record Exported (l r : List ℕ) (limit : ℕ) (before after : Slices) (work work' : List ℕ) (words words' : List ℕ) (returned : ℕ) : Type 0 where
  pub short : length words < 12 → (returned ≡ 3) × (after ≡ before) × (work' ≡ work) × (words' ≡ words)
  pub long : 12 ≤ length words → (a : Answer) × Compared l r limit before after a × (returned ≡ kind_of a) × (words' ≡ written words a)

-- a look-up's value, or the number of its refusal where it has none
abbrev pub first_of : List ℕ → ℕ → ℕ
first_of [] other = other
first_of (v ∷ vs) other = v

abbrev pub numbered : Result Bool LookUpError → ℕ
numbered l = first_of (looked_values l) (looked_number l)

-- ---- what a text's model is

-- 0: the text is accepted, 2: it is refused
abbrev pub read_kind : Result Summary TextError → ℕ
read_kind (Ok s) = 0
read_kind (Err e) = 2

-- the words for an accepted text: the bits of its model, its lines, the leaf uses and the states of its model, 0, 0; and for a refused one
-- the first six of the same refusal by a comparison that has it on the left
abbrev pub model_words : List ℕ → List ℕ → Result Summary TextError → List ℕ
model_words words t (Ok s) = six words 0 (width (model_of t)) (length (lines_of t)) (leaves (model_of t)) (state_count (model_of t)) 0 0
model_words words t (Err e) = refusal_words words (refused_values (Text Left e.refusal e.line))

-- The contract of the exported call that tells what a text's model is. With fewer than six words for the answer it returns 3 and touches nothing.
pub record Described (t words words' : List ℕ) (returned : ℕ) : Type 0 where
  pub short : length words < 6 → (returned ≡ 3) × (words' ≡ words)
  pub long : 6 ≤ length words → (returned ≡ read_kind (read_text t)) × (words' ≡ model_words words t (read_text t))
