-- What the program prints of two texts. Assumes nothing.
use Rattle.std.specs.Prelude.{◌≡◌, Ok, Err, List, ℕ, zero, suc, length}
use Rattle.nodes.specs.Lookup.{Slices}
use Rattle.verdicts.specs.Bisimulation.{Mode, strong, weak, by_mode}
use Rattle.verdicts.specs.Contract.{VerdictValues, values_of_verdict, Values, Answer, refused_values, Compared}
use Rattle.checking.specs.declared.Line.{Line}
use Rattle.checking.specs.declared.Line.TheVariants.{Equal, Different, Refused}
use Rattle.checking.specs.declared.Lines.{Lines}

-- the most bytes of a text: 64 lines of 255 bytes, two digits a byte, with their 0A
abbrev pub max_text : ℕ
max_text = 32704

-- the entries of its table, and its limit
abbrev pub table_length : ℕ
table_length = 4096

abbrev pub round_limit : ℕ
round_limit = 1000000

-- by a verdict's number: 0 "equal" and 1 "different", with rounds and the nodes of the comparison's whole list; else the refusal of that number, which is 9
abbrev pub numbered_line : (number rounds nodes : ℕ) → Line
numbered_line zero rounds nodes = Equal rounds nodes
numbered_line (suc zero) rounds nodes = Different rounds nodes
numbered_line (suc (suc n)) rounds nodes = Refused (suc (suc n)) 2 0

abbrev pub verdict_line : VerdictValues → ℕ → Line
verdict_line v nodes = numbered_line v.number v.rounds nodes

-- by the number and values of a refusal
abbrev pub refusal_line : Values → Line
refusal_line v = Refused v.number v.side v.line

-- the line of a mode; a refusal of the comparison stands on both
abbrev pub line_in : Mode → Answer → Line
line_in m (Ok a) = verdict_line (values_of_verdict (by_mode a.strong a.weak m)) a.nodes.whole
line_in m (Err e) = refusal_line (refused_values e)

-- the lines are those of a comparison of two texts by a limit, with a table of that length; the program's limit is `round_limit`
pub record Printed (l r : List ℕ) (limit : ℕ) (lines : Lines) : Type 0 where
  pub before : Slices
  pub after : Slices
  pub level_length : length before.level ≡ table_length
  pub low_length : length before.low ≡ table_length
  pub high_length : length before.high ≡ table_length
  pub answer : Answer
  pub compared : Compared l r limit before after answer
  pub strong_line : lines.strong ≡ line_in strong answer
  pub weak_line : lines.weak ≡ line_in weak answer
