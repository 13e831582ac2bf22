-- `frames::line::line_digits` meets its contract: the part from the place to the line's end.
-- Assumes nothing.
use Rattle.std.proofs.Common.{sym, ◌∙◌}
use Rattle.frames.proofs.LineLaws.{digits_part, digits_none, cut_end}
use Rattle.frames.proofs.line.line_digits.Goals as goal

pub returns-in-Some : goal.returns-in-Some
returns-in-Some c = let a = c.args in c.in-Some.ensures.lookup.0.2 ∙ digits_part a.text.now a.at _ (cut_end a.text.now a.at _ c.line_at.ensures)

pub returns-in-None : goal.returns-in-None
returns-in-None c = let a = c.args in sym (digits_none a.text.now a.at _ (cut_end a.text.now a.at _ c.line_at.ensures) c.in-None.ensures.lookup.0)
