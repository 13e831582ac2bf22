-- `frames::line::line_at` meets its contract: the tests say which case of `cut_at` holds.
-- Assumes nothing.
use Rattle.frames.proofs.LineLaws.{cut_ended, cut_unended, cut_none}
use Rattle.frames.proofs.line.line_at.Goals as goal

pub returns-then-end-text : goal.returns-then-end-text
returns-then-end-text c = let a = c.args in cut_ended a.text.now a.at _ c.line_end-end.ensures c.if-end-text.true

pub returns-then-at-text : goal.returns-then-at-text
returns-then-at-text c = let a = c.args in cut_unended a.text.now a.at _ c.line_end-end.ensures c.if-at-text.true c.if-end-text.false

pub returns : goal.returns
returns c = let a = c.args in cut_none a.text.now a.at _ c.line_end-end.ensures c.if-at-text.false c.if-end-text.false
