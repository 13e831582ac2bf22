-- `frames::line::line_end` meets its contract: past the whole blocks it is the place of the first 0A.
-- Assumes nothing.
use Rattle.std.proofs.Common.{eqb, arith, rules, tests}
use Rattle.std.proofs.lemmas.Iterator.{YieldsList-from_slice}
use Rattle.std.proofs.lemmas.Iterator.Search.{position_from_yields_List}
use Rattle.frames.proofs.LineLaws.{length_past, blocks_passed, place_found}
use Rattle.frames.proofs.line.line_end.Goals as goal

pub returns-in_default : goal.returns-in_default
returns-in_default c =
    let t = c.args.text.now in
    let past = blocks_passed t c.args.at c.past_blocks-start.ensures in
    omega (arith, length_past t c.past_blocks-start.result (grind arith))

pub returns : goal.returns
returns c =
    let t = c.args.text.now in
    let rest = c.in-Some.rest.now in
    let past = blocks_passed t c.args.at c.past_blocks-start.ensures in
    let found = position_from_yields_List (λ x. eqb x 10) _ _ c.position.result c.position.ensures.ran (YieldsList-from_slice rest cc) (λ x b q k. search (rules, tests)) in
    omega (arith, place_found t c.past_blocks-start.result c.in-Some.ensures.lookup.0.2 found c.unwrap_or.ensures)
