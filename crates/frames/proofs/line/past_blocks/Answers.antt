-- `frames::line::past_blocks` meets its contract: the blocks counted are those of the line. Assumes nothing.
use Rattle.std.proofs.Common.{◌≡◌, ℕ, ◌/◌, List, ap, ◌∙◌, rules, tests, arith}
use Rattle.std.specs.List.{prefix_len}
use Rattle.std.proofs.lemmas.Iterator.{YieldsList-from_slice}
use Rattle.std.proofs.lemmas.Iterator.Consumers.{count_from_yields_List}
use Rattle.std.proofs.lemmas.Iterator.Search.{YieldsList-from_take_while}
use Rattle.std.proofs.lemmas.List.Folds.{length-prefix_len}
use Rattle.frames.specs.Line.{line_length}
use Rattle.frames.specs.internal.Cut.{block}
use Rattle.frames.proofs.LineLaws.{length_past, rest_is, unbroken, blocks_told}
use Rattle.frames.proofs.line.past_blocks.Goals as goal

pub returns-in_default : goal.returns-in_default
returns-in_default c = omega (arith, length_past c.args.text.now c.args.at (grind arith))

pub returns : goal.returns
returns c =
    let rest = c.in-Some.ensures.lookup.0.2 ∙ rest_is c.args.text.now c.args.at in
    let blocks = c.as_chunks.result.0.now in
    let counted : c.count-passed.result ≡ prefix_len unbroken blocks =
    count_from_yields_List c.take_while.result _ c.count-passed.ensures.ran
    (YieldsList-from_take_while _ unbroken (YieldsList-from_slice blocks cc) c.take_while.ensures.closure c.take_while.ensures.done (λ x b q k. search (rules, tests)))
    ∙ length-prefix_len unbroken blocks in
    let told = ap (prefix_len unbroken) c.as_chunks.ensures.front ∙ blocks_told c.in-Some.rest.now ∙ ap (λ (l : List ℕ). line_length l / block) rest in
    omega (arith, counted, told)
