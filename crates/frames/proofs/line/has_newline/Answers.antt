-- `frames::line::has_newline` meets its contract. Assumes nothing.
use Rattle.std.proofs.Common.{false, ◌||◌, eqb, ◌∙◌, rules, tests}
use Rattle.std.proofs.lemmas.Iterator.{YieldsList-from_slice}
use Rattle.std.proofs.lemmas.Iterator.Consumers.{fold_from_yields_List}
use Rattle.frames.proofs.LineLaws.{newline_told}
use Rattle.frames.proofs.line.has_newline.Goals as goal

pub returns : goal.returns
returns c =
    fold_from_yields_List _ (λ b x. b || eqb x 10) false _ c.fold.ensures.ran (YieldsList-from_slice c.args.bytes.now cc) (λ a x b q k. search (rules, tests))
    ∙ newline_told false c.args.bytes.now
