-- `frames::decoder::has_stray` meets its contract: what `fold` answers is that some byte is no digit.
-- Assumes nothing.
use Rattle.std.proofs.Common.{false, not, ◌||◌, ◌∙◌, rules, tests}
use Rattle.std.proofs.lemmas.Iterator.{YieldsList-from_slice}
use Rattle.std.proofs.lemmas.Iterator.Consumers.{fold_from_yields_List}
use Rattle.frames.specs.Bytes.{is_hex}
use Rattle.frames.proofs.DecoderLaws.{read_some, any_stray, stray_noted}
use Rattle.frames.proofs.decoder.has_stray.Goals as goal

pub returns : goal.returns
returns c =
    let ds = c.args.digits.now in
    fold_from_yields_List _ (λ b x. b || not (is_hex x)) false _ c.fold.ensures.ran (YieldsList-from_slice ds cc) (λ a x b q k. search (rules, tests, read_some))
    ∙ stray_noted false ds ∙ any_stray ds
