-- `frames::decoder::Decoder::run` meets its contract: the first digit joins one that waits, and the others go on from there.
-- Assumes nothing.
use Rattle.frames.proofs.DecoderLaws.{push_even, run_first}
use Rattle.frames.proofs.decoder.Decoder.run.Goals as goal

pub run_even-requires-2 : goal.run_even-requires-2
run_even-requires-2 c = push_even c.args.self _ c.if-is_none.ensures c.push.ensures

pub returns : goal.returns
returns c = run_first c.args.self c.args.digits.now c.in-Some.ensures.cases c.push.ensures c.run_even-2.ensures
