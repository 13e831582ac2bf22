-- `frames::decoder::Decoder::run_even` meets its contract: the loop keeps what the pairs so far leave, and the calls say what the rest leaves.
-- Assumes nothing.
use Rattle.std.proofs.Common.{ℕ, ◌+◌, ◌*◌, ◌<◌, ◌≤◌, ◌/◌, ◌∙◌, min, get_or, length, ap, refl, arith, length-take-le}
use Rattle.frames.proofs.DecoderLaws.{first_of_pair, second_of_pair, pairs_none, pair_told, digit_is, none_is, even_is}
use Rattle.frames.proofs.decoder.Decoder.run_even.Goals as goal

pub loop-i-init : goal.loop-i-init
loop-i-init c = pairs_none _ c.args.digits.now refl

pub loop-i-preserved : goal.loop-i-preserved
loop-i-preserved c =
    let ds = c.args.digits.now in
    let i = c.loop-i.i in
    let n = c.min-read.result in
    let len = c.as_chunks.ensures.front_len in
    let size = length-take-le n c.as_chunks.result.0.now (omega (arith, c.min-read.ensures)) in
    let passed : i < n = omega (arith, size, c.loop-i-test.true) in
    let few : n ≤ length ds / 2 = omega (arith, len, c.min-read.ensures) in
    let x = c.hex_value-high.ensures ∙ first_of_pair ds n i c.as_chunks.ensures.front passed few in
    let y = c.hex_value-low.ensures ∙ second_of_pair ds n i c.as_chunks.ensures.front passed few in
    pair_told _ ds c.args.self.count i (omega arith) (omega (arith, c.min-read.ensures, c.saturating_sub.ensures)) c.loop-i.invariant
    (digit_is (get_or ds (2 * i) 0) x c.unwrap_or.ensures)
    (digit_is (get_or ds (2 * i + 1) 0) y c.unwrap_or-in-loop-i.ensures)
    (none_is (get_or ds (2 * i) 0) x c.is_none.result c.is_none.ensures)
    (none_is (get_or ds (2 * i + 1) 0) y c.is_none-in-loop-i.result c.is_none-in-loop-i.ensures)

pub returns : goal.returns
returns c =
    let len = c.as_chunks.ensures.front_len in
    let least = c.min-read.ensures ∙ ap (λ (k : ℕ). min k c.saturating_sub.result) len in
    let size = length-take-le c.min-read.result c.as_chunks.result.0.now (omega (arith, c.min-read.ensures)) in
    even_is c.args.self c.args.digits.now c.min-read.result c.requires c.saturating_sub.ensures least (omega (arith, size)) c.loop-i.invariant c.has_stray.ensures c.alone.ensures c.past_room.ensures
