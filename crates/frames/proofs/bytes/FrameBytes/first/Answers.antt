-- `frames::bytes::FrameBytes::first` meets its contract: what stands behind the bytes is zero. Assumes nothing.
use Rattle.std.proofs.Common.{rules}
use Rattle.frames.proofs.PaddedLaws.{cleared_front, cleared_length, cleared_padded}
use Rattle.frames.proofs.bytes.FrameBytes.first.Goals as goal

pub invariant_of-result : goal.invariant_of-result
invariant_of-result c =
    let b = c.args.bytes in
    let z = c.fill.new.self in
    let zeros = c.fill.ensures.after (λ y e. e) in
    (c.requires, cleared_length c.args.len b z c.requires (search rules) zeros, cleared_padded c.args.len b z c.requires (search rules) zeros)

pub returns : goal.returns
returns c = cleared_front c.args.len c.args.bytes c.fill.new.self c.requires (search rules) (c.fill.ensures.after (λ y e. e))
