-- `frames::decoder::Decoder::run_even` meets its contract: the loop keeps what the pairs so far leave.
-- Assumes nothing.
use Rattle.std.proofs.Common.{◌≡◌, ◌+◌, ◌*◌, take, None}
use Rattle.frames.specs.Decoder.{run}
use Rattle.frames.proofs.decoder.Decoder.run_even.Given as goal

abbrev pub invariant-loop-i : goal.invariant-loop-i
invariant-loop-i l =
    run (record { stray = l.initial.stray; half = None; count = l.count; bytes = l.initial.bytes }) (take (2 * l.i) l.digits)
    ≡ record { stray = l.stray; half = None; count = l.count + l.i; bytes = l.bytes }
