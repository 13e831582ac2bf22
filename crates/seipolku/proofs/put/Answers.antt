-- `seipolku::put` meets its contract. Assumes nothing.
use mathlib.Core.Path.{◌≡◌}
use Prim.Native.Nat.{◌+◌, ◌-◌}
use native.Mathlib.Omega.{arith}
use Rattle.seipolku.proofs.Putting.{at_once}
use Rattle.seipolku.proofs.put.Goals as goal

pub returns : goal.returns
returns c u v w x y z e =
    let six : c.args.at + 6 - c.args.at ≡ 6 = omega arith in
    rw (six, c.copy_from_slice.ensures.after, e) (at_once c.args.at c.args.words.now u v w x y z c.requires)
