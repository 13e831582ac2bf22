-- `seipolku::write` meets its contract. Assumes nothing.
use mathlib.Core.Path.{refl}
use Rattle.seipolku.proofs.write.Goals as goal

pub returns-in-Ok : goal.returns-in-Ok
returns-in-Ok c =
    let s = c.from-s.ensures in
    let w = c.from-w.ensures in
    let first = c.put.ensures _ _ _ _ _ _ refl in
    rw c.in-Ok.is (refl, rw (c.put_nodes.ensures, first, s.0, s.1, s.2, w.0, w.1, w.2) refl)

pub returns-in-Err : goal.returns-in-Err
returns-in-Err c =
    let first = c.put-in-Err.ensures _ _ _ _ _ _ refl in
    rw c.in-Err.is (refl, rw (c.put_nodes-in-Err.ensures, first, c.number.ensures, c.side.ensures, c.line.ensures, c.nodes.ensures) refl)
