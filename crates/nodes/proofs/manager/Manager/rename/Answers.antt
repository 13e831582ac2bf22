-- `nodes::rename` meets its contract. Assumes nothing.
use mathlib.Core.Path.{refl, sym, ◌∙◌}
use Rattle.nodes.proofs.Working.{used_both}
use Rattle.nodes.proofs.Singles.{maps_renaming}
use Rattle.nodes.proofs.Stopping.{full_and, full_maps, stopped_maps, more_some}
use Rattle.nodes.proofs.manager.Manager.rename.Goals as goal

pub returns-in_err-e : goal.returns-in_err-e
returns-in_err-e c =
    let a = c.args in
    let r = c.from_residual in
    stopped_maps c.same.new.self r.result r.ensures.0 refl
    (maps_renaming a.v.v a.w.v (used_both (sym c.are_used.ensures ∙ c.if-not-are_used.false)).0 c.in_err-e.ensures (full_and refl) (full_maps refl (more_some a.v.v)))

pub returns-in_err-g : goal.returns-in_err-g
returns-in_err-g c =
    let a = c.args in
    let r = c.from_residual-in_err-g in
    stopped_maps c.and.new.self r.result r.ensures.0 refl
    (maps_renaming a.v.v a.w.v (used_both (sym c.are_used.ensures ∙ c.if-not-are_used.false)).0 c.in_ok-e.ensures c.in_err-g.ensures (full_maps refl (more_some a.v.v)))

pub returns : goal.returns
returns c =
    let a = c.args in
    maps_renaming a.v.v a.w.v (used_both (sym c.are_used.ensures ∙ c.if-not-are_used.false)).0 c.in_ok-e.ensures c.in_ok-g.ensures c.exists.ensures
