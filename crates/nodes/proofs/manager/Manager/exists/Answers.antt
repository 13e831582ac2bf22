-- `nodes::Manager::exists` meets its contract, by that of `quantify`. Assumes nothing.
use mathlib.Core.Path.{refl, sym, ◌∙◌}
use Rattle.std.specs.Prelude.{Ok, Err}
use Rattle.nodes.proofs.Working.{used_both}
use Rattle.nodes.proofs.Stopping.{stopped_maps}
use Rattle.nodes.proofs.Quantifying.{maps_exists}
use Rattle.nodes.proofs.manager.Manager.exists.Goals as goal

pub returns-in_err-r : goal.returns-in_err-r
returns-in_err-r c =
    let a = c.args in
    let r = c.from_residual in
    stopped_maps c.quantify.new.self r.result r.ensures.0 refl (maps_exists a.v.v a.f (Err c.in_err-r.field-0.0) refl refl (used_both (sym c.are_used.ensures ∙ c.if-not-are_used.false)).0 c.in_err-r.ensures)

pub returns : goal.returns
returns c =
    let a = c.args in
    maps_exists a.v.v a.f (Ok c.in_ok-r.r) refl refl (used_both (sym c.are_used.ensures ∙ c.if-not-are_used.false)).0 c.in_ok-r.ensures
