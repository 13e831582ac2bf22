-- `nodes::number_is` meets its contract, digit by digit. Assumes nothing.
use mathlib.Core.Path.{refl}
use lib.Dec.{eqb}
use Rattle.nodes.proofs.Singles.{lists_constant, no_digits_is, rest_guarded}
use Rattle.nodes.proofs.Stopping.{full_guards, stopped_lists}
use Rattle.nodes.proofs.manager.Manager.+number_is.Goals as goal

pub returns-then-levels-eq0 : goal.returns-then-levels-eq0
returns-then-levels-eq0 t c = lists_constant (eqb c.args.code 0) (no_digits_is c.if-levels-eq0.true _ _ c.args.code)

pub returns-in_err-m : goal.returns-in_err-m
returns-in_err-m t c =
    let a = c.args in
    let r = c.from_residual in
    stopped_lists c.number_is.new.self r.result r.ensures.0 {i = 0}
    (rest_guarded a.levels c.rest.result c.if-levels-eq0.false c.rest.ensures a.code c.in_err-m.ensures (full_guards refl))

pub returns : goal.returns
returns t c =
    let a = c.args in
    rest_guarded a.levels c.rest.result c.if-levels-eq0.false c.rest.ensures a.code c.in_ok-m.ensures c.guard.ensures
