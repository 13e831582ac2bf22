-- `nodes::number_below` meets its contract, digit by digit. Assumes nothing.
use mathlib.Core.Path.{refl}
use lib.Dec.{ltb}
use Rattle.nodes.proofs.Singles.{lists_constant, no_digits_below, rest_chosen, first_fits}
use Rattle.nodes.proofs.Stopping.{full_lists, full_chooses, stopped_lists}
use Rattle.nodes.proofs.manager.Manager.+number_below.Goals as goal

pub returns-then-levels-eq0 : goal.returns-then-levels-eq0
returns-then-levels-eq0 t c = lists_constant (ltb 0 c.args.n) (no_digits_below c.if-levels-eq0.true _ _ c.args.n)

pub returns-in_err-low : goal.returns-in_err-low
returns-in_err-low t c =
    let a = c.args in
    let r = c.from_residual in
    stopped_lists c.number_below.new.self r.result r.ensures.0
    (rest_chosen {j = 0} a.levels c.rest.result c.rest.result c.if-levels-eq0.false c.rest.ensures c.rest.ensures a.n c.in_err-low.ensures (full_lists refl) (full_chooses refl))

pub returns-in_err-high : goal.returns-in_err-high
returns-in_err-high t c =
    let a = c.args in
    let r = c.from_residual-in_err-high in
    stopped_lists c.number_below-2.new.self r.result r.ensures.0
    (rest_chosen a.levels c.rest.result c.rest-2.result c.if-levels-eq0.false c.rest.ensures c.rest-2.ensures a.n c.in_ok-low.ensures c.in_err-high.ensures (full_chooses refl))

pub invariant_of-v : goal.invariant_of-v
invariant_of-v t c = record { fits = first_fits c.args.levels c.if-levels-eq0.false }

pub returns : goal.returns
returns t c =
    let a = c.args in
    rest_chosen a.levels c.rest.result c.rest-2.result c.if-levels-eq0.false c.rest.ensures c.rest-2.ensures a.n c.in_ok-low.ensures c.in_ok-high.ensures c.node.ensures
