-- `nodes::Manager::make_three` meets its contract: one node after the other. Assumes nothing.
use Rattle.nodes.proofs.Working.{keeps_then}
use Rattle.nodes.proofs.Quantifying.{three_lacks_1, three_lacks_2, three_joined, three_lacks_3, three_made, stopped_three}
use Rattle.nodes.proofs.manager.Manager.make_three.Goals as goal

pub returns-in_err-zero : goal.returns-in_err-zero
returns-in_err-zero c =
    let x = c.in_err-zero.ensures in
    let r = c.from_residual in
    stopped_three c.make.new.self r.result r.ensures.0 x.kept (three_lacks_1 c.requires x.makes)

pub returns-in_err-one : goal.returns-in_err-one
returns-in_err-one c =
    let x = c.in_ok-zero.ensures in
    let y = c.in_err-one.ensures in
    let r = c.from_residual-in_err-one in
    stopped_three c.make-2.new.self r.result r.ensures.0 (keeps_then x.kept y.kept) (three_lacks_2 c.requires x.makes y.makes)

pub returns-then-b : goal.returns-then-b
returns-then-b c =
    let x = c.in_ok-zero.ensures in
    let y = c.in_ok-one.ensures in
    record { kept = keeps_then x.kept y.kept; answers = three_joined c.requires x.makes y.makes c.if-a.true c.if-b.true }

pub returns-in_err-any : goal.returns-in_err-any
returns-in_err-any c =
    let x = c.in_ok-zero.ensures in
    let y = c.in_ok-one.ensures in
    let z = c.in_err-any.ensures in
    let r = c.from_residual-in_err-any in
    stopped_three c.make-3.new.self r.result r.ensures.0 (keeps_then x.kept (keeps_then y.kept z.kept)) (three_lacks_3 c.requires x.makes y.makes z.makes)

pub returns : goal.returns
returns c =
    let x = c.in_ok-zero.ensures in
    let y = c.in_ok-one.ensures in
    let z = c.in_ok-any.ensures in
    record { kept = keeps_then x.kept (keeps_then y.kept z.kept); answers = three_made c.requires x.makes y.makes z.makes }
