use Rattle.std.proofs.Common.{◌≤◌, ◌<◌, ◌-◌, arith}
use Rattle.std.proofs.lemmas.Bool.{leb-false, leb-true}
use Rattle.cu_model.specs.Days.{day}
use Rattle.cu_runs.specs.declared.packed_runs.TheConstants.{MAX_NUMBER}
use Rattle.cu_customize.proofs.Middles.{far_some, near_none, near_some, triangle_below}
use Rattle.cu_customize.proofs.packed_settling.is_near.Goals as goal

pub returns-clause-near : goal.returns-clause-near
returns-clause-near c g is near =
    let test = leb-true _ _ near in
    let from = c.from.ensures in
    let few : c.saturating_add-most.result ≤ MAX_NUMBER - day = omega (arith, test, from) in
    near_some g c.args.task.now c.args.triangle.middle c.most.result c.most-2.result c.saturating_add-most.result c.in-Some.halves.first.now c.in-Some.halves.second.now
    (c.in-Some.ensures g is) c.most-2.ensures.function c.most.ensures.onward c.most-2.ensures.onward c.most.ensures.most c.most-2.ensures.most c.saturating_add-most.ensures few

pub returns-in_default-clause-near : goal.returns-in_default-clause-near
returns-in_default-clause-near c g is near = near_none g c.args.task.now c.args.triangle.middle (c.in_default.ensures g is)

pub returns-clause-far : goal.returns-clause-far
returns-clause-far c g is far =
    let test = leb-false _ _ far in
    let from = c.from.ensures in
    let late : MAX_NUMBER - day < c.saturating_add-most.result = omega (arith, test, from) in
    far_some g c.args.task.now c.args.triangle.middle c.most.result c.most-2.result c.saturating_add-most.result c.in-Some.halves.first.now c.in-Some.halves.second.now
    (triangle_below g c.args.task.now is c.args.triangle c.requires.triangle) (c.in-Some.ensures g is) c.most.ensures.taken c.most-2.ensures.taken c.saturating_add-most.ensures late
