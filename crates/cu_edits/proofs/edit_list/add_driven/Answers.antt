use Rattle.std.proofs.Common.{◌≡◌, ◌+◌, ◌∙◌, ℕ, ap, arith, length, subst, sym}
use Rattle.std.specs.Global.{Vec}
use Rattle.cu_edits.proofs.DrivenRoads.{AddsFirst, adds_first_all, adds_first_none, adds_first_one, adds_first_other}
use Rattle.cu_edits.proofs.edit_list.add_driven.Goals.{then-arc-profile+in_ok-push, else-arc-profile}
use Rattle.cu_edits.proofs.edit_list.add_driven.Goals as goal

pub loop-arc-init : goal.loop-arc-init
loop-arc-init g c = adds_first_none (g.R.Roads.network c.args.roads.now) c.args.profile c.args.some.now c.args.arcs.now.items

pub loop-arc-preserved : goal.loop-arc-preserved
loop-arc-preserved g c =
    let n = g.R.Roads.network c.args.roads.now in
    let profile = c.args.profile in
    let some = c.args.some.now in
    let index = c.loop-arc.arc-index in
    let old = c.args.arcs.now.items in
    let now = c.loop-arc.arcs.items in
    elim c.if-arc-profile.branch [
      | then-arc-profile+in_ok-push w ↦
          subst (AddsFirst n profile some (index + 1) old) (sym (ap (λ (v : Vec ℕ). v.items) w.arcs-is ∙ w.in_ok-push.ensures.items))
          (adds_first_one n profile index some old now c.arc.result c.arc.ensures.there w.if-arc-profile.true c.loop-arc.invariant)
      | else-arc-profile w ↦
          subst (λ (v : Vec ℕ). AddsFirst n profile some (index + 1) old v.items) (sym w.arcs-is)
          (adds_first_other n profile index some old now c.arc.result c.arc.ensures.there w.if-arc-profile.false c.loop-arc.invariant)
    ]

pub returns : goal.returns
returns g c =
    let all : c.loop-arc.arc-index ≡ length c.args.some.now = omega (arith, c.loop-arc-test.false, c.loop-arc.auto.arc-index-end) in
    adds_first_all (g.R.Roads.network c.args.roads.now) c.args.profile c.loop-arc.arc-index c.args.some.now c.args.arcs.now.items c.loop-arc.arcs.items all c.loop-arc.invariant
