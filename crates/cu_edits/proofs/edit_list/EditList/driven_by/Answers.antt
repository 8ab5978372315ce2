use Rattle.std.proofs.Common.{◌≡◌, ◌<◌, ◌∙◌, List, Some, ℕ, ap, arith, length, subst, sym}
use Rattle.std.specs.Prelude.{◌↔◌, All, slice_get}
use Rattle.std.specs.List.{Contains}
use Rattle.cu_model.specs.Networks.{NetworkValue}
use Rattle.cu_edits.specs.EditLists.{EditListValue, HasProfile}
use Rattle.cu_edits.specs.Steps.Adding.{AreMoved}
use Rattle.cu_edits.specs.Steps.Found.{AddsDriven}
use Rattle.cu_edits.proofs.DrivenRoads.{driven_behind, driven_within}
use Rattle.cu_edits.proofs.EditedLists.{arcs_all, profiles_all}
use Rattle.cu_edits.proofs.edit_list.EditList.driven_by.Goals as goal

pub group-requires : goal.group-requires
group-requires g c =
    let (before, fits, is) = c.requires.roads in
    let long = fits.roads.long in
    let same : length c.self.inside.roads ≡ length c.args.self.now.roads = ap (λ (v : EditListValue). length v.roads) c.self.view_is in
    let count : length (g.R.Roads.network c.args.roads.now).profiles ≡ length before.profiles = ap (λ (n : NetworkValue). length n.profiles) is ∙ profiles_all before c.args.self.now.edits in
    let lt = c.requires.profile in
    omega (arith, long, same, count, lt)

pub add_driven-requires : goal.add_driven-requires
add_driven-requires g c =
    let (before, fits, is) = c.requires.roads in
    let n = g.R.Roads.network c.args.roads.now in
    let at = subst (λ (v : EditListValue). slice_get v.roads c.args.profile ≡ Some c.group.result.now) c.self.view_is c.group.ensures in
    let count : length before.arcs ≡ length n.arcs = sym (ap (λ (k : NetworkValue). length k.arcs) is ∙ arcs_all before c.args.self.now.edits) in
    record { within = subst (λ (k : ℕ). All (λ arc. arc < k) c.group.result.now) count (driven_within before c.args.self.now.roads c.args.profile c.group.result.now fits.roads at) }

pub add_driven-requires-2 : goal.add_driven-requires-2
add_driven-requires-2 g c =
    let (before, fits, is) = c.requires.roads in
    let n = g.R.Roads.network c.args.roads.now in
    let long : length c.self.inside.assigned.items ≡ length before.arcs = ap (λ (v : EditListValue). length v.assigned) c.self.view_is ∙ fits.arcs in
    let count : length before.arcs ≡ length n.arcs = sym (ap (λ (k : NetworkValue). length k.arcs) is ∙ arcs_all before c.args.self.now.edits) in
    let all = subst (λ (k : ℕ). All (λ arc. arc < k) c.self.inside.moved.items) (long ∙ count) c.self.invariant.0.within in
    record { within = subst (λ (arcs : List ℕ). All (λ arc. arc < length n.arcs) arcs) (sym c.deref.ensures.value) all }

pub returns : goal.returns
returns g c =
    let (before, fits, is) = c.requires.roads in
    let list = c.args.self.now in
    let profile = c.args.profile in
    let moved = c.self.inside.moved.items in
    let mid = c.add_driven.new.arcs.items in
    let all = c.add_driven-2.new.arcs.items in
    let at = subst (λ (v : EditListValue). slice_get v.roads profile ≡ Some c.group.result.now) c.self.view_is c.group.ensures in
    let are = subst (λ (v : EditListValue). AreMoved v.assigned moved) c.self.view_is c.self.invariant.0 in
    let one = subst (λ (n : NetworkValue). AddsDriven n profile c.group.result.now c.new-arcs.result.items mid) is c.in_ok-add_driven.ensures in
    let two = subst (λ (some : List ℕ). AddsDriven (g.R.Roads.network c.args.roads.now) profile some mid all) c.deref.ensures.value c.in_ok-add_driven-2.ensures in
    let behind = driven_behind before list moved c.group.result.now c.new-arcs.result.items all profile fits are at c.new-arcs.ensures.items mid one
    (subst (λ (n : NetworkValue). AddsDriven n profile moved mid all) is two) in
    subst (λ (n : NetworkValue). (arc : ℕ) → Contains all arc ↔ HasProfile n profile arc) (sym is) behind
