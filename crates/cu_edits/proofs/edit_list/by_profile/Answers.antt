use Rattle.std.proofs.Common.{List, ℕ, subst}
use Rattle.cu_chordal.specs.Groups.{AreGroups}
use Rattle.cu_edits.proofs.DrivenRoads.{grouped}
use Rattle.cu_edits.proofs.edit_list.by_profile.Goals as goal

pub returns : goal.returns
returns g c =
    let n = g.R.Roads.network c.args.roads.now in
    let profiles = c.in_ok-profiles.profiles.items in
    let arcs = c.in_ok-profiles.arcs.items in
    let one = subst (λ (xs : List ℕ). AreGroups xs c.deref-2.result.now c.profiles.result c.in_ok-groups.groups) c.deref.ensures.value c.in_ok-groups.ensures in
    let two = subst (λ (xs : List ℕ). AreGroups profiles xs c.profiles.result c.in_ok-groups.groups) c.deref-2.ensures.value one in
    let three = subst (λ (k : ℕ). AreGroups profiles arcs k c.in_ok-groups.groups) c.profiles.ensures.count two in
    grouped n profiles arcs c.in_ok-groups.groups c.in_ok-profiles.ensures three
