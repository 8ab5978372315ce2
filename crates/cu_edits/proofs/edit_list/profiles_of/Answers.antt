use Rattle.std.proofs.Common.{◌≡◌, ◌+◌, ◌∷◌, ◌++◌, [], List, ℕ, length, subst, sym, arith}
use Rattle.cu_edits.specs.Steps.Adding.{AreFirstProfiles}
use Rattle.cu_edits.proofs.DrivenRoads.{profiles_more, profiles_none}
use Rattle.cu_edits.proofs.edit_list.profiles_of.Goals as goal

pub loop-arc-init : goal.loop-arc-init
loop-arc-init g c =
    let n = g.R.Roads.network c.args.roads.now in
    subst (λ (xs : List ℕ). AreFirstProfiles n 0 xs c.in_ok-arcs.arcs.items) (sym c.in_ok-profiles.ensures.items)
    (subst (AreFirstProfiles n 0 []) (sym c.in_ok-arcs.ensures.items) (profiles_none n))

pub loop-arc-preserved : goal.loop-arc-preserved
loop-arc-preserved g c =
    let n = g.R.Roads.network c.args.roads.now in
    let arc = c.loop-arc.arc in
    let profiles = c.loop-arc.profiles.items in
    let arcs = c.loop-arc.arcs.items in
    let more = profiles_more n c.arc.ensures.sound arc profiles arcs c.arc.result c.arc.ensures.there c.loop-arc.invariant in
    subst (λ (xs : List ℕ). AreFirstProfiles n (arc + 1) xs c.push-in-loop-arc.new.self.items) (sym c.in_ok-push.ensures.items)
    (subst (AreFirstProfiles n (arc + 1) (profiles ++ c.arc.result.profile ∷ [])) (sym c.in_ok-push-2.ensures.items) more)

pub returns : goal.returns
returns g c =
    let n = g.R.Roads.network c.args.roads.now in
    let all : c.loop-arc.arc ≡ length n.arcs = omega (arith, c.loop-arc-test.false, c.loop-arc.auto.arc-end, c.requires.count) in
    subst (λ (k : ℕ). AreFirstProfiles n k c.loop-arc.profiles.items c.loop-arc.arcs.items) all c.loop-arc.invariant
