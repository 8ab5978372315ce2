use Rattle.std.proofs.Common.{◌≡◌, ◌<◌, List, arith, get_or, length, subst, ℕ}
use Rattle.std.specs.Prelude.{All}
use Rattle.std.proofs.lemmas.Option.{slice_get-get_or}
use Rattle.std.proofs.lemmas.List.Elements.{Contains-get_or}
use Rattle.cu_chordal.specs.declared.graph.Ends.{Ends}
use Rattle.cu_edits.proofs.AtHand.{same_edges}
use Rattle.cu_edits.proofs.FirstOnes.{all_next, all_of_first, road_below}
use Rattle.cu_edits.proofs.unchanged_lists.are_roads_unchanged.Goals as goal
use Rattle.cu_resettled.specs.ResettlingAll.{IsChangedBySome}

pub is_changed-requires : goal.is_changed-requires
is_changed-requires g c =
    let h = c.args.parts.now.before in
    let roads = c.arcs-arc-items.result.now in
    let edges = same_edges h c.args.parts.now.graph c.arcs-arc-items.ensures.fit.0.hierarchy in
    road_below h.network h.order h.edges c.args.parts.now.arcs c.args.edge c.args.dir c.arcs-arc-items.ensures.fit.0.roads
    (subst (λ (es : List Ends). c.args.edge < length es) edges c.requires.edge) roads c.arcs-arc-items.ensures.there
    (get_or roads c.loop-arc.arc-index 0) (Contains-get_or roads c.loop-arc.arc-index 0 c.loop-arc-test.true)

pub returns : goal.returns
returns g c is list at =
    let h = c.args.parts.now.before in
    let roads = c.arcs-arc-items.result.now in
    let same : roads ≡ list = cc (c.arcs-arc-items.ensures.there, at) in
    let unchanged = all_of_first (λ a. IsChangedBySome h.network c.args.parts.now.edit a → ⊥) roads c.loop-arc.arc-index (omega (arith, c.loop-arc-test.false)) c.loop-arc.invariant in
    subst (λ (arcs : List ℕ). All (λ a. IsChangedBySome h.network c.args.parts.now.edit a → ⊥) arcs) same unchanged

pub loop-arc-preserved : goal.loop-arc-preserved
loop-arc-preserved g c =
    let h = c.args.parts.now.before in
    let roads = c.arcs-arc-items.result.now in
    all_next (λ a. IsChangedBySome h.network c.args.parts.now.edit a → ⊥) roads c.loop-arc.arc-index (get_or roads c.loop-arc.arc-index 0)
    (slice_get-get_or roads c.loop-arc.arc-index 0 c.loop-arc-test.true) c.loop-arc.invariant
    (λ changed. let is = c.is_changed.ensures.1 changed in absurd (cc (is, c.if-is_changed.false)))
