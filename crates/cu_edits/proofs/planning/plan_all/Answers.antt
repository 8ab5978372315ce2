use Rattle.std.proofs.Common.{◌≡◌, ◌<◌, ◌^◌, ◌∷◌, ◌∙◌, [], ◌++◌, All, List, ℕ, length, ap, refl, subst, sym}
use Rattle.cu_chordal.specs.Graphs.{ChordalValue}
use Rattle.cu_model.specs.declared.roads.Edit.{Edit}
use Rattle.cu_model.specs.Networks.{IsNetwork}
use Rattle.cu_resettled.specs.ResettlingAll.{edited_all}
use Rattle.cu_edits.specs.EditLists.{EditListValue, FitsList}
use Rattle.cu_edits.specs.Steps.Adding.{IsInside, added}
use Rattle.cu_edits.proofs.AddedEdits.{few_profiles, inside_list, list_more, planned_arcs, planned_behind, planned_edges, range_more, sound_more}
use Rattle.cu_edits.proofs.EditedLists.{edited_networks}
use Rattle.cu_edits.proofs.Planned.{changed_arcs_within}
use Rattle.cu_edits.proofs.planning.plan_all.Goals as goal

pub touched_from-requires-clause-arcs : goal.touched_from-requires-clause-arcs
touched_from-requires-clause-arcs g c =
    let h = g.W.Ways.hierarchy c.args.ways.now in
    subst (λ (arcs : List ℕ). All (λ arc. arc < length h.network.arcs) arcs) (sym c.deref.ensures.value)
    (changed_arcs_within h c.args.edits.now.edits (edited_all h.network c.args.edits.now.edits) refl c.args.edit c.in_ok-arcs.arcs.items c.requires.range c.in_ok-arcs.ensures)

pub touched_from-requires-clause-edges : goal.touched_from-requires-clause-edges
touched_from-requires-clause-edges g c =
    let same : length c.args.graph.now.edges ≡ length (g.W.Ways.hierarchy c.args.ways.now).edges = ap (λ (k : ChordalValue). length k.edges) c.requires.graph.0 in
    c.requires.edits.edges ∙ sym same

pub add-requires-clause-inside : goal.add-requires-clause-inside
add-requires-clause-inside g c =
    let h = g.W.Ways.hierarchy c.args.ways.now in
    subst (λ (list : EditListValue). IsInside (length list.assigned) (length list.given) c.args.edit) (sym c.in_ok-planned.ensures.same)
    (inside_list h.network c.args.edits.now c.requires.edits.network c.args.edit c.requires.range)

pub add-requires-clause-few : goal.add-requires-clause-few
add-requires-clause-few g c =
    let h = g.W.Ways.hierarchy c.args.ways.now in
    subst (λ (list : EditListValue). length list.given < 2 ^ 32) (sym c.in_ok-planned.ensures.same)
    (few_profiles h.network c.requires.graph.1.network c.args.edits.now c.requires.edits.network)

pub add-requires-clause-arcs : goal.add-requires-clause-arcs
add-requires-clause-arcs g c =
    let h = g.W.Ways.hierarchy c.args.ways.now in
    let all = planned_arcs h c.args.edits.now c.requires.edits c.args.edit c.in_ok-arcs.arcs.items c.requires.range c.in_ok-arcs.ensures in
    subst (λ (arcs : List ℕ). All (λ arc. arc < length c.touched_from.new.self.changed) arcs) (sym c.deref-2.ensures.value)
    (subst (λ (list : EditListValue). All (λ arc. arc < length list.changed) c.in_ok-arcs.arcs.items) (sym c.in_ok-planned.ensures.same) all)

pub add-requires-clause-edges : goal.add-requires-clause-edges
add-requires-clause-edges g c =
    let h = g.W.Ways.hierarchy c.args.ways.now in
    let edits = c.args.edits.now.edits in
    let edges = c.in_ok-planned.planned.edges.items in
    let sound = edited_networks h.network edits c.requires.graph.1.network c.requires.edits.network.range c.requires.edits.network.sets in
    let (touched, numbers, counted) = planned_behind h c.requires.graph.1 c.args.edits.now c.requires.edits c.args.edit c.deref.result.now c.in_ok-arcs.arcs.items c.in_ok-planned.planned c.deref.ensures.value sound c.in_ok-arcs.ensures c.in_ok-planned.ensures.planned in
    let all = planned_edges h c.args.edits.now c.requires.edits c.args.edit edges touched c.in_ok-planned.planned.count numbers counted in
    subst (λ (es : List ℕ). All (λ edge. edge < length c.touched_from.new.self.touched) es) (sym c.deref-3.ensures.value)
    (subst (λ (list : EditListValue). All (λ edge. edge < length list.touched) edges) (sym c.in_ok-planned.ensures.same) all)

pub returns-clause-fits : goal.returns-clause-fits
returns-clause-fits g c =
    let h = g.W.Ways.hierarchy c.args.ways.now in
    let old = c.args.edits.now in
    let edit = c.args.edit in
    let arcs = c.in_ok-arcs.arcs.items in
    let edges = c.in_ok-planned.planned.edges.items in
    let is : c.add.new.self ≡ added old edit arcs edges =
    c.in_ok-add.ensures.made ∙ ap (λ (list : EditListValue). added list edit c.deref-2.result.now c.deref-3.result.now) c.in_ok-planned.ensures.same
    ∙ ap (λ (xs : List ℕ). added old edit xs c.deref-3.result.now) c.deref-2.ensures.value ∙ ap (added old edit arcs) c.deref-3.ensures.value in
    let sound = edited_networks h.network old.edits c.requires.graph.1.network c.requires.edits.network.range c.requires.edits.network.sets in
    let (touched, numbers, counted) = planned_behind h c.requires.graph.1 c.args.edits.now c.requires.edits c.args.edit c.deref.result.now c.in_ok-arcs.arcs.items c.in_ok-planned.planned c.deref.ensures.value sound c.in_ok-arcs.ensures c.in_ok-planned.ensures.planned in
    subst (FitsList h) (sym is)
    (list_more h old edit arcs edges touched c.in_ok-planned.planned.count c.requires.edits c.requires.range c.read_edit.ensures c.in_ok-arcs.ensures numbers counted)

pub returns-clause-sound : goal.returns-clause-sound
returns-clause-sound g c =
    let h = g.W.Ways.hierarchy c.args.ways.now in
    let old = c.args.edits.now in
    let edit = c.args.edit in
    let edits : c.add.new.self.edits ≡ old.edits ++ edit ∷ [] =
    ap (λ (list : EditListValue). list.edits) c.in_ok-add.ensures.made ∙ ap (λ (list : EditListValue). list.edits ++ edit ∷ []) c.in_ok-planned.ensures.same in
    subst (λ (es : List Edit). IsNetwork (edited_all h.network es)) (sym edits)
    (edited_networks h.network (old.edits ++ edit ∷ []) c.requires.graph.1.network (range_more h.network old.edits edit c.requires.edits.network.range c.requires.range)
    (sound_more old.edits edit c.requires.edits.network.sets c.read_edit.ensures))

pub returns-clause-count : goal.returns-clause-count
returns-clause-count g c =
    let h = g.W.Ways.hierarchy c.args.ways.now in
    let edits = c.args.edits.now.edits in
    let sound = edited_networks h.network edits c.requires.graph.1.network c.requires.edits.network.range c.requires.edits.network.sets in
    let (touched, numbers, counted) = planned_behind h c.requires.graph.1 c.args.edits.now c.requires.edits c.args.edit c.deref.result.now c.in_ok-arcs.arcs.items c.in_ok-planned.planned c.deref.ensures.value sound c.in_ok-arcs.ensures c.in_ok-planned.ensures.planned in
    record { touched = touched; numbers = numbers; counted = counted.counts }
