use Rattle.std.proofs.Common.{◌≡◌, ◌∙◌, List, [], Option, Some, sym, ap}
use Rattle.std.specs.Prelude.{slice_get}
use Rattle.std.proofs.lemmas.List.{set-get_or}
use Rattle.std.proofs.lemmas.Option.{get_or_from_slice_get}
use Rattle.cu_model.specs.declared.roads.RoadArc.{RoadArc}
use Rattle.cu_model.specs.declared.roads.Edit.TheVariants.{Assign}
use Rattle.cu_model.specs.Edits.{reassigned}
use Rattle.cu_interval.specs.Hierarchies.{HierarchyValue}
use Rattle.cu_interval.specs.Replacing.{hierarchy_with}
use Rattle.tests_files.proofs.views.first_road_again.Goals as goal

-- these roads with the first one's profile given again
arcs_again : (arcs : List RoadArc) (road : RoadArc) → slice_get arcs 0 ≡ Some road → reassigned (slice_get arcs 0) 0 road.profile arcs ≡ arcs
arcs_again arcs road there =
    ap (λ (found : Option RoadArc). reassigned found 0 road.profile arcs) there ∙ ap (λ (r : RoadArc). reassigned (Some r) 0 r.profile arcs) (sym (get_or_from_slice_get arcs 0 road road there))
    ∙ set-get_or arcs 0 road

same_again : (h : HierarchyValue) (road : RoadArc) → slice_get h.network.arcs 0 ≡ Some road → hierarchy_with h (Assign 0 road.profile) [] ≡ h
same_again h road there = ap (λ (arcs : List RoadArc). record h { network = record h.network { arcs = arcs } }) (arcs_again h.network.arcs road there)

pub returns-clause-same : goal.returns-clause-same
returns-clause-same c = same_again c.args.view.now c.arc.result c.arc.ensures.there
