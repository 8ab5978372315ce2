-- What the rows of a table give, once they were gone through.
use Rattle.std.proofs.Common.{◌≡◌, ◌∙◌, ℕ, List, [], Some, false, length, refl, subst}
use Rattle.std.specs.Prelude.{Result}
use Rattle.cu_model.specs.declared.roads.RoadArc.{RoadArc}
use Rattle.cu_tables.specs.Checks.{Adds, below}
use Rattle.cu_tables.specs.Tables.{rows_below, table}
use Rattle.cu_tables.specs.Taking.{EndsBelow}
use Rattle.cu_tables.proofs.TakingFacts.{Follows, Leads, walked_below}
use Rattle.cu_roads.specs.declared.places.Place.{Place}
use Rattle.cu_roads.specs.declared.refusals.File.TheVariants.{Nodes, Roads}
use Rattle.cu_roads.specs.declared.refusals.RoadRefusal.{RoadRefusal}
use Rattle.cu_roads.specs.declared.refusals.RoadRefusal.TheVariants.{Header}
use Rattle.cu_roads.specs.declared.nodes.NodeRows.{NodeRows}
use Rattle.cu_roads.specs.declared.arcs.ArcRows.{ArcRows}
use Rattle.cu_roads.specs.NetworkTexts.{arc_fault, arc_header, arc_of_row, arcs_of_rows, arcs_of_text, node_fault, node_header, place_of_row, places_of_rows, places_of_text}
use Rattle.cu_roads.specs.Steps.TableRows.{is_of_profiles}
use Rattle.cu_roads.proofs.RowWalks.{rest_failed, rest_of, rest_passed}

abbrev pub takes_node : NodeRows → List (List ℕ) → NodeRows → Type 0
takes_node s row t = Adds (node_fault (length s.places.items) row) (place_of_row row) s.places.items t.places.items

abbrev pub refuses_node : NodeRows → List (List ℕ) → RoadRefusal → NodeRows → Type 0
refuses_node s row why t = (is_of_profiles why ≡ false) × (node_fault (length s.places.items) row ≡ Some why) × (t ≡ s)

abbrev pub takes_arc : ArcRows → List (List ℕ) → ArcRows → Type 0
takes_arc s row t = (t.nodes ≡ s.nodes) × (t.profiles ≡ s.profiles) × Adds (arc_fault s.nodes s.profiles (length s.arcs.items) row) (arc_of_row row) s.arcs.items t.arcs.items

abbrev pub refuses_arc : ArcRows → List (List ℕ) → RoadRefusal → ArcRows → Type 0
refuses_arc s row why t = (is_of_profiles why ≡ false) × (arc_fault s.nodes s.profiles (length s.arcs.items) row ≡ Some why) × (t ≡ s)

-- what the rows behind those taken give
abbrev pub nodes_rest : NodeRows → List (List (List ℕ)) → Result (List Place) RoadRefusal
nodes_rest s rows = rest_of node_fault place_of_row s.places.items rows

abbrev pub arcs_rest : ℕ → ℕ → ArcRows → List (List (List ℕ)) → Result (List RoadArc) RoadRefusal
arcs_rest nodes profiles s rows = rest_of (arc_fault nodes profiles) arc_of_row s.arcs.items rows

abbrev pub Any : NodeRows → Type 0
Any s = Unit {0}

-- the roads are between so many nodes, by so many profiles
abbrev pub HasCounts : ℕ → ℕ → ArcRows → Type 0
HasCounts nodes profiles s = (s.nodes ≡ nodes) × (s.profiles ≡ profiles)

nodes_follow : Follows takes_node refuses_node Any nodes_rest
nodes_follow = record {
  kept = λ s row t h k. tt;
  taken = λ s row t rest h k. rest_passed node_fault place_of_row s.places.items t.places.items row rest h;
  refused = λ s row why t rest h k. rest_failed node_fault place_of_row s.places.items row rest why h.1;
}

arcs_follow : (nodes profiles : ℕ) → Follows takes_arc refuses_arc (HasCounts nodes profiles) (arcs_rest nodes profiles)
arcs_follow nodes profiles = record {
  kept = λ s row t h k. (h.0 ∙ k.0, h.1 ∙ k.1);
  taken = λ s row t rest h k. rest_passed (arc_fault nodes profiles) arc_of_row s.arcs.items t.arcs.items row rest (rw (k.0, k.1) at h.2);
  refused = λ s row why t rest h k. rest_failed (arc_fault nodes profiles) arc_of_row s.arcs.items row rest why (rw (k.0, k.1) at h.1);
}

-- what a table of nodes gives, once it was gone through
pub places_read : {U : Type 0} (text : List ℕ) (names : List (List ℕ)) (s t : NodeRows) (answer : Result U RoadRefusal) → names ≡ node_header → s.places.items ≡ []
    → EndsBelow takes_node refuses_node (Header Nodes) s (rows_below names (table text)) t answer → Leads (places_of_text text) Any nodes_rest t answer
places_read text names s t answer e empty h =
    subst (λ (header : List (List ℕ)). Leads (below (Header Nodes) places_of_rows (rows_below header (table text))) Any nodes_rest t answer) e
    (subst (λ (places : List Place). Leads (below (Header Nodes) (λ rows. rest_of node_fault place_of_row places rows) (rows_below names (table text))) Any nodes_rest t answer) empty
    (walked_below nodes_follow s t (rows_below names (table text)) (Header Nodes) answer tt h))

-- the same of a table of roads
pub arcs_read : {U : Type 0} (text : List ℕ) (names : List (List ℕ)) (s t : ArcRows) (answer : Result U RoadRefusal) → names ≡ arc_header → s.arcs.items ≡ []
    → EndsBelow takes_arc refuses_arc (Header Roads) s (rows_below names (table text)) t answer
    → Leads (arcs_of_text s.nodes s.profiles text) (HasCounts s.nodes s.profiles) (arcs_rest s.nodes s.profiles) t answer
arcs_read text names s t answer e empty h =
    let rest = arcs_rest s.nodes s.profiles in
    subst (λ (header : List (List ℕ)). Leads (below (Header Roads) (arcs_of_rows s.nodes s.profiles) (rows_below header (table text))) (HasCounts s.nodes s.profiles) rest t answer) e
    (subst (λ (arcs : List RoadArc). Leads (below (Header Roads) (λ rows. rest_of (arc_fault s.nodes s.profiles) arc_of_row arcs rows) (rows_below names (table text)))
    (HasCounts s.nodes s.profiles) rest t answer) empty
    (walked_below (arcs_follow s.nodes s.profiles) s t (rows_below names (table text)) (Header Roads) answer (refl, refl) h))
