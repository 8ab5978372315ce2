-- The roads that an edit behind others changes, and the edges that it touches, over the graph of the hierarchy before them.
use Rattle.std.proofs.Common.{◌≡◌, ◌<◌, ◌*◌, ◌∙◌, ℕ, List, [], ◌∷◌, refl, ap, sym, subst, arith, inl, inr, length}
use Rattle.std.specs.Prelude.{◌↔◌, All, replicate}
use Rattle.std.specs.List.{Contains}
use Rattle.std.proofs.lemmas.List.{length-replicate}
use Rattle.std.proofs.lemmas.List.Elements.{All-nil, All-replicate}
use Rattle.std.proofs.lemmas.Option.{slice_get_cases, slice_get_within}
use Rattle.cu_model.specs.declared.roads.Edit.{Edit}
use Rattle.cu_model.specs.declared.roads.Edit.TheVariants.{Set, Assign}
use Rattle.cu_model.specs.Edits.{IsEditInRange}
use Rattle.cu_model.specs.Networks.{IsNetwork, NetworkValue}
use Rattle.cu_model.proofs.RoadLaws.{all_at}
use Rattle.cu_chordal.specs.Edges.{LinksRanks, ListsEdges}
use Rattle.cu_chordal.specs.Graphs.{ChordalValue, IsChordal}
use Rattle.cu_chordal.proofs.Members.{all_from_members, here, member_cases, none_in_nil}
use Rattle.cu_interval.specs.declared.ways.Dir.{Dir}
use Rattle.cu_interval.specs.declared.ways.Entry.{Entry}
use Rattle.cu_interval.specs.Hierarchies.{HierarchyValue, IsHierarchy, IsHierarchyOf, IsWellFormed, end_of, entries_or_none, list_number, list_of, start_of}
use Rattle.cu_interval.specs.Touching.{IsChanged, NumbersTouched}
use Rattle.cu_interval.specs.WayLists.{IsWayList}
use Rattle.cu_resettled.specs.ResettlingAll.{edited_all}
use Rattle.cu_resettled.proofs.ResettledThere.{edges_all, nodes_all}
use Rattle.cu_resettled.proofs.TouchedBySome.{all_ranks_edited, all_ranks_kept}
use Rattle.cu_edits.specs.EditLists.{AreChanged, over_network}
use Rattle.cu_edits.specs.Steps.Found.{IsOfSome}
use Rattle.cu_edits.specs.Steps.Spreading.{IsOfChanged}
use Rattle.cu_edits.proofs.EditedLists.{arcs_all}

-- the graph of a hierarchy with another network and empty lists
abbrev pub bare : HierarchyValue → NetworkValue → HierarchyValue
bare h g = record h {
  network = g;
  lists = replicate (2 * length h.edges) [];
}

empty_list : IsWayList []
empty_list = record { begins = tt; within = All-nil (λ (e : Entry). _); turns = λ k d lt. absurd (omega (arith, lt)) }

no_list : (h : HierarchyValue) (g : NetworkValue) (edge : ℕ) (dir : Dir) → list_of (bare h g) edge dir ≡ []
no_list h g edge dir =
    let none : List (List Entry) = replicate (2 * length h.edges) [] in
    elim (slice_get_cases none (list_number edge dir)).1 [
      | inl (list, inside, at, same) ↦
          ap entries_or_none at ∙ all_at (λ (es : List Entry). es ≡ []) none (list_number edge dir) list (All-replicate (λ (es : List Entry). es ≡ []) (2 * length h.edges) [] refl) at
      | inr past ↦ ap entries_or_none past.1
    ]

-- it is a hierarchy where the network is the edited one
module _ (h : HierarchyValue) (edits : List Edit) (g : NetworkValue) (is : g ≡ edited_all h.network edits) where
  pub bare_sound : IsHierarchy h → IsNetwork g → IsHierarchy (bare h g)
  bare_sound sound network =
      let nodes : h.network.nodes ≡ g.nodes = sym (ap (λ (n : NetworkValue). n.nodes) is ∙ nodes_all h.network edits) in
      record {
        network = network;
        order = sound.order;
        same = sound.same ∙ nodes;
        graph = subst (λ (n : ℕ). IsChordal (record { ranks = n; edges = h.edges })) nodes sound.graph;
        edges = subst (λ (n : NetworkValue). ListsEdges n h.order h.edges) (sym is) (edges_all h.network h.order edits h.edges sound.edges);
        lists = length-replicate (2 * length h.edges) [];
        spelled = All-replicate IsWayList (2 * length h.edges) [] empty_list;
        formed = λ edge dir ends at.
            let Formed = λ (entries : List Entry). All (λ (entry : Entry). IsWellFormed (bare h g) (start_of ends dir) (end_of ends dir) entry.way) entries in
            subst Formed (sym (no_list h g edge dir)) (All-nil (λ (entry : Entry). IsWellFormed (bare h g) (start_of ends dir) (end_of ends dir) entry.way));
      }

  pub bare_of : (graph : ChordalValue) → IsHierarchyOf graph h → IsNetwork g → IsHierarchyOf graph (bare h g)
  bare_of graph (same, sound) network =
      let nodes : h.network.nodes ≡ g.nodes = sym (ap (λ (n : NetworkValue). n.nodes) is ∙ nodes_all h.network edits) in
      (same ∙ ap (λ (n : ℕ). record { ranks = n; edges = h.edges }) nodes, bare_sound sound network)

  -- the edges of these roads are those of the changed ones
  pub some_changed : (edit : Edit) (arcs : List ℕ) → AreChanged g edit arcs → (e : ℕ) → IsOfSome h arcs e ↔ IsOfChanged (bare h g) edit e
  some_changed edit arcs changed e = (
    (λ a.
        let (arc, among, (x, y, links, at)) = a in
        (arc, (changed arc).0 among, (x, y, subst (λ (n : NetworkValue). LinksRanks n h.order arc x y) (sym is) (all_ranks_edited h.network h.order edits arc x y links), at))),
    λ a.
        let (arc, own, (x, y, links, at)) = a in
        (arc, (changed arc).1 own, (x, y, all_ranks_kept h.network h.order edits arc x y (subst (λ (n : NetworkValue). LinksRanks n h.order arc x y) is links), at)),
  )

-- what it touches is what it touches over the network
pub over_bare : (h : HierarchyValue) (g : NetworkValue) (edit : Edit) (edges : List ℕ) → NumbersTouched (bare h g) edit edges → NumbersTouched (over_network h g) edit edges
over_bare h g edit edges touched = record { rising = touched.rising; exact = touched.exact }

-- the roads that an edit changes are in range
pub changed_within : (g : NetworkValue) (edit : Edit) (arcs : List ℕ) → IsEditInRange g edit → AreChanged g edit arcs → All (λ arc. arc < length g.arcs) arcs
changed_within g edit arcs range changed = all_from_members (λ arc. arc < length g.arcs) arcs (λ arc c. within g edit range arc ((changed arc).0 c))
  where
    within : (g : NetworkValue) (edit : Edit) → IsEditInRange g edit → (arc : ℕ) → IsChanged g edit arc → arc < length g.arcs
    within g (Set profile pieces) range arc (road, at, is) = slice_get_within g.arcs arc road at
    within g (Assign own profile) range arc is = subst (λ (a : ℕ). a < length g.arcs) (sym is) range.0

pub changed_arcs_within : (h : HierarchyValue) (edits : List Edit) (g : NetworkValue) → g ≡ edited_all h.network edits → (edit : Edit) (arcs : List ℕ) → IsEditInRange g edit
    → AreChanged g edit arcs → All (λ arc. arc < length h.network.arcs) arcs
changed_arcs_within h edits g is edit arcs range changed =
    subst (λ (n : ℕ). All (λ arc. arc < n) arcs) (ap (λ (k : NetworkValue). length k.arcs) is ∙ arcs_all h.network edits) (changed_within g edit arcs range changed)

-- one road alone
pub only_one : (g : NetworkValue) (edit : Edit) (arc profile : ℕ) (arcs : List ℕ) → edit ≡ Assign arc profile → arcs ≡ arc ∷ [] → AreChanged g edit arcs
only_one g edit arc profile arcs is one =
    subst (λ (e : Edit). AreChanged g e arcs) (sym is) (subst (AreChanged g (Assign arc profile)) (sym one) (λ k. (
      (λ c. elim (member_cases arc [] k c) [ inl same ↦ sym same | inr past ↦ absurd (none_in_nil k past) ]),
      λ same. subst (Contains (arc ∷ [])) (sym same) (here arc []),
    )))
