-- An edit leaves each edge customized that was so before it, and makes those so that it touches.
use Rattle.std.proofs.Common.{◌≡◌, ◌∙◌, ℕ, List, [], ◌∷◌, Bool, true, refl, sym, subst, arith, inl, inr}
use Rattle.std.specs.Prelude.{slice_get, slice_set}
use Rattle.std.specs.List.{Contains}
use Rattle.std.proofs.lemmas.Option.{slice_get_within}
use Rattle.cu_model.specs.declared.roads.Edit.{Edit}
use Rattle.cu_model.proofs.ListLaws.{get_other}
use Rattle.cu_chordal.proofs.Members.{here, there}
use Rattle.cu_chordal.proofs.Decided.{member_decided}
use Rattle.cu_interval.specs.declared.ways.TouchedEdge.{TouchedEdge}
use Rattle.cu_interval.specs.Hierarchies.{HierarchyValue, IsHierarchy, end_of, list_of, start_of}
use Rattle.cu_interval.specs.Resettling.{ArrivesIn, IsCandidateIn, IsResettledList}
use Rattle.cu_edits.specs.Customized.{AreCustomized, IsCustomizedEdge, marked}
use Rattle.cu_edits.specs.Settling.{IsResettledEdge, SettlingValue, list_in, numbers_of}
use Rattle.cu_edits.specs.Steps.Settled.{AreSettled}
use Rattle.cu_edits.proofs.Frames.{runs_alike}
use Rattle.cu_edits.proofs.Replaced.{list_replaced, number_among}
use Rattle.cu_edits.proofs.SettledAll.{edges_differ}
use Rattle.cu_edits.proofs.SettledFrames.{UntouchedPair, leads_touched, untouched_frame, untouched_sides}
use Rattle.cu_edits.proofs.Sides.{halves_good, over}
use Rattle.cu_edits.proofs.StandingChoices.{choices_stand}
use Rattle.cu_resettled.specs.ResettlingAll.{IsResettledAll, IsTouchedEdgeBySome, NumbersTouchedBySome, hierarchy_with_all}

-- the mark of an edge that isn't touched stays
marked_other : (marks : List Bool) (ts : List TouchedEdge) (edge : ℕ) → (Contains (numbers_of ts) edge → ⊥) → slice_get (marked marks ts) edge ≡ slice_get marks edge
marked_other marks [] edge none = refl
marked_other marks (t ∷ ts) edge none =
    marked_other (slice_set marks t.edge true) ts edge (λ c. none (there t.edge (numbers_of ts) edge c))
    ∙ get_other marks t.edge edge true (λ same. none (subst (Contains (numbers_of (t ∷ ts))) same (here t.edge (numbers_of ts))))

module _ (before : HierarchyValue) (edit : List Edit) (ts : List TouchedEdge) (sound : IsHierarchy before)
    (settled : IsResettledAll before edit (hierarchy_with_all before edit ts)) (numbers : NumbersTouchedBySome before edit (numbers_of ts)) where
  abbrev after : HierarchyValue
  after = hierarchy_with_all before edit ts

  abbrev whole : SettlingValue
  whole = record { before = before; edit = edit; settled = ts }

  list_there : (t : TouchedEdge) → Contains ts t → IsResettledEdge after t
  list_there t c dir ends at =
      let touched = (numbers.exact t.edge).0 (number_among ts t c) in
      let inside = slice_get_within before.edges t.edge ends at in
      let long = sound.lists in
      let list : list_of after t.edge dir ≡ list_in t dir = list_replaced before edit ts t dir (edges_differ ts numbers.rising) c (omega (arith, inside, long)) in
      subst (IsResettledList after (start_of ends dir) (end_of ends dir)) list (settled.resettled t.edge dir ends at touched)

  -- all touched edges are settled
  all_settled : AreSettled whole
  all_settled = record {
    sound = sound;
    touched = λ edge c. (numbers.exact edge).0 c;
    sides = λ edge c side low. elim (member_decided (numbers_of ts) side) [
      | inl among ↦ inl among
      | inr off ↦ inr (λ touched. off ((numbers.exact side).1 touched))
    ];
    lists = list_there;
    once = edges_differ ts numbers.rising;
  }

  untouched_stays : (edge : ℕ) → (IsTouchedEdgeBySome before edit edge → ⊥) → IsCustomizedEdge before edge → IsCustomizedEdge after edge
  untouched_stays edge untouched customized dir ends at =
      let u = start_of ends dir in
      let v = end_of ends dir in
      let leads = over before.edges edge dir ends at in
      let alike = choices_stand before edit ts (UntouchedPair before edit) (untouched_frame whole all_settled) u v
      (λ a joins changed. untouched (leads_touched before sound edit edge dir u v a leads joins changed))
      (λ m to on. halves_good before.edges (λ e. IsTouchedEdgeBySome before edit e → ⊥) edge dir u v m leads (untouched_sides whole sound edge untouched) to on) in
      subst (IsResettledList after u v) (sym (settled.kept edge dir untouched))
      (runs_alike (IsCandidateIn before u v) (IsCandidateIn after u v) (ArrivesIn before u v) (ArrivesIn after u v) (list_of before edge dir) alike (customized dir ends at))

  pub edit_keeps : (marks : List Bool) → AreCustomized before marks → AreCustomized after (marked marks ts)
  edit_keeps marks customized edge mark = elim (member_decided (numbers_of ts) edge) [
    | inl among ↦ λ dir ends at. settled.resettled edge dir ends at ((numbers.exact edge).0 among)
    | inr off ↦ untouched_stays edge (λ touched. off ((numbers.exact edge).1 touched)) (customized edge (sym (marked_other marks ts edge off) ∙ mark))
  ]

pub edit_customized : (before : HierarchyValue) (edit : List Edit) (ts : List TouchedEdge) (marks : List Bool) → IsHierarchy before
    → IsResettledAll before edit (hierarchy_with_all before edit ts) → NumbersTouchedBySome before edit (numbers_of ts)
    → AreCustomized before marks → AreCustomized (hierarchy_with_all before edit ts) (marked marks ts)
edit_customized before edit ts marks sound settled numbers customized = edit_keeps before edit ts sound settled numbers marks customized
