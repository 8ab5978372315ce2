-- Ways that an edit leaves as they are: their road isn't changed, or their halves stand. They are candidates as before, and arrive as before.
use Rattle.std.proofs.Common.{◌≡◌, ◌≢◌, ◌∙◌, ℕ, List, [], ◌∷◌, Some, ap, sym, subst}
use Rattle.cu_model.specs.declared.roads.Edit.{Edit}
use Rattle.cu_model.specs.Roads.{drive}
use Rattle.cu_chordal.specs.Edges.{LinksRanks}
use Rattle.cu_chordal.specs.Graphs.{HasEdge}
use Rattle.cu_interval.specs.declared.ways.Way.{Way}
use Rattle.cu_interval.specs.declared.ways.Way.TheVariants.{Road, Via}
use Rattle.cu_interval.specs.declared.ways.Entry.{Entry}
use Rattle.cu_interval.specs.declared.ways.TouchedEdge.{TouchedEdge}
use Rattle.cu_interval.specs.Hierarchies.{HierarchyValue}
use Rattle.cu_interval.specs.Resettling.{ArrivesIn, IsCandidateIn}
use Rattle.cu_edits.specs.Steps.Frames.{IsFrame}
use Rattle.cu_edits.proofs.Frames.{ChoosesAlike, via_same}
use Rattle.cu_edits.proofs.Sides.{edge_down, edge_up}
use Rattle.cu_resettled.proofs.Unchanged.{joins_leads, leads_joins}
use Rattle.cu_resettled.specs.ResettlingAll.{IsChangedBySome, hierarchy_with_all}
use Rattle.cu_resettled.proofs.TouchedBySome.{all_alike, all_leads_still, all_ranks_kept}

module _ (before : HierarchyValue) (edit : List Edit) (ts : List TouchedEdge) (Pair : ℕ → ℕ → Type 0) (frame : IsFrame before (hierarchy_with_all before edit ts) Pair) (u v : ℕ) where
  abbrev pub after : HierarchyValue
  after = hierarchy_with_all before edit ts

  -- a way as it was
  abbrev pub StandsWay : Way → Type 0
  StandsWay (Road a) = LinksRanks before.network before.order a u v → IsChangedBySome before.network edit a → ⊥
  StandsWay (Via m) = HasEdge before.edges m u → HasEdge before.edges m v → Pair u m × Pair m v

  -- it is a candidate as before
  pub way_there : (way : Way) → StandsWay way → IsCandidateIn before u v way → IsCandidateIn after u v way
  way_there (Road a) stands c = all_leads_still before.network before.order edit a u v (stands (leads_joins before.network before.order a u v c).0) c
  way_there (Via m) stands (to, on, first, second) =
      let pairs = stands (edge_down before u m to first) (edge_up before m v on second) in
      (to, on, subst (λ (es : List Entry). es ≢ []) (frame.lists u m pairs.0) first, subst (λ (es : List Entry). es ≢ []) (frame.lists m v pairs.1) second)

  pub way_back : (way : Way) → StandsWay way → IsCandidateIn after u v way → IsCandidateIn before u v way
  way_back (Road a) stands c =
      let (joined, open_now) = leads_joins after.network before.order a u v c in
      let joins = all_ranks_kept before.network before.order edit a u v joined in
      joins_leads before.network before.order a u v joins (sym (all_alike before.network edit a (stands joins)).closed ∙ open_now)
  way_back (Via m) stands (to, on, first, second) =
      let pairs = stands (edge_down after u m to first) (edge_up after m v on second) in
      (to, on, subst (λ (es : List Entry). es ≢ []) (sym (frame.lists u m pairs.0)) first, subst (λ (es : List Entry). es ≢ []) (sym (frame.lists m v pairs.1)) second)

  road_drives : (a t : ℕ) → StandsWay (Road a) → IsCandidateIn before u v (Road a) → drive after.network (a ∷ []) t ≡ drive before.network (a ∷ []) t
  road_drives a t stands c = (all_alike before.network edit a (stands (leads_joins before.network before.order a u v c).0)).value t

  -- and arrives as before
  pub way_arrives : (t : ℕ) (way : Way) (x : ℕ) → StandsWay way → IsCandidateIn before u v way → ArrivesIn before u v t way x → ArrivesIn after u v t way x
  way_arrives t (Road a) x stands c e = ap Some (road_drives a t stands c) ∙ e
  way_arrives t (Via m) x stands (to, on, first, second) e =
      let pairs = stands (edge_down before u m to first) (edge_up before m v on second) in
      sym (via_same before after Pair frame u v m t pairs.0 pairs.1) ∙ e

  pub way_arrived : (t : ℕ) (way : Way) (x : ℕ) → StandsWay way → IsCandidateIn before u v way → ArrivesIn after u v t way x → ArrivesIn before u v t way x
  way_arrived t (Road a) x stands c e = ap Some (sym (road_drives a t stands c)) ∙ e
  way_arrived t (Via m) x stands (to, on, first, second) e =
      let pairs = stands (edge_down before u m to first) (edge_up before m v on second) in
      via_same before after Pair frame u v m t pairs.0 pairs.1 ∙ e

  -- so where no road is changed, and all halves stand, the choices are as before
  pub choices_stand : ((a : ℕ) → LinksRanks before.network before.order a u v → IsChangedBySome before.network edit a → ⊥)
      → ((m : ℕ) → HasEdge before.edges m u → HasEdge before.edges m v → Pair u m × Pair m v)
      → ChoosesAlike (IsCandidateIn before u v) (IsCandidateIn after u v) (ArrivesIn before u v) (ArrivesIn after u v)
  choices_stand unchanged halves = record {
    there = λ way. way_there way (stands way);
    back = λ way. way_back way (stands way);
    arrives = λ t way x. way_arrives t way x (stands way);
    arrived = λ t way x. way_arrived t way x (stands way);
  }
    where
      stands : (way : Way) → StandsWay way
      stands (Road a) = unchanged a
      stands (Via m) = halves m
