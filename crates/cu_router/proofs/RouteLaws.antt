-- What a query's sweeps find is the swept reply to the query, however an arrival and its walk are said.
use Rattle.std.proofs.Common.{◌≡◌, ◌∙◌, ℕ, List, Option, Some, None, refl, sym, ap, subst}
use Rattle.std.specs.Prelude.{slice_get}
use Rattle.cu_model.specs.declared.queries.Query.{Query}
use Rattle.cu_interval.specs.declared.relaxing.Call.{Call}
use Rattle.cu_interval.specs.Hierarchies.{HierarchyValue, IsHierarchy}
use Rattle.cu_sweep.specs.declared.finding.Found.{Found}
use Rattle.cu_sweep.specs.declared.finding.Found.TheVariants.{Arrive, NoWalk, Long}
use Rattle.cu_sweep.specs.Desks.{AreArriving, AreChained, DeskValue, HoldsFound, roads_of}
use Rattle.cu_sweep.specs.Labels.{Label, down_label}
use Rattle.cu_sweep.specs.Sweeps.{found}
use Rattle.cu_sweep.proofs.RealLabels.{down_label-leads}
use Rattle.cu_router.specs.Swept.{found_text, label_roads, swept_as, swept_between, swept_of}

module _ (says : ℕ → List ℕ → List ℕ) (h : HierarchyValue) where
  -- the swept reply by what was found
  pub found_is : (from to second : ℕ) (is : Found) → is ≡ found h from to second → found_text says h is (down_label h from second to) ≡ swept_between says h from to second
  found_is from to second is same = ap (λ (f : Found). found_text says h f (down_label h from second to)) same

  -- where a walk was found it tells the roads of the desk's calls
  pub arrive_is : (from to second arrival : ℕ) (desk : DeskValue) → Arrive arrival ≡ found h from to second → HoldsFound h from to second (Arrive arrival) desk
      → says arrival (roads_of h desk.calls) ≡ swept_between says h from to second
  arrive_is from to second arrival desk same (label, there, calls, arriving, unturned) =
      ap (λ (cs : List Call). says arrival (roads_of h cs)) calls ∙ sym (ap (λ (l : Option Label). says arrival (label_roads h l)) there)
      ∙ found_is from to second (Arrive arrival) same

  -- that between the ranks of its nodes is the one of a query
  pub swept_is : (query : Query) (from to : ℕ) → slice_get h.order.rank_of query.from ≡ Some from → slice_get h.order.rank_of query.to ≡ Some to
      → swept_between says h from to query.second ≡ swept_as says h query
  swept_is query from to start stop = sym (rw (start, stop) refl)

-- where a walk was found the calls arrive, and are chained
pub found_chained : (h : HierarchyValue) → IsHierarchy h → (from to second arrival : ℕ) (desk : DeskValue) → HoldsFound h from to second (Arrive arrival) desk
    → AreArriving h desk.calls × AreChained h second desk.calls
found_chained h sound from to second arrival desk (label, there, calls, arriving, unturned) = (
  subst (AreArriving h) (sym calls) arriving,
  subst (AreChained h second) (sym calls) (down_label-leads h sound from second to label there).2,
)

-- replies are the same where each arrival is said in the same way
module _ (says other : ℕ → List ℕ → List ℕ) (same : (arrival : ℕ) (walk : List ℕ) → says arrival walk ≡ other arrival walk) (h : HierarchyValue) where
  found_alike : (is : Found) (label : Option Label) → found_text says h is label ≡ found_text other h is label
  found_alike (Arrive arrival) label = same arrival (label_roads h label)
  found_alike NoWalk label = refl
  found_alike (Long edge dir second) label = refl

  of_alike : (from to : Option ℕ) (second : ℕ) → swept_of says h from to second ≡ swept_of other h from to second
  of_alike None to second = refl
  of_alike (Some from) None second = refl
  of_alike (Some from) (Some to) second = found_alike (found h from to second) (down_label h from second to)

  pub swept_alike : (query : Query) → swept_as says h query ≡ swept_as other h query
  swept_alike query = of_alike (slice_get h.order.rank_of query.from) (slice_get h.order.rank_of query.to) query.second
