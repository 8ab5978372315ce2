-- The texts of calls that follow one another are the text of all their roads.
use Rattle.std.proofs.Common.{◌≡◌, ◌≢◌, ◌∙◌, ℕ, suc, Bool, false, List, [], ◌∷◌, ◌++◌, Option, refl, sym, ap, arith}
use Rattle.cu_model.specs.Roads.{drive}
use Rattle.cu_model.proofs.ListLaws.{item_there}
use Rattle.cu_chordal.specs.declared.graph.Ends.{Ends}
use Rattle.cu_interval.specs.declared.ways.Entry.{Entry}
use Rattle.cu_interval.specs.declared.relaxing.Call.{Call}
use Rattle.cu_interval.specs.declared.relaxing.Relaxed.TheVariants.{At}
use Rattle.cu_interval.specs.Hierarchies.{HierarchyValue, IsHierarchy, end_of, list_from, start_of}
use Rattle.cu_interval.specs.Low.{IsLowWalk}
use Rattle.cu_interval.specs.Unpacking.{answer_by, relaxed_ends, relaxed_from, unpacked_walk}
use Rattle.cu_interval.proofs.Unpacked.{unpacked-low}
use Rattle.cu_interval.proofs.EndsLaws.{ends_apart, ends_range}
use Rattle.cu_drive.specs.RoadTexts.{driven_text, first_after}
use Rattle.cu_drive.proofs.DrivenTexts.{driven_text-append}
use Rattle.cu_unpack.specs.Answers.{walk_between, walk_over}
use Rattle.cu_sweep.specs.Desks.{AreArriving, AreChained, IsArrivingCall, call_text, roads_of, routed_text}

list_there : (h : HierarchyValue) (entries : List Entry) (walk : List ℕ) (t arrival : ℕ) → answer_by h entries walk t ≡ At arrival → entries ≢ []
list_there h [] walk t arrival e none = absurd (cc e)
list_there h (entry ∷ entries) walk t arrival e none = absurd (cc none)

road_there : (h : HierarchyValue) (u : ℕ) (walk : List ℕ) (v : ℕ) → IsLowWalk h.network h.order u walk v → walk ≢ []
road_there h u [] v low none = low.1
road_there h u (road ∷ walk) v low none = absurd (cc none)

-- the walk of a call that arrives has a road
arriving_road : (h : HierarchyValue) → IsHierarchy h → (call : Call) → IsArrivingCall h call → walk_over h call.edge call.dir call.second ≢ []
arriving_road h f call c none =
    let (ends, at) = item_there h.edges call.edge c.edge in
    let u = start_of ends call.dir in
    let v = end_of ends call.dir in
    let (arrival, answer) = c.answers in
    let from : relaxed_from h u v call.second ≡ At arrival = sym (ap (λ (o : Option Ends). relaxed_ends h o call.dir call.second) at) ∙ answer in
    let some = list_there h (list_from h u v) (unpacked_walk h u v call.second) call.second arrival from in
    let low = unpacked-low h f u v call.second (ends_apart ends call.dir (ends_range h f call.edge ends at).0) some in
    road_there h u (unpacked_walk h u v call.second) v low (sym (ap (λ (o : Option Ends). walk_between h o call.dir call.second) at) ∙ none)

after_road : (first : Bool) (walk : List ℕ) → walk ≢ [] → first_after first walk ≡ false
after_road first [] some = absurd (some refl)
after_road first (road ∷ walk) some = refl

arriving_first : (h : HierarchyValue) (call : Call) (calls : List Call) → AreArriving h (call ∷ calls) → IsArrivingCall h call
arriving_first h call calls all = all 0 call (omega arith)

arriving_rest : (h : HierarchyValue) (call : Call) (calls : List Call) → AreArriving h (call ∷ calls) → AreArriving h calls
arriving_rest h call calls all = λ k d lt. all (suc k) d (omega (arith, lt))

module _ (h : HierarchyValue) (f : IsHierarchy h) (text : Bool → ℕ → ℕ → List ℕ) where
  -- calls that are chained, each with the text of its drive, are the drive of all their roads
  pub routed_drive : (first : Bool) (calls : List Call) (t : ℕ) → AreArriving h calls → AreChained h t calls
      → routed_text (call_text text h) first calls
      ≡ driven_text text h.network first (roads_of h calls) t
  routed_drive first [] t all chained = refl
  routed_drive first (call ∷ calls) t all (same, more) =
      let g = h.network in
      let walk = walk_over h call.edge call.dir call.second in
      let here = drive g walk t in
      let behind = driven_text text g (first_after first walk) (roads_of h calls) here in
      let rest = routed_drive false calls here (arriving_rest h call calls all) more in
      let after = after_road first walk (arriving_road h f call (arriving_first h call calls all)) in
      ap (λ (w : List ℕ). driven_text text g first walk call.second ++ w) (rest ∙ sym (ap (λ (b : Bool). driven_text text g b (roads_of h calls) here) after))
      ∙ ap (λ (s : ℕ). driven_text text g first walk s ++ behind) same
      ∙ sym (driven_text-append text g first walk (roads_of h calls) t)
