-- A walk by a middle is that of the first half and then that of the second, so travels and roads add.
use Rattle.std.proofs.Common.{◌≡◌, ◌≢◌, ◌≤◌, ◌<◌, ◌+◌, ◌%◌, ◌∙◌, ℕ, List, [], ◌∷◌, ◌++◌, Some, sym, ap, subst, arith, length, length-append, min}
use Rattle.cu_model.specs.Days.{day}
use Rattle.cu_model.specs.Roads.{arc_value, drive}
use Rattle.cu_model.proofs.RoadLaws.{drive-append}
use Rattle.cu_interval.specs.declared.ways.Way.TheVariants.{Road, Via}
use Rattle.cu_interval.specs.Hierarchies.{HierarchyValue, IsHierarchy, way_from}
use Rattle.cu_interval.specs.Unpacking.{unpacked, unpacked_walk, unpacked_way}
use Rattle.cu_interval.proofs.Fuel.{unpacked-via}
use Rattle.cu_interval.proofs.Lookups.{middles_fall}
use Rattle.cu_recall.specs.declared.spans.Driven.{Driven}
use Rattle.cu_recall.specs.Spans.{WalkTakes}
use Rattle.cu_recall.specs.Windows.{IsDriven, IsNear, IsWindow}
use Rattle.cu_recall.proofs.DayWalks.{takes_on}
use Rattle.cu_recall.proofs.ListEnds.{way_some}

module _ (h : HierarchyValue) (f : IsHierarchy h) where
  -- the walk by a middle, whose second half leaves when the first arrives
  pub joined_walk : (u m v t first_travel first_roads travel roads : ℕ) → way_from h u v t ≡ Some (Via m)
      → WalkTakes h u m t first_travel first_roads → WalkTakes h m v (t + first_travel) travel roads
      → WalkTakes h u v t (first_travel + travel) (first_roads + roads)
  joined_walk u m v t first_travel first_roads travel roads way (some, long, arrives) (other, more, ends) =
      let g = h.network in
      let first = unpacked_walk h u m t in
      let second = unpacked_walk h m v (t + first_travel) in
      let whole : unpacked_walk h u v t ≡ first ++ second =
      unpacked-via h (middles_fall h f) u v t m way ∙ ap (λ (s : ℕ). first ++ unpacked_walk h m v s) arrives in
      let split : length (first ++ second) ≡ length first + length second = length-append first second in
      let sum : length (unpacked_walk h u v t) ≡ length (first ++ second) = ap length whole in
      let driven : drive g (unpacked_walk h u v t) t ≡ drive g second (t + first_travel) =
      ap (λ (w : List ℕ). drive g w t) whole ∙ drive-append g first second t ∙ ap (drive g second) arrives in (
        way_some h u v t (Via m) way,
        omega (arith, sum, split, long, more),
        omega (arith, driven, ends),
      )

  -- a walk of one road
  pub road_walk : (u v t road travel : ℕ) → way_from h u v t ≡ Some (Road road) → arc_value h.network road t ≡ t + travel → WalkTakes h u v t travel 1
  road_walk u v t road travel way arrives =
      let walk : unpacked_walk h u v t ≡ road ∷ [] = ap (unpacked_way h.network (unpacked h (min u v)) u v t) way in
      (way_some h u v t (Road road) way, ap length walk, ap (λ (w : List ℕ). drive h.network w t) walk ∙ arrives)

  -- near a second the same middle is in force, and near those seconds both halves take the same
  pub joined_driven : (u m v second back ahead next : ℕ) (one two : Driven) → m ≢ v
      → ((t : ℕ) → IsNear second back ahead t → way_from h u v t ≡ Some (Via m))
      → IsWindow second back ahead → back ≤ one.back → ahead ≤ one.ahead
      → IsDriven h u m second one → next ≡ (second + one.travel) % day → IsDriven h m v next two
      → (whole : Driven) → whole.back ≤ back → whole.back ≤ two.back → whole.ahead ≤ ahead → whole.ahead ≤ two.ahead → 0 < whole.ahead
      → whole.travel ≡ one.travel + two.travel → whole.roads ≡ one.roads + two.roads
      → IsDriven h u v second whole
  joined_driven u m v second back ahead next one two apart way window less fewer first is then whole b1 b2 a1 a2 some travel roads = record {
    window = let w0 = window.0 in let w2 = window.2 in (omega (arith, b1, w0), some, omega (arith, a1, w2));
    takes = λ t near.
        let low = near.0 in
        let high = near.1 in
        let here = way t (omega (arith, low, b1), omega (arith, high, a1)) in
        let to = first.takes t (omega (arith, low, b1, less), omega (arith, high, a1, fewer)) in
        let t2 = (t + one.travel) % day in
        let inside = then.window.0 in
        let until = then.window.2 in
        let moved : t2 + second ≡ next + t = omega (arith, is, low, high, b2, a2, inside, until) in
        let on_day = then.takes t2 (omega (arith, moved, low, b2), omega (arith, moved, high, a2)) in
        let on = takes_on h f m v (t + one.travel) two.travel two.roads apart on_day in
        let both = joined_walk u m v t one.travel one.roads two.travel two.roads here to on in
        subst (λ (n : ℕ). WalkTakes h u v t n whole.roads) (sym travel) (subst (λ (n : ℕ). WalkTakes h u v t (one.travel + two.travel) n) (sym roads) both);
  }
