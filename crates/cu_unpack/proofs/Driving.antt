-- Driving the next road of what is left, and going on with what waits.
use Rattle.std.proofs.Common.{◌≡◌, ◌≤◌, ◌<◌, ◌+◌, ◌∙◌, ℕ, List, [], ◌∷◌, Option, Some, None, false, refl, sym, ap, subst, arith, length, min}
use Rattle.std.specs.Prelude.{slice_get}
use Rattle.cu_model.specs.Roads.{arc_value, drive, is_closed_arc}
use Rattle.cu_model.proofs.RoadLaws.{arc_value-near, leads_within}
use Rattle.cu_interval.specs.declared.ways.Dir.{Dir}
use Rattle.cu_interval.specs.declared.ways.Dir.TheVariants.{Up}
use Rattle.cu_interval.specs.declared.ways.Way.TheVariants.{Road}
use Rattle.cu_interval.specs.Hierarchies.{HierarchyValue, IsHierarchy, way_from}
use Rattle.cu_interval.specs.Unpacking.{followed, unpacked, unpacked_walk, unpacked_way}
use Rattle.cu_interval.proofs.Lookups.{well_formed}
use Rattle.cu_interval.specs.declared.shortcuts.Leg.{Leg}
use Rattle.cu_unpack.specs.declared.unpacking.Spot.{Spot}
use Rattle.cu_unpack.specs.Steps.Legs.{AreWaiting, DrivesOn, FindsRoad, HasWay, IsAt, IsLeft, IsLegOf, Resumes, walk_on}

-- a road that is found may be driven
pub found_open : (h : HierarchyValue) → IsHierarchy h → (leg : Leg) (legs : List Leg) (t : ℕ) (pending : List ℕ) (before now : ℕ) (spot : Spot) (road : ℕ)
    → FindsRoad h leg legs t pending before now (Some (spot, road)) → (road < length h.network.arcs) × (is_closed_arc h.network road ≡ false)
found_open h f leg legs t pending before now spot road (next, rest, place, has, way, walk, steps, second) =
    let l = well_formed h f next.from next.to t (Road road) way in
    (leads_within h.network road l.0 l.1 l.2, l.2.1)

-- the walk on from a leg whose way is a road
road_walk : (h : HierarchyValue) (next : Leg) (rest : List Leg) (t road : ℕ) → way_from h next.from next.to t ≡ Some (Road road)
    → walk_on h (next ∷ rest) t ≡ road ∷ walk_on h rest (arc_value h.network road t)
road_walk h next rest t road way =
    let walk : unpacked_walk h next.from next.to t ≡ road ∷ [] = ap (unpacked_way h.network (unpacked h (min next.from next.to)) next.from next.to t) way in
    ap (λ (w : List ℕ). followed w (λ first. walk_on h rest (drive h.network first t))) walk

none_waits : (h : HierarchyValue) (pending : List ℕ) (count : ℕ) (legs : List Leg) → AreWaiting h pending count legs → count ≡ 0 → legs ≡ []
none_waits h pending count [] none zero = refl
none_waits h pending count (leg ∷ legs) (below, edge, is, at, of, room, way, rest) zero = absurd (omega (arith, is, zero))

same_number : (xs : List ℕ) (i j a b : ℕ) → i ≡ j → slice_get xs i ≡ Some a → slice_get xs j ≡ Some b → a ≡ b
same_number xs i j a b same p q = cc (same, p, q)

-- the last that waits is next
pub resumed : (h : HierarchyValue) (pending : List ℕ) (count arrival : ℕ) (legs : List Leg) (spot : Spot) → AreWaiting h pending count legs → Resumes pending count arrival (Some spot)
    → (next : Leg) × (rest : List Leg) × (legs ≡ next ∷ rest) × IsAt h pending spot next rest × HasWay h next
resumed h pending count arrival [] spot none (one, at, up, second) = absurd (omega (arith, none, one))
resumed h pending count arrival (leg ∷ legs) spot (below, edge, is, at, of, room, way, more) (one, there, up, second) =
    let same : below ≡ spot.waiting = omega (arith, is, one) in
    let edges : edge ≡ spot.edge = same_number pending below spot.waiting edge spot.edge same at there in
    let here : IsLegOf h spot.edge spot.dir leg = subst (λ (d : Dir). IsLegOf h spot.edge d leg) (sym up) (subst (λ (e : ℕ). IsLegOf h e Up leg) edges of) in
    (leg, legs, refl, record { here = here; room = omega (arith, room, same); waiting = subst (λ (n : ℕ). AreWaiting h pending n legs) same more }, way)

left_by : (h : HierarchyValue) (legs rest : List Leg) (pending : List ℕ) (count arrival before now : ℕ) (o : Option Spot)
    → AreWaiting h pending count rest → Resumes pending count arrival o → now + length legs ≡ before + length rest + 1
    → IsLeft h legs pending arrival (walk_on h rest arrival) before now o
left_by h legs rest pending count arrival before now None waiting zero steps =
    let empty = none_waits h pending count rest waiting zero in
    let none : length rest ≡ 0 = ap length empty in
    (ap (λ (xs : List Leg). walk_on h xs arrival) empty, omega (arith, steps, none))
left_by h legs rest pending count arrival before now (Some spot) waiting resumes steps =
    let (next, more, same, place, way) = resumed h pending count arrival rest spot waiting resumes in
    let one : length rest ≡ length more + 1 = ap length same ∙ omega arith in
    (next, more, place, way, resumes.3, ap (λ (xs : List Leg). walk_on h xs arrival) same, omega (arith, steps, one))

-- one more road is driven
pub driven : (h : HierarchyValue) → IsHierarchy h → (leg : Leg) (legs : List Leg) (t : ℕ) (pending : List ℕ) (before now : ℕ) (spot : Spot) (road arrival : ℕ) (rest : Option Spot)
    → FindsRoad h leg legs t pending before now (Some (spot, road)) → arrival ≡ arc_value h.network road t → t ≤ arrival → Resumes pending spot.waiting arrival rest
    → DrivesOn h leg legs t pending before now (Some (record { road = road; arrival = arrival; rest = rest }))
driven h f leg legs t pending before now spot road arrival rest found value onward resumes =
    let open_ = found_open h f leg legs t pending before now spot road found in
    let (next, more, place, has, way, walk, steps, second) = found in
    let near = arc_value-near h.network f.network road open_.0 t in
    let whole : walk_on h (leg ∷ legs) t ≡ road ∷ walk_on h more arrival = sym walk ∙ road_walk h next more t road way ∙ ap (λ (s : ℕ). road ∷ walk_on h more s) (sym value) in
    (walk_on h more arrival, has, whole, value, onward, omega (arith, near, value), left_by h legs more pending spot.waiting arrival before now rest place.waiting resumes steps)
