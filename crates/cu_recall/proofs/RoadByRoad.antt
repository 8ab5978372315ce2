-- Walks that are written road by road: parting the list that is next, and going on behind a road.
use Rattle.std.proofs.Common.{◌≡◌, ◌≤◌, ◌<◌, ◌+◌, ◌*◌, ◌/◌, ◌%◌, ◌∙◌, ◌↔◌, ℕ, List, [], ◌∷◌, ◌++◌, Option, Some, None, refl, sym, ap, subst, arith, length, min, append_assoc}
use Rattle.std.specs.Borrow.{Bor}
use Rattle.std.specs.Prelude.{All, IfSome, IsSome, slice_get, slice_set}
use Rattle.std.proofs.lemmas.List.Elements.{All-cons}
use Rattle.std.proofs.lemmas.Nat.{div-add-mod'}
use Rattle.cu_model.specs.Days.{day}
use Rattle.cu_model.specs.Roads.{Leads, drive}
use Rattle.cu_model.proofs.ListLaws.{get_here, get_other}
use Rattle.cu_model.proofs.RoadLaws.{arc_value-near, drive-append, leads_within}
use Rattle.cu_interval.specs.Low.{IsLowWalk, WalkBelow}
use Rattle.cu_interval.specs.declared.shortcuts.Leg.{Leg}
use Rattle.cu_interval.specs.declared.ways.Way.TheVariants as way
use Rattle.cu_interval.specs.declared.ways.Dir.{Dir}
use Rattle.cu_interval.specs.Hierarchies.{HierarchyValue, IsHierarchy, end_of, list_number, start_of, way_from}
use Rattle.cu_chordal.specs.declared.graph.Ends.{Ends}
use Rattle.cu_interval.specs.Unpacking.{followed, unpacked, unpacked_walk, unpacked_way}
use Rattle.cu_interval.proofs.Days.{below-days, leads-days}
use Rattle.cu_interval.proofs.Near.{below-near}
use Rattle.cu_interval.proofs.Unpacked.{unpacked-low}
use Rattle.cu_interval.proofs.Walks.{low_some}
use Rattle.cu_interval.proofs.Fuel.{unpacked-via}
use Rattle.cu_interval.proofs.Lookups.{middles_fall, well_formed}
use Rattle.cu_unpack.specs.Steps.Legs.{walk_on}
use Rattle.cu_recall.specs.declared.kept.Kept.{Kept}
use Rattle.cu_recall.specs.declared.kept.Kept.TheVariants as kept
use Rattle.cu_recall.specs.declared.pending.Asked.{Asked}
use Rattle.cu_recall.specs.declared.spans.Driven.{Driven}
use Rattle.cu_recall.specs.declared.spans.Met.{Met}
use Rattle.cu_recall.specs.declared.spans.Parts.{Parts}
use Rattle.cu_recall.specs.declared.spans.Parts.TheVariants as part
use Rattle.cu_recall.specs.declared.spans.Row.{Row}
use Rattle.cu_recall.specs.declared.walking.Glance.{Glance}
use Rattle.cu_recall.specs.declared.walking.WalkPart.TheVariants as walked
use Rattle.cu_recall.specs.declared.walking.WalkSpot.{WalkSpot}
use Rattle.cu_recall.specs.Spans.{HasMoment, HoldsMet, HoldsParts, IsListFrom, Knows, WalkTakes, dir_of, low_of_list, met_of}
use Rattle.cu_recall.specs.Windows.{HoldsDriven}
use Rattle.cu_recall.specs.Steps.Looks.{IsAsked, IsMetAt}
use Rattle.cu_recall.specs.Steps.Walks.{AreWaiting, DrivesPart, FindsPart, HoldsGlance, HoldsTravel, IsAt, IsNext, IsOpenRoad, IsSomewhere, TakesEachDay, Waits, next_asked}
use Rattle.cu_interval.proofs.DayWalks.{drive_days, walk_days}
use Rattle.cu_sequences.specs.Kept.{AreSequences, SequencesValue}
use Rattle.cu_sequences.specs.Sequences.{IsSequence}
use Rattle.cu_recall.proofs.ListEnds.{list_apart, list_inside, list_low, number_back}

-- the entry that was read is the list's, where it has the second
pub met_read : (h : HierarchyValue) (asked : Asked) (kept : Kept) → HoldsMet h asked.list (met_of kept) → (found : Option Met)
    → (IsSome found ↔ HasMoment (met_of kept) asked.second) → IfSome found (λ (met : Met). met ≡ met_of kept) → IfSome found (λ (met : Met). IsMetAt h asked met)
met_read h asked kept holds None there same = same
met_read h asked kept holds (Some met) there same =
    let back = sym same in
    let moment = subst (λ (m : Met). HasMoment m asked.second) back (there.0 refl) in
    (subst (HoldsMet h asked.list) back holds, moment.0, moment.1)

-- what waits is the same where more is written above it
pub waiting_kept : (h : HierarchyValue) (waiting : List Glance) (i : ℕ) (x : Glance) (count : ℕ) (legs : List Leg) → count ≤ i → AreWaiting h waiting count legs
    → AreWaiting h (slice_set waiting i x) count legs
waiting_kept h waiting i x count [] le none = none
waiting_kept h waiting i x count (leg ∷ legs) le (below, glance, is, at, holds, list, room, some, rest) =
    (below, glance, is, get_other waiting i below x (λ same. omega (arith, is, le, same)) ∙ at, holds, list, room, some, waiting_kept h waiting i x below legs (omega (arith, is, le)) rest)

-- there are fewer than nodes
pub waiting_few : (h : HierarchyValue) (waiting : List Glance) (count : ℕ) (legs : List Leg) → AreWaiting h waiting count legs → count ≤ h.network.nodes
waiting_few h waiting count [] none = omega (arith, none)
waiting_few h waiting count (leg ∷ legs) (below, glance, is, at, holds, list, room, some, rest) = omega (arith, is, room)

pub none_waits : (h : HierarchyValue) (waiting : List Glance) (count : ℕ) (legs : List Leg) → AreWaiting h waiting count legs → count ≡ 0 → legs ≡ []
none_waits h waiting count [] none zero = refl
none_waits h waiting count (leg ∷ legs) (below, glance, is, at, holds, list, room, some, rest) zero = absurd (omega (arith, is, zero))

-- the legs went down so far: their walk is the same
pub record WentDown (h : HierarchyValue) (leg : Leg) (legs : List Leg) (t : ℕ) (waiting : List Glance) (spot : WalkSpot) : Type 0 where
  pub next : Leg
  pub rest : List Leg
  pub place : IsAt h waiting spot next rest
  pub walk : walk_on h (next ∷ rest) t ≡ walk_on h (leg ∷ legs) t

pub asked_at : (h : HierarchyValue) (waiting : List Glance) (spot : WalkSpot) (leg : Leg) (legs : List Leg) → IsAt h waiting spot leg legs → IsAsked h (next_asked spot)
asked_at h waiting spot leg legs is = (leg.from, leg.to, is.list, is.some, is.early)

pub spot_room : (h : HierarchyValue) (waiting : List Glance) (spot : WalkSpot) (leg : Leg) (legs : List Leg) → IsAt h waiting spot leg legs → spot.waiting + 2 ≤ h.network.nodes
spot_room h waiting spot leg legs is = let room = is.room in omega (arith, room)

module _ (h : HierarchyValue) (f : IsHierarchy h) where
  -- the walk over legs that wait repeats by whole days
  legs_later : (k : ℕ) (waiting : List Glance) (count : ℕ) (legs : List Leg) (t : ℕ) → AreWaiting h waiting count legs → walk_on h legs (k * day + t) ≡ walk_on h legs t
  legs_later k waiting count [] t none = refl
  legs_later k waiting count (leg ∷ legs) t (below, glance, is, at, holds, list, room, some, rest) =
      let g = h.network in
      let walk = unpacked_walk h leg.from leg.to t in
      let apart = list_apart h f glance.list leg.from leg.to list in
      ap (λ (w : List ℕ). followed w (λ first. walk_on h legs (drive g first (k * day + t)))) (walk_days h f leg.from leg.to k t)
      ∙ ap (λ (n : ℕ). walk ++ walk_on h legs n) (drive_days h f leg.from leg.to k t t apart some)
      ∙ ap (λ (w : List ℕ). walk ++ w) (legs_later k waiting below legs (drive g walk t) rest)

  pub legs_days : (waiting : List Glance) (count : ℕ) (legs : List Leg) (t : ℕ) → AreWaiting h waiting count legs → walk_on h legs t ≡ walk_on h legs (t % day)
  legs_days waiting count legs t are = ap (walk_on h legs) (sym (div-add-mod' t day)) ∙ legs_later (t / day) waiting count legs (t % day) are

  -- the walk on from a leg whose way is a road
  road_walk : (leg : Leg) (legs : List Leg) (t road travel roads : ℕ) → way_from h leg.from leg.to t ≡ Some (way.Road road) → WalkTakes h leg.from leg.to t travel roads
      → (walk_on h (leg ∷ legs) t ≡ road ∷ walk_on h legs (t + travel)) × (roads ≡ 1)
  road_walk leg legs t road travel roads taken (some, long, arrives) =
      let walk : unpacked_walk h leg.from leg.to t ≡ road ∷ [] = ap (unpacked_way h.network (unpacked h (min leg.from leg.to)) leg.from leg.to t) taken in (
        ap (λ (n : ℕ). unpacked_walk h leg.from leg.to t ++ walk_on h legs n) arrives ∙ ap (λ (w : List ℕ). w ++ walk_on h legs (t + travel)) walk,
        sym long ∙ ap length walk,
      )

  -- the walk of a middle is that over both halves
  halves_walk : (leg : Leg) (legs : List Leg) (t m : ℕ) → way_from h leg.from leg.to t ≡ Some (way.Via m)
      → walk_on h (leg ∷ legs) t ≡ walk_on h (record { from = leg.from; to = m } ∷ record { from = m; to = leg.to } ∷ legs) t
  halves_walk leg legs t m e =
      let g = h.network in
      let first = unpacked_walk h leg.from m t in
      let second = unpacked_walk h m leg.to (drive g first t) in
      let via : unpacked_walk h leg.from leg.to t ≡ first ++ second = unpacked-via h (middles_fall h f) leg.from leg.to t m e in
      ap (λ (w : List ℕ). followed w (λ done. walk_on h legs (drive g done t))) via
      ∙ ap (λ (s : ℕ). (first ++ second) ++ walk_on h legs s) (drive-append g first second t)
      ∙ append_assoc first second (walk_on h legs (drive g second (drive g first t)))

  -- what an entry in force says of the leg that is next
  says : (asked : Asked) (met : Met) (parts : Parts) (u v : ℕ) → IsMetAt h asked met → met.parts ≡ parts → IsListFrom h asked.list u v → HoldsParts h u v met.from met.until parts
  says asked met parts u v (holds, low, high) same is = subst (HoldsParts h u v met.from met.until) same (holds.1 u v is (omega (arith, low, high)))

  module _ (waiting : List Glance) (spot : WalkSpot) (met : Met) (is_met : IsMetAt h (next_asked spot) met) where
    -- the road of the leg that is next arrives
    road_arrives : (u v road travel : ℕ) → IsListFrom h spot.next.list u v → met.parts ≡ part.Road road → HoldsTravel h spot.next.list spot.second travel
        → (way_from h u v spot.second ≡ Some (way.Road road)) × WalkTakes h u v spot.second travel 1 × (drive h.network (road ∷ []) spot.second ≡ spot.second + travel)
    road_arrives u v road travel here same takes_so =
        let t = spot.second in
        let (roads, takes) = takes_so u v here in
        let taken = says (next_asked spot) met (part.Road road) u v is_met same here t is_met.1 is_met.2 in
        let walk : unpacked_walk h u v t ≡ road ∷ [] = ap (unpacked_way h.network (unpacked h (min u v)) u v t) taken in
        let one : length (unpacked_walk h u v t) ≡ 1 = ap length walk in
        (taken, (takes.0, one, takes.2), sym (ap (λ (w : List ℕ). drive h.network w t) walk) ∙ takes.2)

    -- a road of the leg that is next is found
    pub road_found : (leg : Leg) (legs : List Leg) (road travel : ℕ) → WentDown h leg legs spot.second waiting spot → met.parts ≡ part.Road road
        → HoldsTravel h spot.next.list spot.second travel
        → FindsPart h leg legs spot.second waiting (record { part = walked.Road road travel; waiting = spot.waiting })
    road_found leg legs road travel went same travels =
        let t = spot.second in
        let (taken, takes, arrives) = road_arrives went.next.from went.next.to road travel went.place.list same travels in
        let on = road_walk went.next went.rest t road travel 1 taken takes in
        let room = went.place.room in (
          went.rest,
          went.place.rest,
          sym went.walk ∙ on.0 ∙ ap (λ (n : ℕ). road ∷ walk_on h went.rest n) (sym arrives),
          omega (arith, room),
        )

    -- which takes as long on any day
    pub road_drives : (leg : Leg) (legs : List Leg) (road travel : ℕ) → WentDown h leg legs spot.second waiting spot → met.parts ≡ part.Road road
        → HoldsTravel h spot.next.list spot.second travel → DrivesPart h spot.second (walked.Road road travel)
    road_drives leg legs road travel went same travels =
        let u = went.next.from in
        let v = went.next.to in
        let t = spot.second in
        let (taken, takes, arrives) = road_arrives u v road travel went.place.list same travels in
        let leads = well_formed h f u v t (way.Road road) taken in
        let there = leads_within h.network road leads.0 leads.1 leads.2 in
        let near = arc_value-near h.network f.network road there t in
        let days : (k : ℕ) → drive h.network (road ∷ []) (k * day + t) ≡ k * day + drive h.network (road ∷ []) t =
        λ k. leads-days h.network h.order f.network road u v k t leads in
        record {
          some = omega arith;
          near = omega (arith, near);
          days = days;
          roads = λ k. days k ∙ ap (λ (n : ℕ). k * day + n) arrives;
        }

    module _ (first second : ℕ) (same : met.parts ≡ part.Halves first second) where
      -- the halves of the leg that is next are lists
      pub halves_there : (leg : Leg) (legs : List Leg) → IsAt h waiting spot leg legs
          → (first < 2 * length h.edges) × (second < 2 * length h.edges) × (low_of_list h first < low_of_list h spot.next.list)
      halves_there leg legs is =
          let (m, both, taken) = says (next_asked spot) met (part.Halves first second) leg.from leg.to is_met same is.list in
          let w = well_formed h f leg.from leg.to spot.second (way.Via m) (taken spot.second is_met.1 is_met.2) in
          let mu = w.0 in
          let mv = w.1 in
          let low = list_low h f first leg.from m both.0 in
          let high = list_low h f spot.next.list leg.from leg.to is.list in
          (list_inside h first leg.from m both.0, list_inside h second m leg.to both.1, omega (arith, mu, mv, low, high))

      -- the first half is next and the second waits
      pub went_part : (leg : Leg) (legs : List Leg) (rows : List Row) (moved : List Glance) (next : WalkSpot) → length waiting ≡ h.network.nodes → WentDown h leg legs spot.second waiting spot
          → Knows h rows → IsNext first spot.second (spot.waiting + 1) next → HoldsGlance h next.next → Waits rows second spot.waiting waiting moved
          → WentDown h leg legs spot.second moved next
      went_part leg legs rows moved next long went knows is holds (glance, named, holding, now) =
          let u = went.next.from in
          let v = went.next.to in
          let t = spot.second in
          let place = went.place in
          let (m, both, taken) = says (next_asked spot) met (part.Halves first second) u v is_met same place.list in
          let e = taken t is_met.1 is_met.2 in
          let w = well_formed h f u v t (way.Via m) e in
          let mu = w.0 in
          let mv = w.1 in
          let room = place.room in
          let one = is.2 in
          let inside : spot.waiting < length waiting = omega (arith, room, long) in
          let kept = waiting_kept h waiting spot.waiting glance spot.waiting went.rest (omega arith) place.rest in
          let waits : AreWaiting h (slice_set waiting spot.waiting glance) next.waiting (record { from = m; to = v } ∷ went.rest) = (
            spot.waiting,
            glance,
            one,
            get_here waiting spot.waiting glance inside,
            holding h knows,
            subst (λ (n : ℕ). IsListFrom h n m v) (sym named) both.1,
            omega (arith, mu, mv, room),
            w.5,
            kept,
          ) in
          let early = place.early in
          let second_is = is.1 in
          record {
            next = record { from = u; to = m };
            rest = record { from = m; to = v } ∷ went.rest;
            place = record {
              list = subst (λ (n : ℕ). IsListFrom h n u m) (sym is.0) both.0;
              some = w.4;
              early = omega (arith, early, second_is);
              holds = holds;
              room = omega (arith, mu, mv, room, one);
              rest = subst (λ (xs : List Glance). AreWaiting h xs next.waiting (record { from = m; to = v } ∷ went.rest)) (sym now) waits;
            };
            walk = sym (halves_walk went.next went.rest t m e) ∙ went.walk;
          }

-- a road that leads somewhere can be driven, and so can the roads of a walk
open_leads : (h : HierarchyValue) (a u v : ℕ) → Leads h.network a u v → IsOpenRoad h.network a
open_leads h a u v leads = (leads_within h.network a u v leads, leads.1)

open_below : (h : HierarchyValue) (m u : ℕ) (walk : List ℕ) (v : ℕ) → WalkBelow h.network h.order m u walk v → All (IsOpenRoad h.network) walk
open_below h m u [] v below = absurd below
open_below h m u (a ∷ []) v leads = All-cons (IsOpenRoad h.network) a [] (open_leads h a leads.0 leads.1 leads.2) (λ k d lt. absurd (omega (arith, lt)))
open_below h m u (a ∷ b ∷ walk) v (x, leads, low, rest) =
    All-cons (IsOpenRoad h.network) a (b ∷ walk) (open_leads h a leads.0 leads.1 leads.2) (open_below h m x (b ∷ walk) v rest)

-- what is read of a list's sequence is so of the list with its number
pub sequence_of : (h : HierarchyValue) (kept : SequencesValue) (list : ℕ) (roads : Bor (List ℕ)) → AreSequences h kept
    → ((g : HierarchyValue) (edge : ℕ) (dir : Dir) (ends : Ends) → AreSequences g kept → list ≡ list_number edge dir → slice_get g.edges edge ≡ Some ends
    → IsSequence g (start_of ends dir) (end_of ends dir) roads.now)
    → (u v : ℕ) → IsListFrom h list u v → IsSequence h u v roads.now
sequence_of h kept list roads are read u v (ends, at, from, to) =
    let is = read h (list / 2) (dir_of list) ends are (number_back list) at in
    subst (λ (x : ℕ). IsSequence h u x roads.now) (sym to) (subst (λ (x : ℕ). IsSequence h x (end_of ends (dir_of list)) roads.now) (sym from) is)

-- a list's walk from rank to rank takes as long as is said of the list
taken_from : (h : HierarchyValue) (list u v t : ℕ) (travel : Option ℕ) → IsListFrom h list u v → IfSome travel (HoldsTravel h list t)
    → IfSome travel (λ (seconds : ℕ). drive h.network (unpacked_walk h u v t) t ≡ t + seconds)
taken_from h list u v t None here takes = takes
taken_from h list u v t (Some seconds) here takes = let (roads, so) = takes u v here in so.2

-- and so do these roads, where they are its walk, on any day
takes_each_day : (h : HierarchyValue) (u v t : ℕ) (roads : List ℕ) (travel : Option ℕ) → unpacked_walk h u v t ≡ roads
    → ((k : ℕ) → drive h.network roads (k * day + t) ≡ k * day + drive h.network roads t)
    → IfSome travel (λ (seconds : ℕ). drive h.network (unpacked_walk h u v t) t ≡ t + seconds) → IfSome travel (TakesEachDay h.network t roads)
takes_each_day h u v t roads None walk days takes = takes
takes_each_day h u v t roads (Some seconds) walk days takes =
    let arrives : drive h.network roads t ≡ t + seconds = ap (λ (w : List ℕ). drive h.network w t) (sym walk) ∙ takes in
    λ k. days k ∙ ap (λ (n : ℕ). k * day + n) arrives

-- a list that has the same roads at every second is found
module _ (h : HierarchyValue) (f : IsHierarchy h) (waiting : List Glance) (spot : WalkSpot) (leg : Leg) (legs : List Leg) (went : WentDown h leg legs spot.second waiting spot)
    (roads : Bor (List ℕ)) (travel : Option ℕ) (sequence : (u v : ℕ) → IsListFrom h spot.next.list u v → IsSequence h u v roads.now)
    (takes : IfSome travel (HoldsTravel h spot.next.list spot.second)) where
  pub sequence_found : FindsPart h leg legs spot.second waiting (record { part = walked.Sequence roads travel; waiting = spot.waiting })
  sequence_found =
      let t = spot.second in
      let (some, walk) = sequence went.next.from went.next.to went.place.list in
      let room = went.place.room in (
        went.rest,
        went.place.rest,
        sym went.walk ∙ ap (λ (w : List ℕ). w ++ walk_on h went.rest (drive h.network w t)) (walk t),
        omega (arith, room),
      )

  pub sequence_drives : DrivesPart h spot.second (walked.Sequence roads travel)
  sequence_drives =
      let g = h.network in
      let t = spot.second in
      let u = went.next.from in
      let v = went.next.to in
      let here = went.place.list in
      let (some, walk) = sequence u v here in
      let apart = list_apart h f spot.next.list u v here in
      let low = subst (λ (w : List ℕ). IsLowWalk g h.order u w v) (walk t) (unpacked-low h f u v t apart some) in
      let one = low_some g h.order u roads.now v low in
      let days : (k : ℕ) → drive g roads.now (k * day + t) ≡ k * day + drive g roads.now t = λ k. below-days g h.order f.network (min u v) u roads.now v k t low.1 in
      record {
        some = omega (arith, one);
        near = below-near g h.order f.network (min u v) u roads.now v t low.1;
        days = days;
        roads = (open_below h (min u v) u roads.now v low.1, takes_each_day h u v t roads.now travel (walk t) days (taken_from h spot.next.list u v t travel here takes));
      }

-- what is known of driving a list says how long its walk takes
pub travel_driven : (h : HierarchyValue) (list second : ℕ) (driven : Driven) → HoldsDriven h list second driven → HoldsTravel h list second driven.travel
travel_driven h list second driven holds u v is =
    let done = holds u v is in
    let some = done.window.1 in
    (driven.roads, done.takes second (omega arith, omega (arith, some)))

-- some leg is still next where the legs went down
pub went_somewhere : (h : HierarchyValue) (before waiting : List Glance) (start spot : WalkSpot) (t : ℕ) → IsSomewhere h before start
    → ((leg : Leg) (legs : List Leg) → IsAt h before start leg legs → WentDown h leg legs t waiting spot) → IsSomewhere h waiting spot
went_somewhere h before waiting start spot t (leg, legs, is) went = let w = went leg legs is in (w.next, w.rest, w.place)

-- an entry that says nothing
pub met_nothing : (h : HierarchyValue) (list : ℕ) → HoldsMet h list (met_of (kept.Road 0 0 0))
met_nothing h list = (omega arith, λ u v is lt. absurd (omega (arith, lt)))
