-- Going down from a shortcut to its first road.
use Rattle.std.proofs.Common.{◌≡◌, ◌≢◌, ◌≤◌, ◌<◌, ◌+◌, ◌∙◌, ◌⊎◌, ℕ, List, [], ◌∷◌, ◌++◌, Option, Some, None, refl, sym, ap, subst, arith, inl, inr, length, append_assoc}
use Rattle.std.specs.Prelude.{slice_get, slice_set}
use Rattle.std.proofs.lemmas.Option.{slice_get_within}
use Rattle.cu_model.specs.Roads.{drive}
use Rattle.cu_model.proofs.RoadLaws.{drive-append}
use Rattle.cu_model.proofs.ListLaws.{get_here}
use Rattle.cu_model.proofs.OptionLaws.{same_value}
use Rattle.cu_chordal.specs.declared.graph.Ends.{Ends}
use Rattle.cu_chordal.specs.Graphs.{HasEdge}
use Rattle.cu_interval.specs.declared.ways.Dir.{Dir}
use Rattle.cu_interval.specs.declared.ways.Dir.TheVariants.{Down}
use Rattle.cu_interval.specs.declared.ways.Way.{Way}
use Rattle.cu_interval.specs.declared.ways.Way.TheVariants.{Road, Via}
use Rattle.cu_interval.specs.declared.ways.Entry.{Entry}
use Rattle.cu_interval.specs.WayLists.{way_at}
use Rattle.cu_interval.specs.Hierarchies.{HierarchyValue, IsHierarchy, start_of, end_of, list_from, list_of, way_from}
use Rattle.cu_interval.specs.Unpacking.{followed, unpacked_walk}
use Rattle.cu_interval.proofs.Fuel.{unpacked-via}
use Rattle.cu_interval.proofs.Lookups.{middles_fall, well_formed}
use Rattle.cu_interval.proofs.EndsLaws.{below_low, ends_range}
use Rattle.cu_interval.specs.declared.shortcuts.Leg.{Leg}
use Rattle.cu_interval.specs.Shortcuts.{IsMiddle}
use Rattle.cu_unpack.specs.declared.unpacking.Spot.{Spot}
use Rattle.cu_unpack.specs.Steps.Legs.{AreWaiting, FindsRoad, HasWay, IsAt, IsLegOf, IsSomewhere, Parts, low_of, walk_on}
use Rattle.cu_unpack.proofs.Edges.{leg_way, no_way}
use Rattle.cu_unpack.proofs.Waiting.{waiting_kept}

-- the legs went down so far: their walk is the same, and each look-up parted one
pub record WentDown (h : HierarchyValue) (leg : Leg) (legs : List Leg) (t : ℕ) (pending : List ℕ) (spot : Spot) (before now : ℕ) : Type 0 where
  pub next : Leg
  pub rest : List Leg
  pub place : IsAt h pending spot next rest
  pub walk : walk_on h (next ∷ rest) t ≡ walk_on h (leg ∷ legs) t
  pub steps : now + length legs ≡ before + length rest
  pub ways : ((next ≡ leg) × (now ≡ before)) ⊎ (HasWay h next × HasWay h leg)

pub went_nowhere : (h : HierarchyValue) (leg : Leg) (legs : List Leg) (t : ℕ) (pending : List ℕ) (spot : Spot) (before : ℕ)
    → IsAt h pending spot leg legs → WentDown h leg legs t pending spot before before
went_nowhere h leg legs t pending spot before is = record { next = leg; rest = legs; place = is; walk = refl; steps = refl; ways = inl (refl, refl) }

-- where a way is in force the list has one
pub some_list : (es : List Entry) (t : ℕ) (way : Way) → way_at es t ≡ Some way → es ≢ []
some_list [] t way e = absurd (cc e)
some_list (x ∷ es) t way e = λ same. absurd (cc same)

-- a leg with a way in force has a way, and so has the first
has_way : (h : HierarchyValue) (leg next : Leg) (t now before : ℕ) (way : Way) → ((next ≡ leg) × (now ≡ before)) ⊎ (HasWay h next × HasWay h leg)
    → way_from h next.from next.to t ≡ Some way → HasWay h leg
has_way h leg next t now before way (inl (same, count)) e = subst (λ (l : Leg). HasWay h l) same (some_list (list_from h next.from next.to) t way e)
has_way h leg next t now before way (inr both) e = both.1

none_by : (h : HierarchyValue) (leg next : Leg) (before now after : ℕ) → ((next ≡ leg) × (now ≡ before)) ⊎ (HasWay h next × HasWay h leg) → list_from h next.from next.to ≡ [] → after ≡ now + 1
    → (list_from h leg.from leg.to ≡ []) × (after ≡ before + 1)
none_by h leg next before now after (inl (same, count)) empty one =
    (subst (λ (l : Leg). list_from h l.from l.to ≡ []) same empty, omega (arith, count, one))
none_by h leg next before now after (inr both) empty one = absurd (both.0 empty)

-- what is looked up, said of the hierarchy at the start
pub way_here : {h k : HierarchyValue} (edge : ℕ) (dir : Dir) {s t : ℕ} {found : Option Way} → found ≡ way_at (list_of k edge dir) s → k ≡ h → s ≡ t
    → way_at (list_of h edge dir) t ≡ found
way_here {h} {k} edge dir {s} e same second =
    sym (e ∙ ap (λ (x : HierarchyValue). way_at (list_of x edge dir) s) same ∙ ap (λ (u : ℕ). way_at (list_of h edge dir) u) second)

-- the edge that is next is one
pub next_within : (h : HierarchyValue) (pending : List ℕ) (spot : Spot) → IsSomewhere h pending spot → spot.edge < length h.edges
next_within h pending spot (leg, legs, is) = slice_get_within h.edges spot.edge is.here.0 is.here.1

module _ (h : HierarchyValue) (f : IsHierarchy h) where
  pub went_road : (leg : Leg) (legs : List Leg) (t : ℕ) (pending : List ℕ) (spot : Spot) (before now after road : ℕ)
      → WentDown h leg legs t pending spot before now → way_at (list_of h spot.edge spot.dir) t ≡ Some (Road road) → after ≡ now + 1 → spot.second ≡ t
      → FindsRoad h leg legs t pending before after (Some (spot, road))
  went_road leg legs t pending spot before now after road w e one second =
      let at : way_from h w.next.from w.next.to t ≡ Some (Road road) = leg_way h f spot.edge spot.dir w.next t w.place.here ∙ e in
      let steps = w.steps in
      (w.next, w.rest, w.place, has_way h leg w.next t now before (Road road) w.ways at, at, w.walk, omega (arith, steps, one), second)

  pub went_none : (leg : Leg) (legs : List Leg) (t : ℕ) (pending : List ℕ) (spot : Spot) (before now after : ℕ)
      → WentDown h leg legs t pending spot before now → way_at (list_of h spot.edge spot.dir) t ≡ None → after ≡ now + 1
      → FindsRoad h leg legs t pending before after None
  went_none leg legs t pending spot before now after w e one =
      let at : way_from h w.next.from w.next.to t ≡ None = leg_way h f spot.edge spot.dir w.next t w.place.here ∙ e in
      none_by h leg w.next before now after w.ways (no_way h f w.next.from w.next.to t at) one

  -- a middle in force may be parted at, and there is room for one more to wait
  pub part_ready : (pending : List ℕ) (spot : Spot) (t middle : ℕ) → IsSomewhere h pending spot → way_at (list_of h spot.edge spot.dir) t ≡ Some (Via middle)
      → IsMiddle h spot.edge spot.dir middle × (spot.waiting < h.network.nodes)
  part_ready pending spot t middle (leg, legs, is) e =
      let (ends, at, from, to) = is.here in
      let way : way_from h leg.from leg.to t ≡ Some (Via middle) = leg_way h f spot.edge spot.dir leg t is.here ∙ e in
      let w = well_formed h f leg.from leg.to t (Via middle) way in
      let room = is.room in
      ((ends, at, subst (λ (x : ℕ). HasEdge h.edges middle x) from w.2, subst (λ (x : ℕ). HasEdge h.edges middle x) to w.3), omega (arith, room))

  -- the walk of a middle is that over both halves
  halves_walk : (leg : Leg) (legs : List Leg) (t m : ℕ) → way_from h leg.from leg.to t ≡ Some (Via m)
      → walk_on h (leg ∷ legs) t ≡ walk_on h (record { from = leg.from; to = m } ∷ record { from = m; to = leg.to } ∷ legs) t
  halves_walk leg legs t m e =
      let g = h.network in
      let first = unpacked_walk h leg.from m t in
      let second = unpacked_walk h m leg.to (drive g first t) in
      let via : unpacked_walk h leg.from leg.to t ≡ first ++ second = unpacked-via h (middles_fall h f) leg.from leg.to t m e in
      ap (λ (w : List ℕ). followed w (λ done. walk_on h legs (drive g done t))) via
      ∙ ap (λ (s : ℕ). (first ++ second) ++ walk_on h legs s) (drive-append g first second t)
      ∙ append_assoc first second (walk_on h legs (drive g second (drive g first t)))

  -- the first half is next and the second waits
  pub parted : (pending now : List ℕ) (spot next : Spot) (leg : Leg) (legs : List Leg) (t m : ℕ)
      → IsAt h pending spot leg legs → length pending ≡ h.network.nodes → Parts h spot m pending now next → way_from h leg.from leg.to t ≡ Some (Via m)
      → IsAt h now next (record { from = leg.from; to = m }) (record { from = m; to = leg.to } ∷ legs)
  parted pending now spot next leg legs t m is long p way =
      let w = well_formed h f leg.from leg.to t (Via m) way in
      let (ends, at, from, to) = is.here in
      let same : ends ≡ p.ends = same_value (slice_get h.edges spot.edge) ends p.ends at p.at in
      let start : leg.from ≡ start_of p.ends spot.dir = from ∙ ap (λ (e : Ends). start_of e spot.dir) same in
      let stop : leg.to ≡ end_of p.ends spot.dir = to ∙ ap (λ (e : Ends). end_of e spot.dir) same in
      let mu = w.0 in
      let mv = w.1 in
      let room = is.room in
      let one = p.waiting in
      let down : IsLegOf h next.edge Down (record { from = leg.from; to = m }) = (record { low = m; high = start_of p.ends spot.dir }, p.first, start, refl) in
      let inside : spot.waiting < length pending = omega (arith, room, long) in
      let kept = waiting_kept h pending spot.waiting p.half spot.waiting legs (omega arith) is.waiting in
      let rest : AreWaiting h (slice_set pending spot.waiting p.half) next.waiting (record { from = m; to = leg.to } ∷ legs) =
      (spot.waiting, p.half, one, get_here pending spot.waiting p.half inside, (record { low = m; high = end_of p.ends spot.dir }, p.last, refl, stop), omega (arith, mu, mv, room), w.5, kept) in
      record {
        here = subst (λ (d : Dir). IsLegOf h next.edge d (record { from = leg.from; to = m })) (sym p.down) down;
        room = omega (arith, mu, mv, room, one);
        waiting = subst (λ (xs : List ℕ). AreWaiting h xs next.waiting (record { from = m; to = leg.to } ∷ legs)) (sym p.pending) rest;
      }

  pub went_part : (leg : Leg) (legs : List Leg) (t : ℕ) (pending moved : List ℕ) (spot next : Spot) (before now after m : ℕ)
      → length pending ≡ h.network.nodes → WentDown h leg legs t pending spot before now → way_at (list_of h spot.edge spot.dir) t ≡ Some (Via m) → after ≡ now + 1 → Parts h spot m pending moved next
      → WentDown h leg legs t moved next before after
  went_part leg legs t pending moved spot next before now after m long w e one p =
      let at : way_from h w.next.from w.next.to t ≡ Some (Via m) = leg_way h f spot.edge spot.dir w.next t w.place.here ∙ e in
      let formed = well_formed h f w.next.from w.next.to t (Via m) at in
      let steps = w.steps in
      record {
        next = record { from = w.next.from; to = m };
        rest = record { from = m; to = w.next.to } ∷ w.rest;
        place = parted pending moved spot next w.next w.rest t m w.place long p at;
        walk = sym (halves_walk w.next w.rest t m at) ∙ w.walk;
        steps = omega (arith, steps, one);
        ways = inr (formed.4, has_way h leg w.next t now before (Via m) w.ways at);
      }

  -- the first half's lower end is below that of the whole
  pub part_lower : (pending before now : List ℕ) (spot next : Spot) (t m : ℕ) → IsSomewhere h pending spot
      → way_at (list_of h spot.edge spot.dir) t ≡ Some (Via m) → Parts h spot m before now next
      → low_of (slice_get h.edges next.edge) < low_of (slice_get h.edges spot.edge)
  part_lower pending before now spot next t m (leg, legs, is) e p =
      let (ends, at, from, to) = is.here in
      let way : way_from h leg.from leg.to t ≡ Some (Via m) = leg_way h f spot.edge spot.dir leg t is.here ∙ e in
      let w = well_formed h f leg.from leg.to t (Via m) way in
      let below : m < ends.low = below_low ends spot.dir m (subst (λ (x : ℕ). m < x) from w.0) (subst (λ (x : ℕ). m < x) to w.1) in
      let one : low_of (slice_get h.edges next.edge) ≡ m = ap low_of p.first in
      let whole : low_of (slice_get h.edges spot.edge) ≡ ends.low = ap low_of at in
      omega (arith, below, one, whole)

  pub part_somewhere : (pending now : List ℕ) (spot next : Spot) (t m : ℕ) → length pending ≡ h.network.nodes
      → IsSomewhere h pending spot → way_at (list_of h spot.edge spot.dir) t ≡ Some (Via m) → Parts h spot m pending now next
      → IsSomewhere h now next
  part_somewhere pending now spot next t m long (leg, legs, is) e p =
      (record { from = leg.from; to = m }, record { from = m; to = leg.to } ∷ legs, parted pending now spot next leg legs t m is long p (leg_way h f spot.edge spot.dir leg t is.here ∙ e))

  -- the lower end of the edge that is next is a rank
  pub next_low : (pending : List ℕ) (spot : Spot) → IsSomewhere h pending spot → low_of (slice_get h.edges spot.edge) ≤ h.network.nodes
  next_low pending spot (leg, legs, is) =
      let range = ends_range h f spot.edge is.here.0 is.here.1 in
      let low : low_of (slice_get h.edges spot.edge) ≡ is.here.0.low = ap low_of is.here.1 in
      omega (arith, range.0, range.1, low)
