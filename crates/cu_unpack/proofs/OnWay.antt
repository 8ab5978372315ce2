-- An unpacking under way: what was driven and what is left are the walk of the shortcut.
use Rattle.std.proofs.Common.{◌≡◌, ◌≢◌, ◌≤◌, ◌<◌, ◌+◌, ◌*◌, ◌^◌, ◌∙◌, ◌⊎◌, ℕ, List, [], ◌∷◌, ◌++◌}
use Rattle.std.proofs.Common.{Option, Some, None, true, false, ltb, refl, sym, ap, subst, arith, inl, inr, length, append_assoc, length-append}
use Rattle.std.proofs.lemmas.List.{append-nil, length_push}
use Rattle.cu_model.specs.declared.limits.TheConstants.{MAX_UNTIL}
use Rattle.cu_model.specs.Networks.{NetworkValue}
use Rattle.cu_model.specs.Roads.{arc_value, drive}
use Rattle.cu_model.proofs.RoadLaws.{drive-append}
use Rattle.cu_model.proofs.ListLaws.{item_there}
use Rattle.cu_chordal.specs.declared.graph.Ends.{Ends}
use Rattle.cu_interval.specs.declared.ways.Dir.{Dir}
use Rattle.cu_interval.specs.declared.ways.Entry.{Entry}
use Rattle.cu_interval.specs.declared.relaxing.Relaxed.{Relaxed}
use Rattle.cu_interval.specs.declared.relaxing.Relaxed.TheVariants.{At, NoWay, Long}
use Rattle.cu_interval.specs.Hierarchies.{HierarchyValue, IsHierarchy, start_of, end_of, list_from}
use Rattle.cu_interval.specs.Unpacking.{answer_by, relaxed, relaxed_ends, relaxed_from, unpacked_walk}
use Rattle.cu_interval.proofs.Unpacked.{unpacked-low}
use Rattle.cu_interval.proofs.EndsLaws.{ends_apart, ends_range, min_ends}
use Rattle.cu_interval.proofs.Walks.{low_some}
use Rattle.cu_interval.specs.declared.shortcuts.Leg.{Leg}
use Rattle.cu_unpack.specs.declared.unpacking.Driven.{Driven}
use Rattle.cu_unpack.specs.declared.unpacking.Spot.{Spot}
use Rattle.cu_unpack.specs.Answers.{IsArriving, walk_between, walk_over}
use Rattle.cu_unpack.specs.Steps.Legs.{DrivesOn, HasWay, IsAt, IsLeft, IsLegOf, IsSomewhere, IsUnderWay, walk_on}
use Rattle.cu_unpack.proofs.Waiting.{waiting_count}

-- so many roads less one of the walk of an edge were driven, and so many look-ups counted
pub record IsOnWay (h : HierarchyValue) (edge : ℕ) (dir : Dir) (at : ℕ) (pending : List ℕ) (spot : Spot) (before now number : ℕ) : Type 0 where
  pub start : Leg
  pub leg : Leg
  pub legs : List Leg
  pub done : List ℕ
  pub first : IsLegOf h edge dir start
  pub place : IsAt h pending spot leg legs
  pub under : IsUnderWay h start at leg legs done spot.second
  pub count : length done + 1 ≡ number
  pub steps : now ≡ before + 2 * length done + length legs

pub relaxed_by : (h : HierarchyValue) (edge : ℕ) (dir : Dir) (t : ℕ) (leg : Leg) → IsLegOf h edge dir leg → relaxed h edge dir t ≡ relaxed_from h leg.from leg.to t
relaxed_by h edge dir t leg (ends, at, from, to) =
    ap (λ (o : Option Ends). relaxed_ends h o dir t) at
    ∙ ap (λ (u : ℕ). relaxed_from h u (end_of ends dir) t) (sym from)
    ∙ ap (λ (v : ℕ). relaxed_from h leg.from v t) (sym to)

pub walk_by : (h : HierarchyValue) (edge : ℕ) (dir : Dir) (t : ℕ) (leg : Leg) → IsLegOf h edge dir leg → walk_over h edge dir t ≡ unpacked_walk h leg.from leg.to t
walk_by h edge dir t leg (ends, at, from, to) =
    ap (λ (o : Option Ends). walk_between h o dir t) at
    ∙ ap (λ (u : ℕ). unpacked_walk h u (end_of ends dir) t) (sym from)
    ∙ ap (λ (v : ℕ). unpacked_walk h leg.from v t) (sym to)

pub on_way_begin : (h : HierarchyValue) → IsHierarchy h → (edge : ℕ) (dir : Dir) (at : ℕ) (pending : List ℕ) (before : ℕ) → edge < length h.edges
    → (w : IsOnWay h edge dir at pending (record { edge = edge; dir = dir; second = at; waiting = 0 }) before before 1) × (w.done ≡ [])
on_way_begin h f edge dir at pending before lt =
    let (ends, e) = item_there h.edges edge lt in
    let range = ends_range h f edge ends e in
    let low = min_ends ends dir range.0 in
    let start : Leg = record { from = start_of ends dir; to = end_of ends dir } in (
      record {
        start = start;
        leg = start;
        legs = [];
        done = [];
        first = (ends, e, refl, refl);
        place = record { here = (ends, e, refl, refl); room = omega (arith, range.0, range.1, low); waiting = refl };
        under = record {
          whole = sym (append-nil (unpacked_walk h start.from start.to at));
          arrives = refl;
          onward = omega arith;
          near = omega arith;
          ways = inl (refl, refl, refl);
        };
        count = refl;
        steps = omega arith;
      },
      refl,
    )

pub on_way_somewhere : (h : HierarchyValue) (edge : ℕ) (dir : Dir) (at : ℕ) (pending : List ℕ) (spot : Spot) (before now number : ℕ)
    → IsOnWay h edge dir at pending spot before now number → IsSomewhere h pending spot
on_way_somewhere h edge dir at pending spot before now number w = (w.leg, w.legs, w.place)

-- no second comes near the end of what is counted
pub on_way_time : {h : HierarchyValue} {edge : ℕ} {dir : Dir} {at : ℕ} {pending : List ℕ} {spot : Spot} {before now number : ℕ}
    → IsHierarchy h → IsOnWay h edge dir at pending spot before now number → number ≤ h.network.nodes → at < 2 ^ 61 → spot.second ≤ 2 ^ 62
on_way_time f w le early =
    let near = w.under.near in
    let count = w.count in
    let few = f.graph.few_ranks in
    omega (arith, near, count, few, le, early)

-- and no count
pub on_way_few : {h : HierarchyValue} {edge : ℕ} {dir : Dir} {at : ℕ} {pending : List ℕ} {spot : Spot} {before now number : ℕ}
    → IsHierarchy h → IsOnWay h edge dir at pending spot before now number → number ≤ h.network.nodes → before ≤ 2 ^ 62 → now + h.network.nodes < 2 ^ 63
on_way_few {h} {edge} {dir} {at} {pending} {spot} f w le early =
    let count = w.count in
    let steps = w.steps in
    let few = f.graph.few_ranks in
    let room = w.place.room in
    let waiting = waiting_count h pending spot.waiting w.legs w.place.waiting in
    omega (arith, count, few, le, early, steps, room, waiting)

-- some list isn't empty: that of the shortcut
has_start : (h : HierarchyValue) (start leg : Leg) (legs : List Leg) (done : List ℕ) → ((leg ≡ start) × (legs ≡ []) × (done ≡ [])) ⊎ (HasWay h leg × HasWay h start) → HasWay h leg → HasWay h start
has_start h start leg legs done (inl at) has = subst (λ (l : Leg). HasWay h l) at.0 has
has_start h start leg legs done (inr both) has = both.1

-- what a road that is driven and what is left after it come to
pub on_way_whole : (h : HierarchyValue) (start : Leg) (at : ℕ) (leg : Leg) (legs : List Leg) (done : List ℕ) (second road : ℕ) (left : List ℕ)
    → IsUnderWay h start at leg legs done second → walk_on h (leg ∷ legs) second ≡ road ∷ left → unpacked_walk h start.from start.to at ≡ (done ++ (road ∷ [])) ++ left
on_way_whole h start at leg legs done second road left u walk =
    u.whole ∙ ap (λ (w : List ℕ). done ++ w) walk ∙ sym (append_assoc done (road ∷ []) left)

drives_to : (g : NetworkValue) (done : List ℕ) (road at second arrival : ℕ) → drive g done at ≡ second → arrival ≡ arc_value g road second → drive g (done ++ (road ∷ [])) at ≡ arrival
drives_to g done road at second arrival e value = drive-append g done (road ∷ []) at ∙ ap (arc_value g road) e ∙ sym value

abbrev pub WillDrive : HierarchyValue → List ℕ → Spot → List ℕ → ℕ → ℕ → Option Driven → Type 0
WillDrive h pending spot moved now after o = (leg : Leg) (legs : List Leg) → IsAt h pending spot leg legs → DrivesOn h leg legs spot.second moved now after o

next_by : (h : HierarchyValue) (edge : ℕ) (dir : Dir) (at : ℕ) (pending moved : List ℕ) (spot next : Spot) (before now after number : ℕ) (d : Driven)
    → (w : IsOnWay h edge dir at pending spot before now number) → (left : List ℕ) → HasWay h w.leg → walk_on h (w.leg ∷ w.legs) spot.second ≡ d.road ∷ left
    → d.arrival ≡ arc_value h.network d.road spot.second → spot.second ≤ d.arrival → d.arrival ≤ spot.second + MAX_UNTIL
    → IsLeft h w.legs moved d.arrival left now after (Some next)
    → (m : IsOnWay h edge dir at moved next before after (number + 1)) × (m.done ≡ w.done ++ (d.road ∷ []))
next_by h edge dir at pending moved spot next before now after number d w left has walk value onward near (leg, legs, place, way, second, same, steps) =
    let u = w.under in
    let done = w.done ++ (d.road ∷ []) in
    let long : length done ≡ length w.done + 1 = length_push w.done d.road in
    let e1 = u.onward in
    let e2 = u.near in
    let count = w.count in
    let before_ = w.steps in (
      record {
        start = w.start;
        leg = leg;
        legs = legs;
        done = done;
        first = w.first;
        place = place;
        under = record {
          whole = on_way_whole h w.start at w.leg w.legs w.done spot.second d.road left u walk ∙ ap (λ (x : List ℕ). done ++ x) same ∙ ap (λ (s : ℕ). done ++ walk_on h (leg ∷ legs) s) (sym second);
          arrives = drives_to h.network w.done d.road at spot.second d.arrival u.arrives value ∙ sym second;
          onward = omega (arith, e1, onward, second);
          near = omega (arith, e2, near, second, long);
          ways = inr (way, has_start h w.start w.leg w.legs w.done u.ways has);
        };
        count = omega (arith, long, count);
        steps = omega (arith, steps, before_, long);
      },
      refl,
    )

-- what the ways, which still tell the hierarchy, say of the next road
drives_in : {h k : HierarchyValue} (pending moved : List ℕ) (spot : Spot) (now after : ℕ) (o : Option Driven) → k ≡ h
    → WillDrive k pending spot moved now after o → WillDrive h pending spot moved now after o
drives_in pending moved spot now after o stays drives = subst (λ (g : HierarchyValue). WillDrive g pending spot moved now after o) stays drives

-- one more road was driven, and something is left
pub on_way_next : {h k : HierarchyValue} {edge : ℕ} {dir : Dir} {at : ℕ} {pending moved : List ℕ} {spot next : Spot} {before now after number : ℕ} {d : Driven}
    → k ≡ h → (w : IsOnWay h edge dir at pending spot before now number) → WillDrive k pending spot moved now after (Some d) → d.rest ≡ Some next
    → (m : IsOnWay h edge dir at moved next before after (number + 1)) × (m.done ≡ w.done ++ (d.road ∷ []))
on_way_next {h} {k} {edge} {dir} {at} {pending} {moved} {spot} {next} {before} {now} {after} {number} {d} stays w drives is =
    let (left, has, walk, value, onward, near, rest) = drives_in pending moved spot now after (Some d) stays drives w.leg w.legs w.place in
    next_by h edge dir at pending moved spot next before now after number d w left has walk value onward near
    (subst (λ (o : Option Spot). IsLeft h w.legs moved d.arrival left now after o) is rest)

none_by : (h : HierarchyValue) (edge : ℕ) (dir : Dir) (at : ℕ) (start leg : Leg) (legs : List Leg) (done : List ℕ) (before now after : ℕ) → IsLegOf h edge dir start
    → ((leg ≡ start) × (legs ≡ []) × (done ≡ [])) ⊎ (HasWay h leg × HasWay h start) → list_from h leg.from leg.to ≡ [] → after ≡ now + 1 → now ≡ before + 2 * length done + length legs
    → (relaxed h edge dir at ≡ NoWay) × (after ≡ before + 1)
none_by h edge dir at start leg legs done before now after first (inl (same, none, nothing)) empty one steps =
    let none_ : length legs ≡ 0 = ap length none in
    let nothing_ : length done ≡ 0 = ap length nothing in
    let list : list_from h start.from start.to ≡ [] = subst (λ (l : Leg). list_from h l.from l.to ≡ []) same empty in
    (relaxed_by h edge dir at start first ∙ ap (λ (es : List Entry). answer_by h es (unpacked_walk h start.from start.to at) at) list, omega (arith, one, steps, none_, nothing_))
none_by h edge dir at start leg legs done before now after first (inr both) empty one steps = absurd (both.0 empty)

-- there was no way
pub on_way_none : {h k : HierarchyValue} {edge : ℕ} {dir : Dir} {at : ℕ} {pending : List ℕ} {spot : Spot} {before now after number : ℕ} {o : Option Driven}
    → (moved : List ℕ) → k ≡ h → IsOnWay h edge dir at pending spot before now number → WillDrive k pending spot moved now after o → o ≡ None
    → (relaxed h edge dir at ≡ NoWay) × (after ≡ before + 1)
on_way_none {h} {k} {edge} {dir} {at} {pending} {spot} {before} {now} {after} {number} {o} moved stays w drives none =
    let (empty, one) = subst (WillDrive h pending spot moved now after) none (drives_in pending moved spot now after o stays drives) w.leg w.legs w.place in
    none_by h edge dir at w.start w.leg w.legs w.done before now after w.first w.under.ways empty one w.steps

-- the answer of a list with a way, by how long the walk is
pub answer_at : (h : HierarchyValue) (es : List Entry) (walk : List ℕ) (t : ℕ) → es ≢ [] → length walk < h.network.nodes → answer_by h es walk t ≡ At (drive h.network walk t)
answer_at h [] walk t some lt = absurd (some refl)
answer_at h (x ∷ es) walk t some lt = let short : ltb (length walk) h.network.nodes ≡ true = grind (arith, lt) in rw short refl

pub answer_long : (h : HierarchyValue) (es : List Entry) (walk : List ℕ) (t : ℕ) → es ≢ [] → h.network.nodes ≤ length walk → answer_by h es walk t ≡ Long
answer_long h [] walk t some le = absurd (some refl)
answer_long h (x ∷ es) walk t some le = let long : ltb (length walk) h.network.nodes ≡ false = grind (arith, le) in rw long refl

-- the last road was driven
pub record Arrives (h : HierarchyValue) (edge : ℕ) (dir : Dir) (at : ℕ) (done : List ℕ) (road arrival before after : ℕ) : Type 0 where
  pub walk : walk_over h edge dir at ≡ done ++ (road ∷ [])
  pub answer : relaxed h edge dir at ≡ At arrival
  pub onward : at ≤ arrival
  pub near : arrival ≤ at + 2 ^ 38
  pub steps : after + 1 ≡ before + 2 * length (walk_over h edge dir at)

pub on_way_last : {h k : HierarchyValue} {edge : ℕ} {dir : Dir} {at : ℕ} {pending : List ℕ} {spot : Spot} {before now after number : ℕ} {d : Driven}
    → (moved : List ℕ) → k ≡ h → IsHierarchy h → (w : IsOnWay h edge dir at pending spot before now number) → WillDrive k pending spot moved now after (Some d) → d.rest ≡ None
    → number < h.network.nodes → Arrives h edge dir at w.done d.road d.arrival before after
on_way_last {h} {k} {edge} {dir} {at} {pending} {spot} {before} {now} {after} {number} {d} moved stays f w drives is short =
    let (left, has, walk, value, onward, near, rest) = drives_in pending moved spot now after (Some d) stays drives w.leg w.legs w.place in
    let (empty, steps) = subst (λ (o : Option Spot). IsLeft h w.legs moved d.arrival left now after o) is rest in
    let u = w.under in
    let done = w.done ++ (d.road ∷ []) in
    let whole : unpacked_walk h w.start.from w.start.to at ≡ done =
    on_way_whole h w.start at w.leg w.legs w.done spot.second d.road left u walk ∙ ap (λ (x : List ℕ). done ++ x) empty ∙ append-nil done in
    let over : walk_over h edge dir at ≡ done = walk_by h edge dir at w.start w.first ∙ whole in
    let long : length done ≡ length w.done + 1 = length_push w.done d.road in
    let same : length (unpacked_walk h w.start.from w.start.to at) ≡ length done = ap length whole in
    let same_ : length (walk_over h edge dir at) ≡ length done = ap length over in
    let count = w.count in
    let some = has_start h w.start w.leg w.legs w.done u.ways has in
    let e1 = u.onward in
    let e2 = u.near in
    let few = f.graph.few_ranks in
    let before_ = w.steps in
    record {
      walk = over;
      answer = relaxed_by h edge dir at w.start w.first
          ∙ answer_at h (list_from h w.start.from w.start.to) (unpacked_walk h w.start.from w.start.to at) at some (omega (arith, same, long, count, short))
          ∙ ap (λ (x : List ℕ). At (drive h.network x at)) whole
          ∙ ap At (drives_to h.network w.done d.road at spot.second d.arrival u.arrives value);
      onward = omega (arith, e1, onward);
      near = omega (arith, e2, near, count, short, few);
      steps = omega (arith, steps, before_, same_, long);
    }

-- a leg with a way has a road
leg_some : (h : HierarchyValue) → IsHierarchy h → (pending : List ℕ) (spot : Spot) (leg : Leg) (legs : List Leg) (t : ℕ)
    → IsAt h pending spot leg legs → HasWay h leg → 0 < length (unpacked_walk h leg.from leg.to t)
leg_some h f pending spot leg legs t place has =
    let (ends, at, from, to) = place.here in
    let range = ends_range h f spot.edge ends at in
    let apart : leg.from ≢ leg.to = λ same. ends_apart ends spot.dir range.0 (sym from ∙ same ∙ to) in
    low_some h.network h.order leg.from (unpacked_walk h leg.from leg.to t) leg.to (unpacked-low h f leg.from leg.to t apart has)

both_have : (h : HierarchyValue) (start leg : Leg) (legs : List Leg) (done : List ℕ) → ((leg ≡ start) × (legs ≡ []) × (done ≡ []))
    ⊎ (HasWay h leg × HasWay h start) → 0 < length done → HasWay h leg × HasWay h start
both_have h start leg legs done (inl (same, none, nothing)) lt = let zero : length done ≡ 0 = ap length nothing in absurd (omega (arith, zero, lt))
both_have h start leg legs done (inr both) lt = both

-- as many roads were driven as there are nodes less one, and something is left
pub on_way_long : {h : HierarchyValue} {edge : ℕ} {dir : Dir} {at : ℕ} {pending : List ℕ} {spot : Spot} {before now number : ℕ}
    → IsHierarchy h → IsOnWay h edge dir at pending spot before now number → h.network.nodes ≤ number
    → (relaxed h edge dir at ≡ Long) × (number ≤ h.network.nodes → now ≤ before + 3 * h.network.nodes)
on_way_long {h} {edge} {dir} {at} {pending} {spot} f w last =
    let u = w.under in
    let room = w.place.room in
    let count = w.count in
    let both = both_have h w.start w.leg w.legs w.done u.ways (omega (arith, room, count, last)) in
    let some = leg_some h f pending spot w.leg w.legs spot.second w.place both.0 in
    let first = unpacked_walk h w.leg.from w.leg.to spot.second in
    let split : length (walk_on h (w.leg ∷ w.legs) spot.second) ≡ length first + length (walk_on h w.legs (drive h.network first spot.second)) = length-append first _ in
    let whole : length (unpacked_walk h w.start.from w.start.to at) ≡ length w.done + length (walk_on h (w.leg ∷ w.legs) spot.second) = ap length u.whole ∙ length-append w.done _ in
    let steps = w.steps in
    let waiting = waiting_count h pending spot.waiting w.legs w.place.waiting in (
      relaxed_by h edge dir at w.start w.first
          ∙ answer_long h (list_from h w.start.from w.start.to) (unpacked_walk h w.start.from w.start.to at) at both.1 (omega (arith, whole, split, some, count, last)),
      λ le. omega (arith, steps, waiting, room, count, le),
    )

-- the walk, cut before the road that was driven
pub on_way_cut : {h k : HierarchyValue} {edge : ℕ} {dir : Dir} {at : ℕ} {pending : List ℕ} {spot : Spot} {before now number : ℕ}
    → (moved : List ℕ) (after : ℕ) (d : Driven) → k ≡ h → (w : IsOnWay h edge dir at pending spot before now number) → WillDrive k pending spot moved now after (Some d)
    → (left : List ℕ) × (walk_over h edge dir at ≡ w.done ++ (d.road ∷ left))
on_way_cut {h} {k} {edge} {dir} {at} {pending} {spot} {before} {now} moved after d stays w drives =
    let (left, has, walk, value, onward, near, rest) = drives_in pending moved spot now after (Some d) stays drives w.leg w.legs w.place in
    (left, walk_by h edge dir at w.start w.first ∙ w.under.whole ∙ ap (λ (x : List ℕ). w.done ++ x) walk)

not_both : (r : Relaxed) (arrival : ℕ) → r ≡ At arrival → r ≡ NoWay → ⊥
not_both r arrival p q = cc (p, q)

not_long : (r : Relaxed) (arrival : ℕ) → r ≡ At arrival → r ≡ Long → ⊥
not_long r arrival p q = cc (p, q)

pub same_arrival : (r : Relaxed) (a b : ℕ) → r ≡ At a → r ≡ At b → a ≡ b
same_arrival r a b p q = cc (p, q)

-- where the relaxation arrives there is a way at each look-up
pub arriving_some : (h : HierarchyValue) (edge : ℕ) (dir : Dir) (at : ℕ) → IsArriving h edge dir at → relaxed h edge dir at ≡ NoWay → ⊥
arriving_some h edge dir at answers none = not_both (relaxed h edge dir at) answers.0 answers.1 none

-- and the walk ends before as many roads were driven as there are nodes
pub arriving_short : (h : HierarchyValue) (edge : ℕ) (dir : Dir) (at : ℕ) → IsArriving h edge dir at → relaxed h edge dir at ≡ Long → ⊥
arriving_short h edge dir at answers long = not_long (relaxed h edge dir at) answers.0 answers.1 long
