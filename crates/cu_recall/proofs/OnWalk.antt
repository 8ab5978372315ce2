-- A walk under way: what was written and what is left are the walk of its list.
use Rattle.std.proofs.Common.{◌≡◌, ◌≤◌, ◌<◌, ◌+◌, ◌%◌, ◌∙◌, ℕ, List, [], ◌∷◌, ◌++◌, None, Some, refl, sym, ap, subst, arith, length, append_assoc, length-append}
use Rattle.std.specs.Prelude.{slice_get}
use Rattle.std.proofs.lemmas.List.{append-nil}
use Rattle.cu_model.specs.Days.{day}
use Rattle.cu_model.specs.Roads.{drive}
use Rattle.cu_interval.specs.declared.shortcuts.Leg.{Leg}
use Rattle.cu_interval.specs.Hierarchies.{HierarchyValue, IsHierarchy}
use Rattle.cu_interval.specs.Unpacking.{unpacked_walk}
use Rattle.cu_interval.proofs.Unpacked.{unpacked-low}
use Rattle.cu_interval.proofs.Walks.{low_some}
use Rattle.cu_unpack.specs.Steps.Legs.{walk_on}
use Rattle.cu_recall.specs.declared.pending.Asked.{Asked}
use Rattle.cu_recall.specs.declared.walking.Glance.{Glance}
use Rattle.cu_recall.specs.declared.walking.NextPart.{NextPart}
use Rattle.cu_recall.specs.declared.walking.WalkSpot.{WalkSpot}
use Rattle.cu_recall.specs.Spans.{IsListFrom}
use Rattle.cu_recall.specs.Steps.Looks.{IsAsked}
use Rattle.cu_recall.specs.Steps.Walks.{AreWaiting, FindsPart, HoldsGlance, IsAt, IsNext, IsShortWalk, IsSomewhere, Resumes, roads_of}
use Rattle.cu_recall.proofs.ListEnds.{list_apart, list_room, same_end, same_start}
use Rattle.cu_recall.proofs.RoadByRoad.{legs_days, none_waits}

-- at least so many roads less one of the walk of a list were written
pub record IsOnWalk (h : HierarchyValue) (asked : Asked) (waiting : List Glance) (spot : WalkSpot) (number : ℕ) : Type 0 where
  pub leg : Leg
  pub legs : List Leg
  pub done : List ℕ
  pub place : IsAt h waiting spot leg legs
  pub whole : (u v : ℕ) → IsListFrom h asked.list u v → unpacked_walk h u v asked.second ≡ done ++ walk_on h (leg ∷ legs) spot.second
  pub count : number ≤ length done + 1

same_glance : (xs : List Glance) (i j : ℕ) (a b : Glance) → i ≡ j → slice_get xs i ≡ Some a → slice_get xs j ≡ Some b → a ≡ b
same_glance xs i j a b same p q = cc (same, p, q)

module _ (h : HierarchyValue) (f : IsHierarchy h) (asked : Asked) where
  pub walk_begun : (waiting : List Glance) (spot : WalkSpot) → IsAsked h asked → IsNext asked.list asked.second 0 spot → HoldsGlance h spot.next
      → (w : IsOnWalk h asked waiting spot 1) × (w.done ≡ [])
  walk_begun waiting spot (u, v, is, some, early) (list, second, none) holds =
      let room = list_room h f asked.list u v is in (
        record {
          leg = record { from = u; to = v };
          legs = [];
          done = [];
          place = record {
            list = subst (λ (n : ℕ). IsListFrom h n u v) (sym list) is;
            some = some;
            early = omega (arith, early, second);
            holds = holds;
            room = omega (arith, room, none);
            rest = none;
          };
          whole = λ x y at.
              ap (λ (n : ℕ). unpacked_walk h n y asked.second) (same_start h asked.list x y u v at is)
              ∙ ap (λ (n : ℕ). unpacked_walk h u n asked.second) (same_end h asked.list x y u v at is)
              ∙ ap (λ (n : ℕ). unpacked_walk h u v n) (sym second)
              ∙ sym (append-nil (unpacked_walk h u v spot.second));
          count = omega arith;
        },
        refl,
      )

  module _ (waiting : List Glance) (spot : WalkSpot) (number : ℕ) (w : IsOnWalk h asked waiting spot number) where
    pub walk_somewhere : IsSomewhere h waiting spot
    walk_somewhere = (w.leg, w.legs, w.place)

    -- a walk that is short isn't over before it is written
    pub walk_long : IsShortWalk h asked → h.network.nodes ≤ number → ⊥
    walk_long ((u, v, is, some, early), short) last =
        let leg = w.leg in
        let place = w.place in
        let first = unpacked_walk h leg.from leg.to spot.second in
        let low = unpacked-low h f leg.from leg.to spot.second (list_apart h f spot.next.list leg.from leg.to place.list) place.some in
        let one = low_some h.network h.order leg.from first leg.to low in
        let split : length (walk_on h (leg ∷ w.legs) spot.second) ≡ length first + length (walk_on h w.legs (drive h.network first spot.second)) = length-append first _ in
        let all : length (unpacked_walk h u v asked.second) ≡ length w.done + length (walk_on h (leg ∷ w.legs) spot.second) = ap length (w.whole u v is) ∙ length-append w.done _ in
        let count = w.count in
        absurd (omega (arith, short u v is, all, split, one, count, last))

    module _ (moved : List Glance) (found : NextPart) (finds : FindsPart h w.leg w.legs spot.second moved found) where
      -- the walk, cut before the part that was found
      pub walk_cut : (left : List ℕ) × ((u v : ℕ) → IsListFrom h asked.list u v → unpacked_walk h u v asked.second ≡ w.done ++ (roads_of found.part ++ left))
      walk_cut = let (rest, are, walk, few) = finds in (
        walk_on h rest (drive h.network (roads_of found.part) spot.second),
        λ u v is. w.whole u v is ∙ ap (λ (x : List ℕ). w.done ++ x) walk,
      )

      -- with it there are still fewer roads than nodes
      pub walk_few : IsShortWalk h asked → length w.done + length (roads_of found.part) < h.network.nodes
      walk_few ((u, v, is, some, early), short) =
          let (left, cut) = walk_cut in
          let all : length (unpacked_walk h u v asked.second) ≡ length w.done + length (roads_of found.part ++ left) = ap length (cut u v is) ∙ length-append w.done _ in
          let both = length-append (roads_of found.part) left in
          omega (arith, short u v is, all, both)

      -- where none waits it is the last
      pub walk_last : (second : ℕ) → Resumes moved found.waiting second None
          → (u v : ℕ) → IsListFrom h asked.list u v → unpacked_walk h u v asked.second ≡ w.done ++ roads_of found.part
      walk_last second zero u v is =
          let (rest, are, walk, few) = finds in
          let none = none_waits h moved found.waiting rest are zero in
          w.whole u v is ∙ ap (λ (x : List ℕ). w.done ++ x) walk
          ∙ ap (λ (legs : List Leg). w.done ++ (roads_of found.part ++ walk_on h legs (drive h.network (roads_of found.part) spot.second))) none
          ∙ ap (λ (x : List ℕ). w.done ++ x) (append-nil (roads_of found.part))

      next_by : (rest : List Leg) (next : WalkSpot) → 0 < length (roads_of found.part) → AreWaiting h moved found.waiting rest
          → walk_on h (w.leg ∷ w.legs) spot.second ≡ roads_of found.part ++ walk_on h rest (drive h.network (roads_of found.part) spot.second)
          → Resumes moved found.waiting (drive h.network (roads_of found.part) spot.second % day) (Some next)
          → (m : IsOnWalk h asked moved next (number + 1)) × (m.done ≡ w.done ++ roads_of found.part)
      next_by [] next any none walk (one, there, second) = absurd (omega (arith, none, one))
      next_by (leg ∷ legs) next any (below, glance, is, at, holds, list, room, some, more) walk (one, there, second) =
          let are : AreWaiting h moved found.waiting (leg ∷ legs) = (below, glance, is, at, holds, list, room, some, more) in
          let roads = roads_of found.part in
          let arrival = drive h.network roads spot.second in
          let same : below ≡ next.waiting = omega (arith, is, one) in
          let read : glance ≡ next.next = same_glance moved below next.waiting glance next.next same at there in
          let count = w.count in
          let long = length-append w.done roads in
          let on : walk_on h (leg ∷ legs) arrival ≡ walk_on h (leg ∷ legs) next.second =
          legs_days h f moved found.waiting (leg ∷ legs) arrival are ∙ ap (walk_on h (leg ∷ legs)) (sym second) in (
            record {
              leg = leg;
              legs = legs;
              done = w.done ++ roads;
              place = record {
                list = subst (λ (g : Glance). IsListFrom h g.list leg.from leg.to) read list;
                some = some;
                early = omega (arith, second);
                holds = subst (λ (g : Glance). HoldsGlance h g) read holds;
                room = omega (arith, room, same);
                rest = subst (λ (n : ℕ). AreWaiting h moved n legs) same more;
              };
              whole = λ u v from.
                  w.whole u v from ∙ ap (λ (x : List ℕ). w.done ++ x) (walk ∙ ap (λ (x : List ℕ). roads ++ x) on)
                  ∙ sym (append_assoc w.done roads (walk_on h (leg ∷ legs) next.second));
              count = omega (arith, count, long, any);
            },
            refl,
          )

      -- else the last that waits is next
      pub walk_next : (next : WalkSpot) → 0 < length (roads_of found.part) → Resumes moved found.waiting (drive h.network (roads_of found.part) spot.second % day) (Some next)
          → (m : IsOnWalk h asked moved next (number + 1)) × (m.done ≡ w.done ++ roads_of found.part)
      walk_next next any resumes = let (rest, are, walk, few) = finds in next_by rest next any are walk resumes
