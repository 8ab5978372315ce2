-- Lists in work: one more, one less, how many there may be, and how many roads they have come to.
use Rattle.std.proofs.Common.{◌≡◌, ◌≤◌, ◌<◌, ◌+◌, ◌/◌, ◌%◌, ◌∙◌, ℕ, zero, suc, List, ◌++◌, Some, refl, sym, ap, subst, arith, length, length-append, min}
use Rattle.std.specs.Prelude.{slice_get, slice_set}
use Rattle.std.proofs.lemmas.Nat.{div-add-mod'}
use Rattle.cu_model.specs.Days.{day}
use Rattle.cu_model.specs.Roads.{drive}
use Rattle.cu_model.proofs.ListLaws.{get_here, get_other}
use Rattle.cu_interval.specs.declared.ways.Way.TheVariants.{Via}
use Rattle.cu_interval.specs.Hierarchies.{HierarchyValue, IsHierarchy, IsWellFormed}
use Rattle.cu_interval.specs.Unpacking.{unpacked_walk}
use Rattle.cu_interval.proofs.Fuel.{unpacked-via}
use Rattle.cu_interval.proofs.Lookups.{middles_fall, well_formed}
use Rattle.cu_recall.specs.declared.pending.Asked.{Asked}
use Rattle.cu_recall.specs.declared.pending.Half.{Half}
use Rattle.cu_recall.specs.declared.pending.Half.TheVariants as half
use Rattle.cu_recall.specs.declared.pending.Parted.{Parted}
use Rattle.cu_recall.specs.declared.pending.Pending.{Pending}
use Rattle.cu_recall.specs.declared.pending.Seen.{Seen}
use Rattle.cu_recall.specs.declared.pending.Spot.{Spot}
use Rattle.cu_recall.specs.Spans.{IsListFrom}
use Rattle.cu_recall.specs.Steps.Looks.{HoldsParted, HoldsSeen}
use Rattle.cu_recall.specs.Steps.InWork.{AreInWork, IsAt, IsHalf, IsParted, roads_before}
use Rattle.cu_interval.proofs.DayWalks.{walk_days}
use Rattle.cu_recall.proofs.ListEnds.{list_room}

-- lists in work stay so where more is written above them
pub work_kept : (h : HierarchyValue) (whole : Asked) (pending : List Pending) (i : ℕ) (p : Pending) (count x y second roads : ℕ) → count ≤ i
    → AreInWork h whole pending count x y second roads → AreInWork h whole (slice_set pending i p) count x y second roads
work_kept h whole pending i p zero x y second roads le work = work
work_kept h whole pending i p (suc below) x y second roads le (q, u, v, m, before, at, parted, half_, sum, rest) =
    (q, u, v, m, before, get_other pending i below p (λ same. omega (arith, le, same)) ∙ at, parted, half_, sum, work_kept h whole pending i p below u v q.asked.second before (omega (arith, le)) rest)

-- the middle of a parted list is below both its ranks
pub parted_formed : (h : HierarchyValue) → IsHierarchy h → (p : Pending) (u v m : ℕ) → IsParted h p u v m → IsWellFormed h u v (Via m)
parted_formed h f p u v m parted =
    let some = parted.window.1 in
    well_formed h f u v p.asked.second (Via m) (parted.way p.asked.second (omega arith, omega (arith, some)))

half_low : (h : HierarchyValue) (p : Pending) (half_ : Half) (u v m x y second : ℕ) → IsHalf h p half_ u v m x y second → m < u → m < v → min x y ≤ m
half_low h p (half.First rest seen) u v m x y second (from, to, at, waits, sees) mu mv = omega (arith, from, to, mu)
half_low h p (half.Second travel roads) u v m x y second (from, to, at, takes) mu mv = omega (arith, from, to, mv)

module _ (h : HierarchyValue) (f : IsHierarchy h) where
  -- no more are in work than there are ranks below
  pub work_room : (whole : Asked) (pending : List Pending) (count x y second roads : ℕ) → AreInWork h whole pending count x y second roads
      → min x y + count + 2 ≤ h.network.nodes
  work_room whole pending zero x y second roads (list, at, none) = let room = list_room h f whole.list x y list in omega (arith, room)
  work_room whole pending (suc below) x y second roads (p, u, v, m, before, at, parted, half_, sum, rest) =
      let formed = parted_formed h f p u v m parted in
      let mu = formed.0 in
      let mv = formed.1 in
      let low = half_low h p p.half u v m x y second half_ mu mv in
      let room = work_room whole pending below u v p.asked.second before rest in
      omega (arith, mu, mv, low, room)

  half_long : (p : Pending) (half_ : Half) (u v m x y second : ℕ) → IsParted h p u v m → IsHalf h p half_ u v m x y second
      → roads_before half_ + length (unpacked_walk h x y second) ≤ length (unpacked_walk h u v p.asked.second)
  half_long p (half.First rest seen) u v m x y second parted (from, to, at, waits, sees) =
      let some = parted.window.1 in
      let t = p.asked.second in
      let via = unpacked-via h (middles_fall h f) u v t m (parted.way t (omega arith, omega (arith, some))) in
      let first = unpacked_walk h u m t in
      let whole : length (unpacked_walk h u v t) ≡ length (first ++ unpacked_walk h m v (drive h.network first t)) = ap length via in
      let split = length-append first (unpacked_walk h m v (drive h.network first t)) in
      let same : unpacked_walk h x y second ≡ first = ap (λ (n : ℕ). unpacked_walk h n y second) from ∙ ap (λ (n : ℕ). unpacked_walk h u n second) to ∙ ap (λ (n : ℕ). unpacked_walk h u m n) at in
      let long = ap length same in
      omega (arith, whole, split, long)
  half_long p (half.Second travel roads) u v m x y second parted (from, to, at, takes) =
      let some = parted.window.1 in
      let t = p.asked.second in
      let via = unpacked-via h (middles_fall h f) u v t m (parted.way t (omega arith, omega (arith, some))) in
      let first = unpacked_walk h u m t in
      let (has, count, arrives) = takes t (omega arith, omega (arith, some)) in
      let next = drive h.network first t in
      let whole : length (unpacked_walk h u v t) ≡ length (first ++ unpacked_walk h m v next) = ap length via in
      let split = length-append first (unpacked_walk h m v next) in
      let on_day : unpacked_walk h m v next ≡ unpacked_walk h m v (next % day) =
      ap (λ (n : ℕ). unpacked_walk h m v n) (sym (div-add-mod' next day)) ∙ walk_days h f m v (next / day) (next % day) in
      let moment : second ≡ next % day = at ∙ ap (λ (n : ℕ). n % day) (sym arrives) in
      let same : unpacked_walk h x y second ≡ unpacked_walk h m v next =
      ap (λ (n : ℕ). unpacked_walk h n y second) from ∙ ap (λ (n : ℕ). unpacked_walk h m n second) to ∙ ap (λ (n : ℕ). unpacked_walk h m v n) moment ∙ sym on_day in
      let long = ap length same in
      omega (arith, whole, split, long, count)

  -- what was driven and the walk of the half in work are no more roads than the whole has
  pub work_long : (whole : Asked) (pending : List Pending) (count x y second roads : ℕ) → AreInWork h whole pending count x y second roads
      → (a b : ℕ) × IsListFrom h whole.list a b × (roads + length (unpacked_walk h x y second) ≤ length (unpacked_walk h a b whole.second))
  work_long whole pending zero x y second roads (list, at, none) =
      let same = ap (λ (n : ℕ). length (unpacked_walk h x y n)) at in
      (x, y, list, omega (arith, same, none))
  work_long whole pending (suc below) x y second roads (p, u, v, m, before, at, parted, half_, sum, rest) =
      let (a, b, list, le) = work_long whole pending below u v p.asked.second before rest in
      let more = half_long p p.half u v m x y second parted half_ in
      (a, b, list, omega (arith, le, more, sum))

  -- a list whose halves are found is in work, and its first half is next
  pub parts : (pending now : List Pending) (spot next : Spot) (parted : Parted) (first rest : Seen) (p : Pending) (x y : ℕ) → length pending ≡ h.network.nodes
      → IsAt h pending spot x y → HoldsParted h spot.next parted → HoldsSeen h parted.first first → HoldsSeen h parted.rest rest
      → p ≡ record { asked = spot.next; back = parted.back; ahead = parted.ahead; half = half.First parted.rest rest }
      → now ≡ slice_set pending spot.depth p
      → next ≡ record { whole = spot.whole; next = record { list = parted.first; second = spot.next.second }; seen = first; depth = suc spot.depth; roads = spot.roads }
      → (m : ℕ) × IsAt h now next x m × (m < x) × (m < y)
  parts pending now spot next parted first rest p x y long is (window, halves) sees waits same written moved =
      let (m, both, way) = halves x y is.list in
      let some = window.1 in
      let formed = well_formed h f x y spot.next.second (Via m) (way spot.next.second (omega arith, omega (arith, some))) in
      let made : Pending = record { asked = spot.next; back = parted.back; ahead = parted.ahead; half = half.First parted.rest rest } in
      let there : Spot = record { whole = spot.whole; next = record { list = parted.first; second = spot.next.second }; seen = first; depth = suc spot.depth; roads = spot.roads } in
      let room = work_room spot.whole pending spot.depth x y spot.next.second spot.roads is.below in
      let list : IsParted h made x y m = record { list = is.list; window = window; way = way } in
      let at : slice_get (slice_set pending spot.depth made) spot.depth ≡ Some made = get_here pending spot.depth made (omega (arith, room, long)) in
      let kept = work_kept h spot.whole pending spot.depth made spot.depth x y spot.next.second spot.roads (omega arith) is.below in
      let sum : spot.roads ≡ spot.roads + 0 = omega arith in
      let work : IsAt h (slice_set pending spot.depth made) there x m = record {
        list = both.0;
        some = formed.4;
        early = is.early;
        seen = sees;
        below = (made, x, y, m, spot.roads, at, list, (refl, refl, refl, both.1, waits), sum, kept);
      } in
      let set : now ≡ slice_set pending spot.depth made = written ∙ ap (λ (q : Pending). slice_set pending spot.depth q) same in
      (m, subst (λ (n : Spot). IsAt h now n x m) (sym moved) (subst (λ (ps : List Pending). IsAt h ps there x m) (sym set) work), formed.0, formed.1)
