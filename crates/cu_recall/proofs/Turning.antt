-- When the half in work was driven: the other half is next, or the list was driven.
use Rattle.std.proofs.Common.{◌≡◌, ◌+◌, ◌%◌, ℕ, suc, List, Some, refl, sym, ap, subst, arith, min}
use Rattle.std.specs.Prelude.{slice_get, slice_set}
use Rattle.std.proofs.lemmas.Nat.{mod_below}
use Rattle.std.proofs.lemmas.Option.{slice_get_within}
use Rattle.cu_model.specs.Days.{day}
use Rattle.cu_model.proofs.ListLaws.{get_here}
use Rattle.cu_interval.specs.Hierarchies.{HierarchyValue, IsHierarchy}
use Rattle.cu_recall.specs.declared.spans.Driven.{Driven}
use Rattle.cu_recall.specs.declared.pending.Asked.{Asked}
use Rattle.cu_recall.specs.declared.pending.Half.{Half}
use Rattle.cu_recall.specs.declared.pending.Half.TheVariants as half
use Rattle.cu_recall.specs.declared.pending.Pending.{Pending}
use Rattle.cu_recall.specs.declared.pending.Seen.{Seen}
use Rattle.cu_recall.specs.declared.pending.Spot.{Spot}
use Rattle.cu_recall.specs.Windows.{HoldsDriven, IsDriven}
use Rattle.cu_recall.specs.Steps.InWork.{AreInWork, IsAt, IsDone, IsHalf, IsParted, IsSomewhere, roads_before}
use Rattle.cu_recall.proofs.Joining.{joined_driven}
use Rattle.cu_recall.proofs.ListEnds.{same_end, same_start}
use Rattle.cu_recall.proofs.Working.{parted_formed, work_kept}

-- what was driven is at the list that was next
pub done_next : (h : HierarchyValue) (pending : List Pending) (spot : Spot) (driven : Driven) → IsSomewhere h pending spot → HoldsDriven h spot.next.list spot.next.second driven
    → IsDone h spot.whole pending spot.depth (spot.roads + driven.roads) driven
done_next h pending spot driven (x, y, is) holds = (x, y, spot.next.second, spot.roads, is.below, holds x y is.list, refl)

-- the last of those in work
pub record IsTop (h : HierarchyValue) (whole : Asked) (pending : List Pending) (below total : ℕ) (driven : Driven) (p : Pending) : Type 0 where
  pub u : ℕ
  pub v : ℕ
  pub middle : ℕ
  pub x : ℕ
  pub y : ℕ
  pub second : ℕ
  pub before : ℕ
  pub at : slice_get pending below ≡ Some p
  pub parted : IsParted h p u v middle
  pub in_work : IsHalf h p p.half u v middle x y second
  pub done : IsDriven h x y second driven
  pub sum : total ≡ before + roads_before p.half + driven.roads
  pub rest : AreInWork h whole pending below u v p.asked.second before

pub done_top : (h : HierarchyValue) (whole : Asked) (pending : List Pending) (below total : ℕ) (driven : Driven) → IsDone h whole pending (suc below) total driven
    → (p : Pending) × IsTop h whole pending below total driven p
done_top h whole pending below total driven (x, y, second, roads, (p, u, v, m, before, at, parted, half_, sum, rest), done, all) =
    (p, record { u = u; v = v; middle = m; x = x; y = y; second = second; before = before; at = at; parted = parted; in_work = half_; done = done; sum = omega (arith, all, sum); rest = rest })

-- the whole was driven where none is in work below
pub done_whole : (h : HierarchyValue) (whole : Asked) (pending : List Pending) (total : ℕ) (driven : Driven) → IsDone h whole pending 0 total driven
    → HoldsDriven h whole.list whole.second driven × (driven.roads ≡ total)
done_whole h whole pending total driven (x, y, second, roads, (list, at, none), done, all) = (
  λ u v is.
      let from = same_start h whole.list x y u v list is in
      let to = same_end h whole.list x y u v list is in
      subst (λ (n : ℕ). IsDriven h u v n driven) at (subst (λ (b : ℕ). IsDriven h u b second driven) to (subst (λ (a : ℕ). IsDriven h a y second driven) from done)),
  omega (arith, none, all),
)

module _ (h : HierarchyValue) (f : IsHierarchy h) (whole : Asked) (pending : List Pending) (below total : ℕ) (driven : Driven) (p : Pending) (top : IsTop h whole pending below total driven p) where
  -- the first half was driven, and the second is next
  pub first_done : (rest : ℕ) (seen : Seen) → p.half ≡ half.First rest seen → (q : Pending)
      → q ≡ record { asked = p.asked; back = min p.back driven.back; ahead = min p.ahead driven.ahead; half = half.Second driven.travel driven.roads }
      → (next : Spot) → next ≡ record { whole = whole; next = record { list = rest; second = (p.asked.second + driven.travel) % day }; seen = seen; depth = suc below; roads = total }
      → IsSomewhere h (slice_set pending below q) next
  first_done rest seen is q same next moved =
      let t = p.asked.second in
      let m = top.middle in
      let (from, to, at, waits, sees) = subst (λ (k : Half). IsHalf h p k top.u top.v m top.x top.y top.second) is top.in_work in
      let done : IsDriven h top.u m t driven = subst (λ (n : ℕ). IsDriven h top.u m n driven) at
      (subst (λ (b : ℕ). IsDriven h top.u b top.second driven) to (subst (λ (a : ℕ). IsDriven h a top.y top.second driven) from top.done)) in
      let w0 = top.parted.window.0 in
      let w1 = top.parted.window.1 in
      let w2 = top.parted.window.2 in
      let d1 = done.window.1 in
      let formed = parted_formed h f p top.u top.v m top.parted in
      let made : Pending = record { asked = p.asked; back = min p.back driven.back; ahead = min p.ahead driven.ahead; half = half.Second driven.travel driven.roads } in
      let there : Spot = record { whole = whole; next = record { list = rest; second = (t + driven.travel) % day }; seen = seen; depth = suc below; roads = total } in
      let list : IsParted h made top.u top.v m = record {
        list = top.parted.list;
        window = (omega (arith, w0), omega (arith, w1, d1), omega (arith, w2));
        way = λ s near. let low = near.0 in let high = near.1 in top.parted.way s (omega (arith, low), omega (arith, high));
      } in
      let inside = slice_get_within pending below p top.at in
      let sum = top.sum in
      let none : roads_before p.half ≡ 0 = ap roads_before is in
      let work : IsAt h (slice_set pending below made) there m top.v = record {
        list = waits;
        some = formed.5;
        early = mod_below (t + driven.travel) day (omega arith);
        seen = sees;
        below = (
          made,
          top.u,
          top.v,
          m,
          top.before,
          get_here pending below made inside,
          list,
          (refl, refl, refl, λ s near. let low = near.0 in let high = near.1 in done.takes s (omega (arith, low), omega (arith, high))),
          omega (arith, sum, none),
          work_kept h whole pending below made below top.u top.v t top.before (omega arith) top.rest,
        );
      } in
      subst (λ (n : Spot). IsSomewhere h (slice_set pending below q) n) (sym moved) (subst (λ (k : Pending). IsSomewhere h (slice_set pending below k) there) (sym same) (m, top.v, work))

  -- both halves were driven, and so was the list
  pub second_done : (travel roads : ℕ) → p.half ≡ half.Second travel roads → (joined : Driven)
      → joined ≡ record { back = min p.back driven.back; ahead = min p.ahead driven.ahead; travel = travel + driven.travel; roads = roads + driven.roads }
      → IsDriven h top.u top.v p.asked.second joined × IsDone h whole pending below total joined
  second_done travel roads is joined same =
      let t = p.asked.second in
      let m = top.middle in
      let (from, to, at, takes) = subst (λ (k : Half). IsHalf h p k top.u top.v m top.x top.y top.second) is top.in_work in
      let done : IsDriven h m top.v top.second driven = subst (λ (b : ℕ). IsDriven h m b top.second driven) to (subst (λ (a : ℕ). IsDriven h a top.y top.second driven) from top.done) in
      let first : Driven = record { back = p.back; ahead = p.ahead; travel = travel; roads = roads } in
      let one : IsDriven h top.u m t first = record { window = top.parted.window; takes = takes } in
      let formed = parted_formed h f p top.u top.v m top.parted in
      let mv = formed.1 in
      let w1 = top.parted.window.1 in
      let d1 = done.window.1 in
      let whole_ : Driven = record { back = min p.back driven.back; ahead = min p.ahead driven.ahead; travel = travel + driven.travel; roads = roads + driven.roads } in
      let both : IsDriven h top.u top.v t whole_ =
      joined_driven h f top.u m top.v t p.back p.ahead top.second first driven (λ e. omega (arith, mv, e)) top.parted.way top.parted.window (omega arith) (omega arith) one at done whole_
      (omega arith) (omega arith) (omega arith) (omega arith) (omega (arith, w1, d1)) refl refl in
      let sum = top.sum in
      let before : roads_before p.half ≡ roads = ap roads_before is in
      let all : IsDone h whole pending below total whole_ = (top.u, top.v, t, top.before, top.rest, both, omega (arith, sum, before)) in
      (subst (λ (d : Driven). IsDriven h top.u top.v t d) (sym same) both, subst (λ (d : Driven). IsDone h whole pending below total d) (sym same) all)
