-- The last list in work, and how long what it takes may be.
use Rattle.std.proofs.Common.{◌≡◌, ◌≢◌, ◌≤◌, ◌<◌, ◌+◌, ◌-◌, ◌*◌, ℕ, suc, List, get_or, sym, ap, subst, arith}
use Rattle.std.proofs.lemmas.Option.{get_or_from_slice_get}
use Rattle.cu_model.specs.declared.limits.TheConstants.{MAX_UNTIL}
use Rattle.cu_model.specs.Days.{day}
use Rattle.cu_interval.specs.Hierarchies.{HierarchyValue, IsHierarchy}
use Rattle.cu_recall.specs.declared.spans.Driven.{Driven}
use Rattle.cu_recall.specs.declared.pending.Asked.{Asked}
use Rattle.cu_recall.specs.declared.pending.Half.{Half}
use Rattle.cu_recall.specs.declared.pending.Half.TheVariants as half
use Rattle.cu_recall.specs.declared.pending.Pending.{Pending}
use Rattle.cu_recall.specs.Windows.{HoldsDriven, IsDriven}
use Rattle.cu_recall.specs.Steps.InWork.{IsDone, IsHalf, roads_before}
use Rattle.cu_recall.proofs.Answering.{takes_near}
use Rattle.cu_recall.proofs.ListEnds.{same_end, same_start}
use Rattle.cu_recall.proofs.Turning.{IsTop, done_top}
use Rattle.cu_recall.proofs.Working.{parted_formed}

pub done_last : (h : HierarchyValue) (whole : Asked) (pending : List Pending) (depth total : ℕ) (driven : Driven) (d : Pending) → 0 < depth → IsDone h whole pending depth total driven
    → IsTop h whole pending (depth - 1) total driven (get_or pending (depth - 1) d)
done_last h whole pending depth total driven d lt done =
    let one : depth ≡ suc (depth - 1) = omega (arith, lt) in
    let (p, top) = done_top h whole pending (depth - 1) total driven (subst (λ (n : ℕ). IsDone h whole pending n total driven) one done) in
    subst (λ (q : Pending). IsTop h whole pending (depth - 1) total driven q) (sym (get_or_from_slice_get pending (depth - 1) p d top.at)) top

half_apart : (h : HierarchyValue) (p : Pending) (half_ : Half) (u v m x y second : ℕ) → IsHalf h p half_ u v m x y second → m < u → m < v → x ≢ y
half_apart h p (half.First rest seen) u v m x y second (from, to, at, waits, sees) mu mv = λ same. omega (arith, from, to, mu, same)
half_apart h p (half.Second travel roads) u v m x y second (from, to, at, takes) mu mv = λ same. omega (arith, from, to, mv, same)

module _ (h : HierarchyValue) (f : IsHierarchy h) (whole : Asked) (pending : List Pending) (below total : ℕ) (driven : Driven) (p : Pending) (top : IsTop h whole pending below total driven p) where
  pub top_near : (driven.travel ≤ MAX_UNTIL * driven.roads) × (driven.roads ≤ total) × (p.asked.second < day)
  top_near =
      let formed = parted_formed h f p top.u top.v top.middle top.parted in
      let apart = half_apart h p p.half top.u top.v top.middle top.x top.y top.second top.in_work formed.0 formed.1 in
      let some = top.done.window.1 in
      let near = takes_near h f top.x top.y top.second driven.travel driven.roads apart (top.done.takes top.second (omega arith, omega (arith, some))) in
      let sum = top.sum in
      let w1 = top.parted.window.1 in
      let w2 = top.parted.window.2 in
      (near.1, omega (arith, sum), omega (arith, w1, w2))

  pub second_near : (travel roads : ℕ) → p.half ≡ half.Second travel roads → (travel ≤ MAX_UNTIL * roads) × (roads + driven.roads ≤ total)
  second_near travel roads is =
      let (from, to, at, takes) = subst (λ (k : Half). IsHalf h p k top.u top.v top.middle top.x top.y top.second) is top.in_work in
      let formed = parted_formed h f p top.u top.v top.middle top.parted in
      let mu = formed.0 in
      let w1 = top.parted.window.1 in
      let near = takes_near h f top.u top.middle p.asked.second travel roads (λ same. omega (arith, mu, same)) (takes p.asked.second (omega arith, omega (arith, w1))) in
      let sum = top.sum in
      let before : roads_before p.half ≡ roads = ap roads_before is in
      (near.1, omega (arith, sum, before))

  -- what driving its ranks takes is what driving its list does
  pub top_holds : (joined : Driven) → IsDriven h top.u top.v p.asked.second joined → HoldsDriven h p.asked.list p.asked.second joined
  top_holds joined done u v is =
      let from = same_start h p.asked.list top.u top.v u v top.parted.list is in
      let to = same_end h p.asked.list top.u top.v u v top.parted.list is in
      subst (λ (b : ℕ). IsDriven h u b p.asked.second joined) to (subst (λ (a : ℕ). IsDriven h a top.v p.asked.second joined) from done)
