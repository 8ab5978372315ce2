-- How many roads an unpacking came to.
use Rattle.std.proofs.Common.{◌≡◌, ◌≤◌, ◌<◌, ◌+◌, ◌∙◌, ℕ, List, ap, subst, arith, length}
use Rattle.cu_interval.specs.Hierarchies.{HierarchyValue, IsHierarchy}
use Rattle.cu_interval.specs.Unpacking.{unpacked_walk}
use Rattle.cu_recall.specs.declared.spans.Driven.{Driven}
use Rattle.cu_recall.specs.declared.pending.Asked.{Asked}
use Rattle.cu_recall.specs.declared.pending.Pending.{Pending}
use Rattle.cu_recall.specs.declared.pending.Spot.{Spot}
use Rattle.cu_recall.specs.Spans.{IsListFrom}
use Rattle.cu_recall.specs.Windows.{HoldsDriven}
use Rattle.cu_recall.specs.Steps.InWork.{IsSomewhere}
use Rattle.cu_recall.proofs.Answering.{takes_near}
use Rattle.cu_recall.proofs.ListEnds.{list_apart, same_end, same_start}
use Rattle.cu_recall.proofs.Working.{work_long}

module _ (h : HierarchyValue) (f : IsHierarchy h) (pending : List Pending) (spot : Spot) (driven : Driven) (somewhere : IsSomewhere h pending spot)
    (holds : HoldsDriven h spot.next.list spot.next.second driven) where
  -- what is driven has a road
  pub some_roads : 0 < driven.roads
  some_roads =
      let (x, y, is) = somewhere in
      let done = holds x y is.list in
      let some = done.window.1 in
      (takes_near h f x y spot.next.second driven.travel driven.roads (list_apart h f spot.next.list x y is.list) (done.takes spot.next.second (omega arith, omega (arith, some)))).0

  -- the whole has as many roads, and more
  pub whole_long : (whole : Asked) → spot.whole ≡ whole → (u v : ℕ) → IsListFrom h whole.list u v → spot.roads + driven.roads ≤ length (unpacked_walk h u v whole.second)
  whole_long whole same u v list =
      let (x, y, is) = somewhere in
      let done = holds x y is.list in
      let some = done.window.1 in
      let count = (done.takes spot.next.second (omega arith, omega (arith, some))).1 in
      let (a, b, there, le) = work_long h f spot.whole pending spot.depth x y spot.next.second spot.roads is.below in
      let here : IsListFrom h whole.list a b = subst (λ (w : Asked). IsListFrom h w.list a b) same there in
      let from = same_start h whole.list a b u v here list in
      let to = same_end h whole.list a b u v here list in
      let walks : length (unpacked_walk h a b spot.whole.second) ≡ length (unpacked_walk h u v whole.second) =
      ap (λ (w : Asked). length (unpacked_walk h a b w.second)) same ∙ ap (λ (n : ℕ). length (unpacked_walk h n b whole.second)) from ∙ ap (λ (n : ℕ). length (unpacked_walk h u n whole.second)) to in
      omega (arith, le, count, walks)
