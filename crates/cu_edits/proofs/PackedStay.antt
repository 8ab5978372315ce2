-- Packed runs of a list in a hierarchy are those of its list in another that agrees with it on all that the list leads over.
use Rattle.std.proofs.Common.{◌≡◌, ◌≢◌, ◌∙◌, ℕ, suc, List, [], Option, Some, None, arith, min, sym, subst}
use Rattle.std.specs.Prelude.{slice_get}
use Rattle.cu_arrival.specs.declared.runs.Run.{Run}
use Rattle.cu_arrival.specs.Runs.{arrival_value}
use Rattle.cu_chordal.specs.declared.graph.Ends.{Ends}
use Rattle.cu_interval.specs.declared.ways.Dir.{Dir}
use Rattle.cu_interval.specs.declared.ways.Entry.{Entry}
use Rattle.cu_interval.specs.Hierarchies.{HierarchyValue, end_of, list_of, start_of}
use Rattle.cu_unpack.specs.RebuiltRuns.{IsRebuiltRuns}
use Rattle.cu_edits.specs.Steps.Frames.{IsFrame}
use Rattle.cu_edits.proofs.Frames.{rebuilt_same, rebuilt_stays}

pub packed_stay : (a b : HierarchyValue) (Pair : ℕ → ℕ → Type 0) → IsFrame a b Pair → (edges : List Ends) → a.edges ≡ edges → b.edges ≡ edges → (e : ℕ) (dir : Dir) (function : Option (List Run))
    → ((ends : Ends) → slice_get edges e ≡ Some ends → Pair (start_of ends dir) (end_of ends dir)) → list_of b e dir ≡ list_of a e dir → IsRebuiltRuns a e dir function
    → IsRebuiltRuns b e dir function
packed_stay a b Pair frame edges of_a of_b e dir None pair list is = list ∙ is
packed_stay a b Pair frame edges of_a of_b e dir (Some runs) pair list (some, is, onward, values) = (
  subst (λ (es : List Entry). es ≢ []) (sym list) some,
  is,
  onward,
  rebuilt_stays a b Pair frame edges of_a of_b e dir (arrival_value runs) pair values,
)

-- and the other way round
pub packed_back : (a b : HierarchyValue) (Pair : ℕ → ℕ → Type 0) → IsFrame a b Pair → a.edges ≡ b.edges → (e : ℕ) (dir : Dir) (runs : List Run)
    → ((ends : Ends) → slice_get a.edges e ≡ Some ends → Pair (start_of ends dir) (end_of ends dir)) → list_of a e dir ≡ list_of b e dir → IsRebuiltRuns b e dir (Some runs)
    → IsRebuiltRuns a e dir (Some runs)
packed_back a b Pair frame edges e dir runs pair list (some, is, onward, values) = (
  subst (λ (es : List Entry). es ≢ []) (sym list) some,
  is,
  onward,
  λ ends at t.
      let u = start_of ends dir in
      let v = end_of ends dir in
      rebuilt_same a b Pair frame (suc (min u v)) (suc (min u v)) u v t (pair ends at) (omega arith) (omega arith)
      ∙ values ends (subst (λ (es : List Ends). slice_get es e ≡ Some ends) edges at) t,
)
