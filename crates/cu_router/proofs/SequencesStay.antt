-- What edits don't touch keeps its walks, and so its sequences.
use Rattle.std.proofs.Common.{◌≡◌, ◌∙◌, ℕ, suc, List, Some, sym, ap, min}
use Rattle.std.specs.Prelude.{slice_get}
use Rattle.cu_model.specs.declared.roads.Edit.{Edit}
use Rattle.cu_chordal.specs.declared.graph.Ends.{Ends}
use Rattle.cu_interval.specs.Hierarchies.{HierarchyValue, IsHierarchy, end_of, start_of}
use Rattle.cu_interval.proofs.EndsLaws.{ends_apart, ends_range}
use Rattle.cu_resettled.specs.ResettlingAll.{IsResettledAll, IsTouchedEdgeBySome, NumbersTouchedBySome}
use Rattle.cu_resettled.proofs.RebuiltBelow.{AreReadAlike}
use Rattle.cu_resettled.proofs.ResettledPairs.{IsUntouched, edge_of_pair, untouched_alike}
use Rattle.cu_sequences.specs.Kept.{AreSequences, AreSequencesBut, SequencesValue}
use Rattle.cu_sequences.specs.Sequences.{IsSequence}
use Rattle.cu_store_edits.proofs.WalksAlike.{walks_by}

sequence_alike : (h k : HierarchyValue) (IsRead : ℕ → ℕ → Type 0) → AreReadAlike h k IsRead → (u v : ℕ) (roads : List ℕ) → IsRead u v → IsSequence h u v roads → IsSequence k u v roads
sequence_alike h k IsRead alike u v roads read (some, walk) = (
  λ none. some (alike.lists u v read ∙ none),
  λ t. sym (walks_by h k IsRead alike (suc (min u v)) u v t read).0 ∙ walk t,
)

-- the sequences that are kept before edits are right after them, but for the lists of the edges that some of them touch
pub sequences_stay : (old new : HierarchyValue) (edits : List Edit) (edges : List ℕ) (kept : SequencesValue) → IsHierarchy old → IsResettledAll old edits new → NumbersTouchedBySome old edits edges
    → AreSequences old kept → AreSequencesBut new kept edges
sequences_stay old new edits edges kept sound is touched are edge dir ends start at other there = λ some.
    (let back : slice_get old.edges edge ≡ Some ends = ap (λ (es : List Ends). slice_get es edge) (sym is.edges) ∙ at in
    let (place, sequence) = are edge dir ends start back there some in
    let range = ends_range old sound edge ends back in
    let off : IsTouchedEdgeBySome old edits edge → ⊥ = λ one. other ((touched.exact edge).1 one) in
    let pair : IsUntouched old edits (start_of ends dir) (end_of ends dir) =
    (ends_apart ends dir range.0, λ both. off (ends, back, edge_of_pair old.network old.order edits ends dir range.0 both)) in
    (place, sequence_alike old new (IsUntouched old edits) (untouched_alike old new edits sound is.network is.edges is.kept) (start_of ends dir) (end_of ends dir) _ pair sequence))
