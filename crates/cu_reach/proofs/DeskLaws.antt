-- The labels of all ranks, by the places of a sweep.
use Rattle.std.proofs.Common.{◌≡◌, ◌<◌, ◌+◌, ◌∙◌, ℕ, Option, Some, None, length, refl, ap, subst, arith}
use Rattle.std.specs.Prelude.{All, slice_get}
use Rattle.std.proofs.lemmas.List.Elements.{All-contains}
use Rattle.std.proofs.lemmas.List.FromFn.{get_or-map-range_with_len, length-map-range_with_len}
use Rattle.std.proofs.lemmas.Option.{slice_get-get_or, slice_get_within}
use Rattle.cu_interval.specs.declared.relaxing.Call.{Call}
use Rattle.cu_interval.specs.Hierarchies.{HierarchyValue}
use Rattle.cu_sweep.specs.Places.{second_at}
use Rattle.cu_sweep.specs.Swept.{IsSweptDown, LabelsValue, Sweep}
use Rattle.cu_sweep.specs.ToAll.{AreReached, AreTimesWhereBuilt, IsTime}
use Rattle.cu_reach.specs.Reaching.{HoldsLabelsOver, HoldsReached, IsAllWhereBuilt, labels_of, reached_by}

pub labels_count : (labels : LabelsValue) → length (labels_of labels) ≡ labels.nodes
labels_count labels = length-map-range_with_len (λ rank. second_at labels.seconds (labels.nodes + rank)) 0 labels.nodes

pub label_at : (labels : LabelsValue) (rank : ℕ) → rank < labels.nodes
    → slice_get (labels_of labels) rank ≡ Some (second_at labels.seconds (labels.nodes + rank))
label_at labels rank lt =
    let count = labels_count labels in
    slice_get-get_or (labels_of labels) rank None (omega (arith, count, lt))
    ∙ ap (λ (second : Option ℕ). Some second) (get_or-map-range_with_len (λ place. second_at labels.seconds (labels.nodes + place)) 0 labels.nodes rank rank None lt (omega arith))

pub holds_reached : (h : HierarchyValue) (from second : ℕ) (labels : LabelsValue) (long : Option Call) → labels.nodes ≡ h.network.nodes
    → (long ≡ None → AreReached h from second labels) → HoldsReached h from second (reached_by long) (labels_of labels)
holds_reached h from second labels None nodes reached =
    (labels_count labels ∙ nodes, λ rank lt. label_at labels rank (omega (arith, nodes, lt)) ∙ ap (λ (label : Option ℕ). Some label) (reached refl rank lt).second)
holds_reached h from second labels (Some call) nodes reached = tt

-- after a sweep down over a path its ranks have theirs
pub holds_over : (h : HierarchyValue) (q : Sweep) (labels : LabelsValue) → labels.nodes ≡ h.network.nodes → All (λ rank. rank < h.network.nodes) q.path
    → IsSweptDown h q labels → HoldsLabelsOver h q.from q.second q.path (labels_of labels)
holds_over h q labels nodes below swept = (
  labels_count labels ∙ nodes,
  λ rank member.
      let lt = All-contains (λ rank. rank < h.network.nodes) q.path rank below member in
      label_at labels rank (omega (arith, nodes, lt)) ∙ ap (λ (label : Option ℕ). Some label) (swept rank member).second,
)

pub least_where_built : (h : HierarchyValue) (from second : ℕ) (labels : LabelsValue) (long : Option Call) → AreTimesWhereBuilt h from second long labels
    → IsAllWhereBuilt h from second (reached_by long) (labels_of labels)
least_where_built h from second labels long least = record {
  done = λ built. ap reached_by (least built).0;
  least = λ built u v rank label start stop at.
      let within = slice_get_within (labels_of labels) rank label at in
      let count = labels_count labels in
      let same : second_at labels.seconds (labels.nodes + rank) ≡ label = let is = label_at labels rank (omega (arith, within, count)) in cc (at, is) in
      subst (IsTime h.network u v second) same ((least built).1 rank u v start stop);
}
