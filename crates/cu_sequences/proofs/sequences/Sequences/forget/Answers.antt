use Rattle.std.proofs.Common.{ℕ, List, arith, ap, length, map, subst, sym}
use Rattle.std.proofs.lemmas.List.{with_items_is}
use Rattle.cu_interval.specs.declared.ways.TouchedEdge.{TouchedEdge}
use Rattle.cu_sequences.specs.Kept.{AreSequences, AreSequencesBut, SequencesValue}
use Rattle.cu_sequences.specs.Steps.Putting.{Forgets}
use Rattle.cu_sequences.proofs.Keeping.{sequences_left}
use Rattle.cu_sequences.proofs.sequences.Sequences.forget.Goals as goal

pub returns : goal.returns
returns c h kept =
    let edges = map (λ (touched : TouchedEdge). touched.edge) c.args.lists.now in
    let inside = c.self.inside in
    let roads = inside.roads.items in
    let now = c.forget_lists.new.starts in
    let but = subst (λ (s : SequencesValue). AreSequencesBut h s edges) (sym c.self.view_is) kept in
    let forgets = subst (λ (before : List ℕ). Forgets before now edges) c.deref_mut.ensures.value c.forget_lists.ensures in
    let left = sequences_left h inside.starts.items now roads edges forgets but in
    let same = with_items_is inside.starts now (omega (arith, c.forget_lists.auto.starts, c.deref_mut.ensures.len, ap length c.deref_mut.ensures.value)) in
    subst (λ (starts : List ℕ). AreSequences h (record { starts = starts; roads = roads })) (sym same) left
