use Rattle.std.proofs.Common.{ℕ, List, subst, sym, true}
use Rattle.cu_pack.specs.Checks.{Spells, sealed}
use Rattle.cu_pack.specs.Reading.{decoded}
use Rattle.cu_pack.proofs.Read.Bodies.{spelled_sealed}
use Rattle.cu_interval.specs.Hierarchies.{HierarchyValue}
use Rattle.cu_bounds.specs.Near.{AreNear}
use Rattle.cu_router.proofs.HeldLaws.{decoded_is, held_new, sealed_spells, spells_sealed}
use Rattle.cu_router.proofs.held_file.HeldFile.knowing.Goals as goal

pub invariant_of-result : goal.invariant_of-result
invariant_of-result c =
    let h = c.adopt.result in
    let bytes = c.args.bytes.items in
    let spells = subst (λ (bytes : List ℕ). Spells bytes h) c.deref.ensures.value c.adopt.ensures.spells in
    let holds = held_new bytes h true _ _ _ (record {
      spelled = sealed_spells bytes h spells;
      digest = λ _. spelled_sealed bytes h spells;
      chordal = c.in_ok-graph.ensures.graph;
      tree = c.in_ok-graph.ensures.tree;
      knows = c.requires.known h spells;
    }) in
    let said = sym (decoded_is (sealed bytes) h (sealed_spells bytes h spells)) in (
      holds,
      c.requires.walks (decoded (sealed bytes)) (spells_sealed bytes h spells),
      subst (λ (g : HierarchyValue). AreNear g c.in_ok-graph.bounds) said c.in_ok-graph.ensures.bounds,
    )

pub returns : goal.returns
returns c =
    let h = c.adopt.result in
    let spells = subst (λ (bytes : List ℕ). Spells bytes h) c.deref.ensures.value c.adopt.ensures.spells in
    record { held = spells_sealed c.args.bytes.items h spells }
