use Rattle.std.proofs.Common.{◌≤◌, ◌∙◌, ℕ, Some, ap, sym, arith, below_more}
use Rattle.cu_chordal.specs.declared.graph.Ends.{Ends}
use Rattle.cu_pack.specs.Reading.{edge_start}
use Rattle.cu_pack.specs.Steps.Ways.{AreBothRight}
use Rattle.cu_pack.proofs.Read.EdgesRead.{edge_there, next_edge, starts_within}
use Rattle.cu_pack.proofs.checks.ways.wrong_list_of.Goals as goal

pub upper-requires : goal.upper-requires
upper-requires c =
    let bytes = c.args.sections.now in
    let within = starts_within bytes c.requires.graph c.args.low c.requires.low in
    let less = c.loop-edge-test.true in
    let last = c.edge_start-edge-end.ensures.start ∙ next_edge bytes c.requires.graph c.args.low in
    record { edge = omega (arith, within, less, last) }

pub wrong_dir-requires-clause-ends : goal.wrong_dir-requires-clause-ends
wrong_dir-requires-clause-ends c =
    let bytes = c.args.sections.now in
    let less = c.loop-edge-test.true in
    let last = c.edge_start-edge-end.ensures.start ∙ next_edge bytes c.requires.graph c.args.low in
    let made : ℕ → Ends = λ high. record { low = c.args.low; high = high } in
    edge_there bytes c.requires.graph c.args.low c.requires.low c.loop-edge.edge (omega (arith, c.loop-edge.auto.edge, c.edge_start-edge.ensures.start)) (omega (arith, less, last))
    ∙ ap (λ high. Some (made high)) (sym c.upper.ensures.rank)

pub loop-edge-preserved : goal.loop-edge-preserved
loop-edge-preserved c =
    let bytes = c.args.sections.now in
    record {
      right = λ edge low high.
          below_more (λ (k : ℕ). edge_start bytes c.args.low ≤ k → AreBothRight bytes k) c.loop-edge.edge (λ k less from. c.loop-edge.invariant.right k from less)
          (λ from. c.in_default.ensures.dir) edge high low;
      follow = c.in_default.ensures.places;
    }
