use Rattle.std.proofs.Common.{◌≡◌, ◌∙◌, arith, length}
use Rattle.cu_edits.specs.Steps.Spreading.{IsOfRoad}
use Rattle.cu_edits.proofs.FoundLaws.{first_more, found_roads}
use Rattle.cu_edits.proofs.finding.find_roads.Goals as goal

pub loop-arc-preserved : goal.loop-arc-preserved
loop-arc-preserved g c = record {
  edges = c.in_ok-find_road.ensures.edges ∙ c.loop-arc.invariant.edges;
  added = first_more (λ arc. IsOfRoad (g.W.Ways.hierarchy c.args.ways.now) arc) c.args.arcs.now c.loop-arc.arc-index c.args.found.now.found c.loop-arc.found.found
      c.find_road.new.found.found c.loop-arc.invariant.added c.in_ok-find_road.ensures.added;
}

pub returns-clause-added : goal.returns-clause-added
returns-clause-added g c =
    let all : c.loop-arc.arc-index ≡ length c.args.arcs.now = omega (arith, c.loop-arc-test.false, c.loop-arc.auto.arc-index-end) in
    found_roads (g.W.Ways.hierarchy c.args.ways.now) c.args.arcs.now c.loop-arc.arc-index c.args.found.now.found c.loop-arc.found.found all c.loop-arc.invariant.added
