use Rattle.std.proofs.Common.{◌≡◌, ◌∙◌, List, ℕ, arith, get_or, length, subst}
use Rattle.std.specs.List.{Contains}
use Rattle.std.proofs.lemmas.List.Elements.{Contains-get_or}
use Rattle.cu_chordal.proofs.Members.{member_at}
use Rattle.cu_chordal.proofs.Tables.{edge_within}
use Rattle.cu_edits.specs.Steps.Spreading.{IsBetween}
use Rattle.cu_edits.proofs.FoundLaws.{first_more, found_next}
use Rattle.cu_edits.proofs.Reached.{joined_among}
use Rattle.cu_edits.proofs.finding.find_next.Goals as goal

pub find_between-requires-clause-first : goal.find_between-requires-clause-first
find_between-requires-clause-first c =
    let joined = c.joined-high-items.result.now in
    let rank = get_or joined c.loop-high.high-index 0 in
    let ends = c.ends-ends.result in
    let own = subst (λ (rs : List ℕ). Contains rs rank) c.joined-high-items.ensures (Contains-get_or joined c.loop-high.high-index 0 c.loop-high-test.true) in
    let side = (c.up.ensures.members rank).0 (joined_among c.up.result.now ends.high rank own) in
    (edge_within c.args.graph.now c.ends-ends.ensures.sound ends.low rank side).1

pub find_between-requires-clause-second : goal.find_between-requires-clause-second
find_between-requires-clause-second c =
    let ends = c.ends-ends.result in
    (edge_within c.args.graph.now c.ends-ends.ensures.sound ends.low ends.high (member_at c.args.graph.now.edges ends c.args.edge c.ends-ends.ensures.there)).1

pub loop-high-preserved : goal.loop-high-preserved
loop-high-preserved c = record {
  edges = c.in_ok-find_between.ensures.edges ∙ c.loop-high.invariant.edges;
  added = first_more (λ rank. IsBetween c.args.graph.now.edges rank c.ends-ends.result.high) c.joined-high-items.result.now c.loop-high.high-index c.args.found.now.found
      c.loop-high.found.found c.find_between.new.found.found c.loop-high.invariant.added c.in_ok-find_between.ensures.added;
}

pub returns-clause-added : goal.returns-clause-added
returns-clause-added c =
    let all : c.loop-high.high-index ≡ length c.joined-high-items.result.now = omega (arith, c.loop-high-test.false, c.loop-high.auto.high-index-end) in
    found_next c.args.graph.now.edges c.args.edge c.ends-ends.result c.up.result.now c.joined-high-items.result.now c.loop-high.high-index c.args.found.now.found c.loop-high.found.found
    c.ends-ends.ensures.there c.up.ensures.exact c.joined-high-items.ensures all c.loop-high.invariant.added
