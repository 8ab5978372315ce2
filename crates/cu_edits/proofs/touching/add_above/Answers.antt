use Rattle.std.proofs.Common.{◌≡◌, arith, length, get_or, subst}
use Rattle.std.proofs.lemmas.List.Elements.{Contains-get_or}
use Rattle.cu_chordal.specs.declared.graph.Ends.{Ends}
use Rattle.cu_chordal.proofs.Members.{member_at}
use Rattle.cu_chordal.proofs.Tables.{edge_within}
use Rattle.cu_edits.proofs.AddingEdges.{IsToFirst, adds_none, to_all_above, to_first_more}
use Rattle.cu_edits.proofs.touching.add_above.Goals as goal

pub loop-high-init : goal.loop-high-init
loop-high-init c =
    let edges = c.args.graph.now.edges in
    adds_none edges (IsToFirst edges c.up-high-items.result.now c.ends-ends.result.high 0) c.args.buckets.now (λ e t. omega (arith, t.1))

pub add_between-requires-clause-first : goal.add_between-requires-clause-first
add_between-requires-clause-first c =
    let ups = c.up-high-items.result.now in
    let side = (c.up-high-items.ensures.members (get_or ups c.loop-high.high-index 0)).0 (Contains-get_or ups c.loop-high.high-index 0 c.loop-high-test.true) in
    (edge_within c.args.graph.now c.ends-ends.ensures.sound c.ends-ends.result.low (get_or ups c.loop-high.high-index 0) side).1

pub add_between-requires-clause-second : goal.add_between-requires-clause-second
add_between-requires-clause-second c =
    let ends = c.ends-ends.result in
    (edge_within c.args.graph.now c.ends-ends.ensures.sound ends.low ends.high (member_at c.args.graph.now.edges ends c.args.edge c.ends-ends.ensures.there)).1

pub add_between-requires-clause-onward : goal.add_between-requires-clause-onward
add_between-requires-clause-onward c =
    let ends = c.ends-ends.result in
    let ups = c.up-high-items.result.now in
    let side = (c.up-high-items.ensures.members (get_or ups c.loop-high.high-index 0)).0 (Contains-get_or ups c.loop-high.high-index 0 c.loop-high-test.true) in
    let first = (edge_within c.args.graph.now c.ends-ends.ensures.sound ends.low (get_or ups c.loop-high.high-index 0) side).0 in
    let second = (edge_within c.args.graph.now c.ends-ends.ensures.sound ends.low ends.high (member_at c.args.graph.now.edges ends c.args.edge c.ends-ends.ensures.there)).0 in
    let (same, there, low) = c.requires.last in
    let is : same ≡ ends = cc (there, c.ends-ends.ensures.there) in
    let last : ends.low ≡ c.args.buckets.now.last = subst (λ (x : Ends). x.low ≡ c.args.buckets.now.last) is low in
    omega (arith, first, second, last, c.loop-high.invariant.last)

pub loop-high-preserved : goal.loop-high-preserved
loop-high-preserved c =
    to_first_more c.args.graph.now.edges c.up-high-items.result.now c.ends-ends.result.high c.loop-high.high-index c.args.buckets.now c.loop-high.buckets
    c.add_between.new.buckets c.loop-high.invariant c.add_between.ensures

pub returns : goal.returns
returns c =
    let all : c.loop-high.high-index ≡ length c.up-high-items.result.now = omega (arith, c.loop-high-test.false, c.loop-high.auto.high-index-end) in
    to_all_above c.args.graph.now c.args.edge c.ends-ends.result c.up-high-items.result.now c.loop-high.high-index c.args.buckets.now c.loop-high.buckets
    c.ends-ends.ensures.there c.up-high-items.ensures.members all c.loop-high.invariant
