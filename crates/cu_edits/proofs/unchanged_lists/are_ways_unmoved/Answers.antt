use Rattle.std.proofs.Common.{◌≡◌, arith, rules, subst, true}
use Rattle.std.specs.Prelude.{All}
use Rattle.cu_chordal.specs.declared.graph.Ends.{Ends}
use Rattle.cu_interval.specs.declared.ways.Entry.{Entry}
use Rattle.cu_interval.specs.Hierarchies.{list_of}
use Rattle.cu_edits.specs.Steps.Moving.{IsUnmovedWay}
use Rattle.cu_edits.proofs.AtHand.{entry_formed, ways_unmoved}
use Rattle.cu_edits.proofs.FirstOnes.{all_next, all_of_first}
use Rattle.cu_edits.proofs.SettlingNext.{ends_within}
use Rattle.cu_edits.proofs.unchanged_lists.are_ways_unmoved.Goals as goal

pub loop-index-preserved : goal.loop-index-preserved
loop-index-preserved g c =
    let h = c.args.parts.now.before in
    let unmoved : c.is_way_unmoved.result ≡ true = search rules in
    all_next (λ (entry : Entry). IsUnmovedWay h.network c.args.parts.now.edit c.args.parts.now.graph.edges c.args.moved.now c.ends-ends.result c.args.dir entry.way)
    (list_of h c.args.edge c.args.dir) c.loop-index.index c.entry-entry.result c.entry-entry.ensures.there c.loop-index.invariant (c.is_way_unmoved.ensures unmoved)

pub returns : goal.returns
returns g c is =
    let h = c.args.parts.now.before in
    let edges = c.args.parts.now.graph.edges in
    let list = list_of h c.args.edge c.args.dir in
    let long = c.entries-index-end.ensures.count in
    let all = all_of_first (λ (entry : Entry). IsUnmovedWay h.network c.args.parts.now.edit edges c.args.moved.now c.ends-ends.result c.args.dir entry.way) list c.loop-index.index
    (omega (arith, long, c.loop-index-test.false)) c.loop-index.invariant in
    ways_unmoved h c.args.parts.now.graph c.ends-ends.ensures.fit.0.hierarchy c.args.parts.now.edit c.args.parts.now.customized c.args.moved.now c.args.edge c.args.dir
    (λ ends at.
    let same : c.ends-ends.result ≡ ends = cc (c.ends-ends.ensures.there, at) in
    subst (λ (e : Ends). All (λ (entry : Entry). IsUnmovedWay h.network c.args.parts.now.edit edges c.args.moved.now e c.args.dir entry.way) list) same all)

pub is_way_unmoved-requires-clause-formed : goal.is_way_unmoved-requires-clause-formed
is_way_unmoved-requires-clause-formed g c =
    entry_formed c.args.parts.now.before c.args.parts.now.graph c.ends-ends.ensures.fit.0.hierarchy c.args.edge c.ends-ends.result c.args.dir c.loop-index.index c.entry-entry.result
    c.ends-ends.ensures.there c.entry-entry.ensures.there

pub is_way_unmoved-requires-clause-ranks : goal.is_way_unmoved-requires-clause-ranks
is_way_unmoved-requires-clause-ranks g c = ends_within c.args.parts.now.graph c.args.edge c.ends-ends.result c.ends-ends.ensures.sound c.ends-ends.ensures.there
