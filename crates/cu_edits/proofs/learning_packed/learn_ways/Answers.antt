use Rattle.std.proofs.Common.{◌≡◌, arith, rules, subst, true}
use Rattle.std.specs.Prelude.{All}
use Rattle.cu_chordal.specs.declared.graph.Ends.{Ends}
use Rattle.cu_interval.specs.declared.ways.Entry.{Entry}
use Rattle.cu_interval.specs.Hierarchies.{list_of}
use Rattle.cu_edits.specs.Steps.Packed.{IsWayAtHand}
use Rattle.cu_edits.proofs.FirstOnes.{all_next, all_of_first}
use Rattle.cu_edits.proofs.LearntPacked.{learns_then, ways_still}
use Rattle.cu_edits.proofs.SettlingNext.{ends_within}
use Rattle.cu_edits.proofs.AtHand.{entry_formed}
use Rattle.cu_edits.proofs.learning_packed.learn_ways.Goals as goal

pub loop-index-preserved : goal.loop-index-preserved
loop-index-preserved g c =
    let h = c.args.parts.now.before in
    let moved = c.args.asked.now.moved.now in
    let edges = c.args.parts.now.graph.edges in
    let list = list_of h c.args.asked.now.edge c.args.asked.now.dir in
    let mid = c.loop-index.packed in
    let now = c.learn_way.new.packed in
    let learns = c.in_ok-learn_way.ensures.learns in
    let near : c.in_ok-learn_way.field-0 ≡ true = search rules in
    record {
      learns = learns_then h c.args.packed.now mid now c.loop-index.invariant.learns learns;
      known = all_next (λ (entry : Entry). IsWayAtHand moved now edges c.ends-ends.result c.args.asked.now.dir entry.way) list c.loop-index.index c.entry-entry.result c.entry-entry.ensures.there
          (ways_still h moved mid now learns edges c.ends-ends.result c.args.asked.now.dir _ c.loop-index.invariant.known) (c.in_ok-learn_way.ensures.known near);
    }

pub returns-clause-known : goal.returns-clause-known
returns-clause-known g c is ends at =
    let h = c.args.parts.now.before in
    let moved = c.args.asked.now.moved.now in
    let edges = c.args.parts.now.graph.edges in
    let list = list_of h c.args.asked.now.edge c.args.asked.now.dir in
    let same : c.ends-ends.result ≡ ends = cc (c.ends-ends.ensures.there, at) in
    let long = c.entries-index-end.ensures.count in
    let known = all_of_first (λ (entry : Entry). IsWayAtHand moved c.loop-index.packed edges c.ends-ends.result c.args.asked.now.dir entry.way) list c.loop-index.index
    (omega (arith, long, c.loop-index-test.false)) c.loop-index.invariant.known in
    subst (λ (e : Ends). All (λ (entry : Entry). IsWayAtHand moved c.loop-index.packed edges e c.args.asked.now.dir entry.way) list) same known

pub learn_way-requires-clause-formed : goal.learn_way-requires-clause-formed
learn_way-requires-clause-formed g c =
    entry_formed c.args.parts.now.before c.args.parts.now.graph c.ends-ends.ensures.fit.0.hierarchy c.args.asked.now.edge c.ends-ends.result c.args.asked.now.dir c.loop-index.index c.entry-entry.result
    c.ends-ends.ensures.there c.entry-entry.ensures.there

pub learn_way-requires-clause-ranks : goal.learn_way-requires-clause-ranks
learn_way-requires-clause-ranks g c = ends_within c.args.parts.now.graph c.args.asked.now.edge c.ends-ends.result c.ends-ends.ensures.sound c.ends-ends.ensures.there

pub learn_way-requires-clause-packed : goal.learn_way-requires-clause-packed
learn_way-requires-clause-packed g c = c.loop-index.invariant.learns.packed

pub returns-in_err-learn_way-clause-learns : goal.returns-in_err-learn_way-clause-learns
returns-in_err-learn_way-clause-learns g c =
    learns_then c.args.parts.now.before c.args.packed.now c.loop-index.packed c.learn_way.new.packed c.loop-index.invariant.learns c.learn_way.ensures.learns

pub returns-then-not-branch-clause-learns : goal.returns-then-not-branch-clause-learns
returns-then-not-branch-clause-learns g c =
    learns_then c.args.parts.now.before c.args.packed.now c.loop-index.packed c.learn_way.new.packed c.loop-index.invariant.learns c.learn_way.ensures.learns

pub returns-clause-learns : goal.returns-clause-learns
returns-clause-learns g c = c.loop-index.invariant.learns
