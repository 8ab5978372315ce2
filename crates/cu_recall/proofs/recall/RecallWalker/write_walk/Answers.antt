use Rattle.std.proofs.Common.{◌<◌, ◌∙◌, ℕ, List, length, arith, sym, ap, subst}
use Rattle.cu_io.specs.Sinks.{Wrote}
use Rattle.cu_io.proofs.Appending.{wrote_same}
use Rattle.cu_interval.specs.Hierarchies.{HierarchyValue}
use Rattle.cu_interval.specs.Unpacking.{unpacked_walk}
use Rattle.cu_unpack.specs.Answers.{IsArriving, walk_over}
use Rattle.cu_drive.specs.RoadTexts.{driven_text}
use Rattle.cu_recall.specs.declared.pending.Asked.{Asked}
use Rattle.cu_recall.specs.Spans.{IsListFrom}
use Rattle.cu_recall.specs.Steps.Walks.{IsShortWalk}
use Rattle.cu_recall.proofs.Arriving.{short_walk, walk_asked}
use Rattle.cu_recall.proofs.ListEnds.{edge_list}
use Rattle.cu_recall.proofs.recall.RecallWalker.write_walk.Goals as goal

pub asked_of-asked-requires : goal.asked_of-asked-requires
asked_of-asked-requires g c =
    let inside = subst (λ (h : HierarchyValue). c.args.call.edge < length h.edges) (sym c.self.view_is) c.requires.edge in
    let few = c.self.invariant.0.1.graph.few_edges in
    omega (arith, inside, few)

pub walk_in-requires-clause-ground : goal.walk_in-requires-clause-ground
walk_in-requires-clause-ground g c =
    let invariant = c.self.invariant in
    record {
      sound = invariant.0.1;
      graph = invariant.0.0;
      sequences = invariant.2;
      size = invariant.3;
      knows = invariant.4;
    }

pub walk_in-requires-clause-short : goal.walk_in-requires-clause-short
walk_in-requires-clause-short g c =
    let h = c.self.inside.view.now in
    let inside = subst (λ (k : HierarchyValue). c.args.call.edge < length k.edges) (sym c.self.view_is) c.requires.edge in
    let answers = subst (λ (k : HierarchyValue). IsArriving k c.args.call.edge c.args.call.dir c.args.call.second) (sym c.self.view_is) c.requires.answers in
    subst (IsShortWalk h) (sym c.asked_of-asked.ensures) (short_walk h c.self.invariant.0.1 c.args.call.edge c.args.call.dir c.args.call.second inside answers)

pub returns-clause-wrote : goal.returns-clause-wrote
returns-clause-wrote g c =
    let h = c.self.inside.view.now in
    let asked = c.asked_of-asked.ensures in
    let inside = subst (λ (k : HierarchyValue). c.args.call.edge < length k.edges) (sym c.self.view_is) c.requires.edge in
    let (u, v, is) = edge_list h c.args.call.edge c.args.call.dir inside in
    let wrote = c.walk_in.ensures.wrote u v (subst (λ (a : Asked). IsListFrom h a.list u v) (sym asked) is) in
    let same = ap (λ (a : Asked). unpacked_walk h u v a.second) asked ∙ walk_asked h c.self.invariant.0.1 c.args.call.edge c.args.call.dir c.args.call.second u v is in
    subst (λ (k : HierarchyValue). Wrote (g.K.Sink.state c.args.sink.now) (g.K.Sink.state c.walk_in.new.sink)
    c.walk_in.result (driven_text (g.P.WalkForm.text c.args.form.now) k.network c.args.first (walk_over k c.args.call.edge c.args.call.dir c.args.call.second) c.args.call.second)) c.self.view_is
    (wrote_same (ap (λ (d : List ℕ). driven_text (g.P.WalkForm.text c.args.form.now) h.network c.args.first d c.args.call.second) same) wrote)
