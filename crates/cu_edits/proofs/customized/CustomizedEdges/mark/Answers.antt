use Rattle.std.proofs.Common.{◌+◌, ◌∙◌, Bool, List, true, ap, sym, length, drop}
use Rattle.std.specs.Prelude.{slice_set}
use Rattle.std.proofs.lemmas.List.{at_drop_all, at_drop_more, length-set}
use Rattle.cu_interval.specs.declared.ways.TouchedEdge.{TouchedEdge}
use Rattle.cu_edits.specs.Customized.{marked}
use Rattle.cu_edits.proofs.customized.CustomizedEdges.mark.Goals as goal

pub edges-init : goal.edges-init
edges-init c = record {
  long = ap length c.self.view_is;
  marked = ap (λ (marks : List Bool). marked marks c.args.touched.now) c.self.view_is;
}

pub edges-preserved : goal.edges-preserved
edges-preserved c =
    let marks = c.edges.self-inside.marks.items in
    let touched = c.args.touched.now in
    let index = c.edges.settled-index in
    let settled = c.settled-item.result in
    let step = at_drop_more (marked marks) touched index settled c.edges-test.true in
    let same = ap (λ (t : TouchedEdge). marked (slice_set marks t.edge true) (drop (index + 1) touched)) (sym c.settled-item.is) in
    record {
      long = length-set marks settled.edge true ∙ c.edges.invariant.long;
      marked = sym (step ∙ same) ∙ c.edges.invariant.marked;
    }

pub returns : goal.returns
returns c =
    let marks = c.edges.self-inside.marks.items in
    sym (at_drop_all (marked marks) c.args.touched.now c.edges.settled-index c.edges-test.false) ∙ c.edges.invariant.marked
