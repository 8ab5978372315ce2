use Rattle.std.proofs.Common.{◌∙◌, ap, subst, sym, List}
use Rattle.std.specs.Prelude.{slice_get}
use Rattle.cu_chordal.specs.declared.graph.Ends.{Ends}
use Rattle.cu_interval.specs.Shortcuts.{AreHalfEdges}
use Rattle.cu_recall.proofs.Entries.{halves_at, middle_halves, middle_rank}
use Rattle.cu_recall.proofs.looking.halves.Goals as goal

pub find_halves-requires : goal.find_halves-requires
find_halves-requires c =
    let (h, same, middle) = c.requires.middle in
    middle_rank c.args.graph.now c.ends.ensures.sound h same c.args.edge c.args.dir c.args.middle middle

pub unreachable-requires : goal.unreachable-requires
unreachable-requires c =
    let (h, same, middle) = c.requires.middle in
    let (first, second, are) = middle_halves c.args.graph.now.edges h same c.args.edge c.args.dir c.args.middle c.ends.result middle c.ends.ensures.there in
    c.in_default.ensures.found first second are

pub returns : goal.returns
returns c = record {
  halves = λ h same.
      halves_at h c.args.edge c.args.middle c.in-Some.first c.in-Some.second c.args.dir c.ends.result
      (ap (λ (edges : List Ends). slice_get edges c.args.edge) same ∙ c.ends.ensures.there)
      (subst (λ (edges : List Ends). AreHalfEdges edges c.ends.result c.args.dir c.args.middle c.in-Some.first c.in-Some.second) (sym same) c.in-Some.ensures.found);
}
