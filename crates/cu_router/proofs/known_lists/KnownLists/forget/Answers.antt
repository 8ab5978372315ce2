use Rattle.std.proofs.Common.{◌*◌, ◌∙◌, List, ap, length, map, sym}
use Rattle.cu_chordal.specs.declared.graph.Ends.{Ends}
use Rattle.cu_interval.specs.declared.ways.TouchedEdge.{TouchedEdge}
use Rattle.cu_router.proofs.SequencesStay.{sequences_stay}
use Rattle.cu_router.proofs.known_lists.KnownLists.forget.Goals as goal

pub returns-then-is_nearly_full : goal.returns-then-is_nearly_full
returns-then-is_nearly_full c old new edits sound is fits touched =
    c.clear.ensures new (fits.size ∙ ap (λ (es : List Ends). 2 * length es) (sym is.edges))

pub returns : goal.returns
returns c old new edits sound is fits touched = record {
  size = c.forget_edges.ensures.forgets.size ∙ fits.size ∙ ap (λ (es : List Ends). 2 * length es) (sym is.edges);
  knows = c.forget_edges.ensures.knows old new edits sound is fits.knows touched;
  sequences = c.forget.ensures new
      (sequences_stay old new edits (map (λ (touched : TouchedEdge). touched.edge) c.args.lists.now) c.args.self.now.sequences sound is touched fits.sequences);
}
