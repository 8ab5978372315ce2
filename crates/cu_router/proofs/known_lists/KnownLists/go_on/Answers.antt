use Rattle.std.proofs.Common.{◌*◌, ◌∙◌, ap, length, subst, sym}
use Rattle.cu_interval.specs.Hierarchies.{HierarchyValue}
use Rattle.cu_sequences.specs.Kept.{AreSequences}
use Rattle.cu_store.specs.Known.{Knows}
use Rattle.cu_router.proofs.known_lists.KnownLists.go_on.Goals as goal

pub make_some-requires-clause-fits : goal.make_some-requires-clause-fits
make_some-requires-clause-fits c =
    let same = sym c.view.ensures.same in
    let fits = c.requires.fits in record {
      size = fits.size ∙ ap (λ (h : HierarchyValue). 2 * length h.edges) same;
      knows = subst (λ (h : HierarchyValue). Knows h c.args.self.now.store.known) same fits.knows;
      sequences = subst (λ (h : HierarchyValue). AreSequences h c.args.self.now.sequences) same fits.sequences;
    }
