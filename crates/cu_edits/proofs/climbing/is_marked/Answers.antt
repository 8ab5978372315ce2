use Rattle.std.proofs.Common.{◌≡◌, List, ℕ, Some, arith, subst}
use Rattle.std.specs.Prelude.{slice_get}
use Rattle.std.proofs.lemmas.Option.{slice_get_within}
use Rattle.cu_edits.proofs.climbing.is_marked.Goals as goal

pub has_mark-requires : goal.has_mark-requires
has_mark-requires c =
    let inside = slice_get_within c.args.graph.now.edges c.in-Some.edge (record { low = c.args.rank; high = c.args.head }) c.in-Some.ensures.found in
    let long = c.requires.marks in
    omega (arith, inside, long)

pub returns : goal.returns
returns c = λ on. (
  c.in-Some.edge,
  c.in-Some.ensures.found,
  subst (λ (us : List ℕ). slice_get us 0 ≡ Some c.args.head) c.up.ensures.exact (c.is_first.ensures c.if-not-is_first.false),
  c.has_mark.ensures on,
)
