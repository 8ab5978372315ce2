use Rattle.std.proofs.Common.{◌≡◌, ◌∙◌, Some, ap, sym}
use Rattle.std.specs.Prelude.{slice_get}
use Rattle.cu_interval.specs.declared.ways.Dir.TheVariants.{Down, Up}
use Rattle.cu_interval.specs.Hierarchies.{list_number}
use Rattle.cu_edits.proofs.LimitLaws.{most_of_both}
use Rattle.cu_edits.proofs.learning_packed.most_by.Goals as goal

pub returns : goal.returns
returns c =
    let functions = c.args.functions.now in
    let first : slice_get functions (list_number c.args.edges.0 Down) ≡ Some (Some c.in-Some.first) =
    ap (slice_get functions) (sym c.list.ensures.number) ∙ c.get.ensures ∙ ap Some c.in-Some.is in
    let second : slice_get functions (list_number c.args.edges.1 Up) ≡ Some (Some c.in-Some-get.second) =
    ap (slice_get functions) (sym c.list-2.ensures.number) ∙ c.get-2.ensures ∙ ap Some c.in-Some-get.is in
    most_of_both functions c.args.edges c.in-Some.first c.in-Some-get.second c.most.result c.most-2.result c.saturating_add.result first second
    c.most-2.ensures.function c.most.ensures.most c.most-2.ensures.most c.saturating_add.ensures
