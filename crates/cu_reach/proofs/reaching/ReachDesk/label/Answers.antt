use Rattle.std.proofs.Common.{◌∙◌, ap, arith, length, sym}
use Rattle.std.specs.Prelude.{Some, slice_get}
use Rattle.cu_reach.proofs.DeskLaws.{label_at, labels_count}
use Rattle.cu_reach.proofs.reaching.ReachDesk.label.Goals as goal

pub second-requires : goal.second-requires
second-requires c =
    let count = labels_count c.self.inside.labels in
    let same = ap length c.self.view_is in
    omega (arith, c.requires, count, same)

pub returns : goal.returns
returns c =
    let count = labels_count c.self.inside.labels in
    let same = ap length c.self.view_is in
    ap (λ xs. slice_get xs c.args.rank) (sym c.self.view_is) ∙ label_at c.self.inside.labels c.args.rank (omega (arith, c.requires, count, same))
    ∙ ap Some (sym c.second.ensures)
