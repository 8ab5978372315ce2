use Rattle.std.proofs.Common.{◌≡◌, ◌+◌, ◌-◌, ◌*◌, ◌∙◌, suc, ap, arith}
use Rattle.cu_pack.specs.declared.layout.Layout.{Layout}
use Rattle.cu_pack.specs.Layouts.{uppers_at}
use Rattle.cu_pack.specs.Reading.{counts_in, edge_start}
use Rattle.cu_pack.proofs.Read.Parted.{column_rises_at, count_up_to_at, layout_known, part_rises}
use Rattle.cu_pack.proofs.cutting.Sections.edges_up_to.Goals as goal

pub count_up_to-requires-clause-rising : goal.count_up_to-requires-clause-rising
count_up_to-requires-clause-rising c =
    let bytes = c.args.self.now in
    let layout = layout_known bytes c.self.inside.body c.self.inside.layout c.self.view_is c.self.invariant.layout in
    let uppers : c.self.inside.layout.uppers ≡ uppers_at (counts_in bytes) = ap (λ (l : Layout). l.uppers) layout in
    let next : c.args.low + 1 ≡ suc c.args.low = omega arith in
    let end = c.edge_start.ensures.start ∙ ap (edge_start bytes) next in
    column_rises_at bytes c.self.inside.body c.self.view_is _ (uppers_at (counts_in bytes) + 4 * edge_start bytes c.args.low) 4 _ (edge_start bytes (suc c.args.low) - edge_start bytes c.args.low)
    (omega (arith, uppers, c.edge_start-start.ensures.start)) (omega (arith, end, c.edge_start-start.ensures.start)) (part_rises bytes c.args.low c.requires.low)

pub returns : goal.returns
returns c =
    let bytes = c.args.self.now in
    let layout = layout_known bytes c.self.inside.body c.self.inside.layout c.self.view_is c.self.invariant.layout in
    let uppers : c.self.inside.layout.uppers ≡ uppers_at (counts_in bytes) = ap (λ (l : Layout). l.uppers) layout in
    let next : c.args.low + 1 ≡ suc c.args.low = omega arith in
    let end = c.edge_start.ensures.start ∙ ap (edge_start bytes) next in
    record {
      count = count_up_to_at bytes c.self.inside.body c.self.view_is _ (uppers_at (counts_in bytes) + 4 * edge_start bytes c.args.low) 4 _
          (edge_start bytes (suc c.args.low) - edge_start bytes c.args.low)
          (omega (arith, uppers, c.edge_start-start.ensures.start)) (omega (arith, end, c.edge_start-start.ensures.start)) c.args.high c.count_up_to.result c.count_up_to.ensures;
    }
