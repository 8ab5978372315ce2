use Rattle.std.proofs.Common.{◌≡◌, ◌∙◌, ap, arith, subst}
use Rattle.cu_pack.specs.declared.layout.Layout.{Layout}
use Rattle.cu_pack.specs.Checks.{Spells}
use Rattle.cu_pack.specs.Layouts.{edge_starts_at, way_starts_at}
use Rattle.cu_pack.specs.Reading.{counts_in}
use Rattle.cu_pack.proofs.Spelled.Again.{spelled_sections}
use Rattle.cu_pack.proofs.Viewed.ViewedParts.{edges_part, same_part}
use Rattle.cu_pack.proofs.Viewed.Views.{size_known}
use Rattle.cu_pack.proofs.view.PackedView.edges_part.Goals as goal

pub between-requires-clause-room : goal.between-requires-clause-room
between-requires-clause-room c =
    let bytes = c.self.inside.sections in
    let size = size_known bytes c.args.self.now (spelled_sections bytes c.args.self.now (subst (Spells bytes) c.self.view_is c.self.invariant)) in
    let end : c.layout-layout.result.way_starts ≡ way_starts_at (counts_in bytes) = ap (λ (l : Layout). l.way_starts) c.layout-layout.ensures.layout in
    omega (arith, size, end)

pub returns : goal.returns
returns c =
    let bytes = c.self.inside.sections in
    let start = ap (λ (l : Layout). l.edge_starts) c.layout-layout.ensures.layout in
    let end = ap (λ (l : Layout). l.way_starts) c.layout-layout.ensures.layout in
    record {
      part =
          c.between.ensures.part ∙ same_part bytes (edge_starts_at (counts_in bytes)) (way_starts_at (counts_in bytes)) c.layout-layout.result.edge_starts c.layout-layout.result.way_starts start end
          ∙ edges_part bytes c.args.self.now (spelled_sections bytes c.args.self.now (subst (Spells bytes) c.self.view_is c.self.invariant));
    }
