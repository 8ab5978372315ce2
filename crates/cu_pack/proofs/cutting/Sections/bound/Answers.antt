use Rattle.std.proofs.Common.{◌≡◌, List, ap, arith, length, subst, ℕ}
use Rattle.cu_pack.specs.declared.layout.Layout.{Layout}
use Rattle.cu_pack.specs.Layouts.{bounds_at, file_length}
use Rattle.cu_pack.specs.Reading.{counts_in}
use Rattle.cu_pack.proofs.Read.Parted.{layout_known}
use Rattle.cu_pack.proofs.Spelled.Parts.{bounds_kept}
use Rattle.cu_pack.proofs.cutting.Sections.bound.Goals as goal

pub long-requires : goal.long-requires
long-requires c =
    let bytes = c.args.self.now in
    let layout = layout_known bytes c.self.inside.body c.self.inside.layout c.self.view_is c.self.invariant.layout in
    let at : c.self.inside.layout.bounds ≡ bounds_at (counts_in bytes) = ap (λ (l : Layout). l.bounds) layout in
    let size = subst (λ (bs : List ℕ). file_length (counts_in bs) ≡ length bs) c.self.view_is c.self.invariant.size in
    record { room = omega (arith, at, size, ap length c.self.view_is, bounds_kept bytes c.requires.version, c.requires.list) }
