use Rattle.std.proofs.Common.{◌∙◌, ap, length, subst, sym}
use Rattle.cu_interval.specs.Hierarchies.{HierarchyValue}
use Rattle.cu_pack.specs.declared.layout.Layout.{Layout}
use Rattle.cu_pack.specs.Layouts.{AreInLimits, file_length}
use Rattle.cu_pack.specs.Repacking.{with_roads}
use Rattle.cu_pack.specs.Spelling.{counts_of, spelling}
use Rattle.cu_pack.proofs.Numbering.Totals.{in_limits}
use Rattle.cu_pack.proofs.Spelled.Parts.{file_long}
use Rattle.cu_pack.proofs.repacked.Repacked.length.Goals as goal

pub of-requires : goal.of-requires
of-requires g c =
    let inside = c.self.inside in
    let h = with_roads inside.view.now (g.R.Roads.network inside.roads.now) inside.lists.now in
    record { limits = subst AreInLimits (sym c.self.invariant.counted) (in_limits 2 h c.self.invariant.fits.sound) }

pub returns : goal.returns
returns g c =
    let inside = c.self.inside in
    let h = with_roads inside.view.now (g.R.Roads.network inside.roads.now) inside.lists.now in
    let size = ap (λ (layout : Layout). layout.length) c.of.ensures.layout ∙ ap file_length c.self.invariant.counted in
    record {
      counted = size ∙ ap (λ (k : HierarchyValue). file_length (counts_of 2 k)) c.self.view_is;
      long = size ∙ sym (file_long 2 h c.self.invariant.fits.sound) ∙ ap (λ (k : HierarchyValue). length (spelling k)) c.self.view_is;
    }
