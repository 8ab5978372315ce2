use Rattle.std.proofs.Common.{◌∙◌, ap, length, subst, sym}
use Rattle.std.proofs.lemmas.List.{take_at}
use Rattle.cu_interval.specs.Hierarchies.{HierarchyValue, IsHierarchy}
use Rattle.cu_bounds.specs.KeptBounds.{bounds_of}
use Rattle.cu_pack.specs.Repacking.{with_roads}
use Rattle.cu_pack.specs.Steps.EditedHalves.{HalvesValue}
use Rattle.cu_pack.specs.Steps.Replacing.{FitsLists}
use Rattle.cu_pack.proofs.Numbering.PairedLists.{bounds_count}
use Rattle.cu_pack.proofs.Rewrites.EditedLists.{AreListsOf, new_lists}
use Rattle.cu_pack.proofs.Rewrites.OtherBounds.{AreOthersRight, others_right}
use Rattle.cu_pack.proofs.repacking.bounds_after.Goals as goal

pub of-finder-requires : goal.of-finder-requires
of-finder-requires g c =
    let same = c.in_ok-finder.ensures.same in
    let after = c.of-after.ensures in
    record {
      same = record {
        same = ap (λ (h : HierarchyValue). h.edges) same ∙ sym (ap (λ (h : HierarchyValue). h.edges) after);
        sound = subst IsHierarchy (sym same) c.in_ok-finder.ensures.sound;
      };
    }

pub renew_bounds-requires : goal.renew_bounds-requires
renew_bounds-requires g c =
    let old = c.args.view.now in
    let roads = g.R.Roads.network c.args.roads.now in
    let lists = c.args.lists.now in
    let bounds = c.as_mut_slice.result.now in
    let kept = c.as_mut_slice.ensures.value ∙ c.in_ok-bounds.ensures.bounds in
    let after = sym c.of-after.ensures in
    let others = others_right old roads lists bounds kept c.requires.rising c.requires.edges c.requires.stays in
    let here = subst (λ (k : HierarchyValue). AreOthersRight k bounds lists) after others in
    let fits : FitsLists old roads lists = record { nodes = c.requires.nodes; rising = c.requires.rising; edges = c.requires.edges; sound = c.requires.sound } in
    record {
      sound = subst IsHierarchy after c.requires.sound;
      rising = here.rising;
      lists = subst (λ (k : HierarchyValue). AreListsOf k lists) after (new_lists old roads lists fits);
      long = here.long;
      kept = here.right;
      same = ap (λ (v : HalvesValue). v.hierarchy) c.of-finder.ensures;
      begins = ap (λ (v : HalvesValue). v.reached) c.of-finder.ensures ∙ c.in_ok-finder.ensures.begins;
    }

pub returns : goal.returns
returns g c =
    let old = c.args.view.now in
    let h = with_roads old (g.R.Roads.network c.args.roads.now) c.args.lists.now in
    let renewed = c.in_ok-renew_bounds.ensures.bounds ∙ ap bounds_of c.of-after.ensures in
    let kept = c.as_mut_slice.ensures.value ∙ c.in_ok-bounds.ensures.bounds in
    let count = ap length renewed ∙ bounds_count h ∙ sym (bounds_count old) ∙ ap length (sym kept) ∙ c.as_mut_slice.ensures.len in
    take_at c.renew_bounds.new.bounds _ c.in_ok-bounds.bounds.len count ∙ renewed
