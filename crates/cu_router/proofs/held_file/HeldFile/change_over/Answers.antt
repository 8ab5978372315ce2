use Rattle.std.proofs.Common.{◌<◌, ◌∙◌, ℕ, Bool, List, ap, false, length, subst, sym, All}
use Rattle.cu_edits.specs.Settling.{numbers_of}
use Rattle.cu_interval.specs.declared.ways.TouchedEdge.{TouchedEdge}
use Rattle.cu_interval.specs.Hierarchies.{HierarchyValue}
use Rattle.cu_resettled.specs.ResettlingAll.{hierarchy_with_all}
use Rattle.cu_pack.specs.Checks.{Spells, sealed}
use Rattle.cu_pack.specs.Reading.{decoded}
use Rattle.cu_pack.proofs.Viewed.Views.{said_again}
use Rattle.cu_bounds.specs.Near.{AreNear}
use Rattle.cu_router.specs.Changes.{IsChange}
use Rattle.cu_router.specs.Steps.Holding.{HoldsFile, IsKnown, IsKnownBut}
use Rattle.cu_router.proofs.HeldLaws.{change_below, changed_over, decoded_is, edges_stay, known_over, touched_below}
use Rattle.cu_router.proofs.held_file.HeldFile.change_over.Goals as goal

pub adopt-requires : goal.adopt-requires
adopt-requires c =
    let change = c.requires.change in record {
      spelled = subst (λ (bs : List ℕ). Spells (sealed bs) (decoded (sealed bs))) (sym c.deref.ensures.value)
          (said_again (sealed c.args.bytes.items) (hierarchy_with_all c.args.self.now change.edits c.args.lists.now) change.spelled);
    }

pub renew-requires : goal.renew-requires
renew-requires c =
    let lists = c.args.lists.now in
    let inside = c.self.inside in
    let bytes = c.args.bytes.items in
    let h = decoded (sealed inside.bytes.items) in
    let change = subst (λ (g : HierarchyValue). IsChange g bytes lists) (sym c.self.view_is) c.requires.change in
    let same = sym (c.adopt.ensures.same ∙ ap (λ (bs : List ℕ). decoded (sealed bs)) c.deref.ensures.value) in
    record {
      rising = change.touched.rising;
      edges = subst (λ (g : HierarchyValue). All (λ (touched : TouchedEdge). touched.edge < length g.edges) lists) same (change_below h bytes lists change);
      known = subst (λ (g : HierarchyValue). IsKnownBut g inside.known (numbers_of lists)) same
          (known_over h bytes lists inside.known c.self.invariant.0.spelled.sound change c.self.invariant.1);
    }

pub adopt-requires-2 : goal.adopt-requires-2
adopt-requires-2 c = record {
  spelled = subst (λ (bs : List ℕ). Spells (sealed bs) (decoded (sealed bs))) (sym c.deref-2.ensures.value)
      (said_again (sealed c.args.bytes.items) _ c.requires.change.spelled);
}

pub renew-requires-2 : goal.renew-requires-2
renew-requires-2 c =
    let lists = c.args.lists.now in
    let inside = c.self.inside in
    let bytes = c.args.bytes.items in
    let h = decoded (sealed inside.bytes.items) in
    let change = subst (λ (g : HierarchyValue). IsChange g bytes lists) (sym c.self.view_is) c.requires.change in
    let same = sym (c.adopt-2.ensures.same ∙ ap (λ (bs : List ℕ). decoded (sealed bs)) c.deref-2.ensures.value) in
    record {
      edges = c.self.invariant.2.up.0 ∙ edges_stay h bytes lists change ∙ ap (λ (g : HierarchyValue). length g.edges) same;
    }

pub mark-requires : goal.mark-requires
mark-requires c =
    let lists = c.args.lists.now in
    let h = decoded (sealed c.self.inside.bytes.items) in
    let change = subst (λ (g : HierarchyValue). IsChange g c.args.bytes.items lists) (sym c.self.view_is) c.requires.change in
    record {
      edges = subst (λ (count : ℕ). All (λ (touched : TouchedEdge). touched.edge < count) lists) (sym c.self.invariant.0.knows.long) (touched_below h change.edits lists change.touched);
    }

pub invariant_of-self : goal.invariant_of-self
invariant_of-self c =
    let inside = c.self.inside in
    let bytes = c.args.bytes.items in
    let h = decoded (sealed inside.bytes.items) in
    let change = subst (λ (g : HierarchyValue). IsChange g bytes c.args.lists.now) (sym c.self.view_is) c.requires.change in
    let same = c.adopt.ensures.same ∙ ap (λ (bs : List ℕ). decoded (sealed bs)) c.deref.ensures.value in (
      subst (λ (marks : List Bool). HoldsFile (decoded (sealed bytes)) bytes false inside.graph inside.tree marks) (sym c.mark.ensures)
          (changed_over h inside.bytes.items bytes inside.has_digest inside.graph inside.tree inside.customized c.args.lists.now c.self.invariant.0 change),
      subst (λ (g : HierarchyValue). IsKnown g c.renew.new.self) same c.renew.ensures.known,
      subst (λ (g : HierarchyValue). AreNear g c.renew-2.new.self)
          (c.adopt-2.ensures.same ∙ ap (λ (bs : List ℕ). decoded (sealed bs)) c.deref-2.ensures.value) c.renew-2.ensures,
    )

pub returns : goal.returns
returns c = record { changed = λ h spells. decoded_is (sealed c.args.bytes.items) h spells }
