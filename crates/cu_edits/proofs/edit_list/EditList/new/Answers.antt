use Rattle.std.proofs.Common.{◌∙◌, [], ℕ, List, ap, false, length, subst, sym}
use Rattle.std.specs.Prelude.{replicate}
use Rattle.std.proofs.lemmas.List.{length-replicate}
use Rattle.cu_model.specs.Networks.{NetworkValue}
use Rattle.cu_edits.specs.EditLists.{AreByProfile}
use Rattle.cu_edits.specs.Steps.Adding.{AreMoved}
use Rattle.cu_edits.specs.Steps.Found.{FoundValue}
use Rattle.cu_edits.proofs.DrivenRoads.{moved_none}
use Rattle.cu_edits.proofs.ListLaws.{all_zero, fits_none}
use Rattle.cu_edits.proofs.edit_list.EditList.new.Goals as goal

pub returns-clause-fits : goal.returns-clause-fits
returns-clause-fits g c =
    let h = g.W.Ways.hierarchy c.args.ways.now in
    let same = sym (g.met.W.Ways.same_network c.args.ways.now) in
    let arcs = c.arcs-arcs.ensures.count ∙ ap (λ (n : NetworkValue). length n.arcs) same in
    let profiles = c.profiles.ensures.count ∙ ap (λ (n : NetworkValue). length n.profiles) same in
    fits_none h _ c.new.ensures.items
    (c.in_ok-vec.ensures.items_if_clones_equal (λ y is. cc is) ∙ ap (λ (n : ℕ). replicate n 0) arcs)
    (c.in_ok-vec-2.ensures.items_if_clones_equal (λ y is. cc is) ∙ ap (λ (n : ℕ). replicate n 0) profiles)
    (c.in_ok-vec-3.ensures.items_if_clones_equal (λ y is. cc is) ∙ ap (λ (n : ℕ). replicate n false) arcs)
    (c.in_ok-vec-4.ensures.items_if_clones_equal (λ y is. cc is) ∙ ap (λ (n : ℕ). replicate n false) c.edges.ensures.count)
    (subst (λ (n : NetworkValue). AreByProfile n c.in_ok-by_profile.field-0) same c.in_ok-by_profile.ensures)

pub invariant_of-result : goal.invariant_of-result
invariant_of-result g c = (
  subst (AreMoved c.in_ok-vec.field-0.items) (sym c.new-2.ensures.items)
      (subst (λ (xs : List ℕ). AreMoved xs []) (sym (c.in_ok-vec.ensures.items_if_clones_equal (λ y is. cc is))) (moved_none (replicate c.arcs-arcs.result 0) (all_zero c.arcs-arcs.result))),
  ap (λ (v : FoundValue). v.edges) c.in_ok-none.ensures ∙ c.edges-2.ensures.count ∙ sym (ap length (c.in_ok-vec-4.ensures.items_if_clones_equal (λ y is. cc is)) ∙ length-replicate c.edges.result false ∙ c.edges.ensures.count),
)
