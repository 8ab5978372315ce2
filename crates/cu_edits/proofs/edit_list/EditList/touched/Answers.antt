use Rattle.std.proofs.Common.{◌≡◌, ◌<◌, ◌+◌, ◌∙◌, Bool, List, ℕ, Some, ap, length, subst, sym, arith}
use Rattle.std.specs.Global.{Vec}
use Rattle.std.specs.Prelude.{slice_get, slice_index_or}
use Rattle.std.proofs.lemmas.Option.{slice_get-get_or}
use Rattle.cu_edits.specs.EditLists.{EditListValue}
use Rattle.cu_edits.proofs.ListLaws.{AreFirstTouched, touched_all, touched_none, touched_one, touched_other}
use Rattle.cu_edits.proofs.edit_list.EditList.touched.Goals.{then-index+in_ok-push, else-index}
use Rattle.cu_edits.proofs.edit_list.EditList.touched.Goals as goal

pub loop-edge-init : goal.loop-edge-init
loop-edge-init c = subst (AreFirstTouched c.args.self.now.touched 0) (sym c.new-touched.ensures.items) (touched_none c.args.self.now.touched)

pub loop-edge-preserved : goal.loop-edge-preserved
loop-edge-preserved c =
    let marks = c.args.self.now.touched in
    let edge = c.loop-edge.edge in
    let same = ap (λ (list : EditListValue). list.touched) c.self.view_is in
    let inside : edge < length marks = omega (arith, c.requires.edges) in
    let at : slice_get marks edge ≡ Some c.index.result.now =
    slice_get-get_or marks edge c.index.result.now inside ∙ ap (λ (m : Bool). Some m) (sym (c.index.ensures ∙ ap (λ (ms : List Bool). slice_index_or ms edge c.index.result.now) same)) in
    elim c.if-index.branch [
      | then-index+in_ok-push w ↦
          subst (AreFirstTouched marks (edge + 1)) (sym (ap (λ (v : Vec ℕ). v.items) w.touched-is ∙ w.in_ok-push.ensures.items))
          (touched_one marks edge c.loop-edge.touched.items (at ∙ ap (λ (m : Bool). Some m) w.if-index.true) c.loop-edge.invariant)
      | else-index w ↦
          subst (λ (v : Vec ℕ). AreFirstTouched marks (edge + 1) v.items) (sym w.touched-is)
          (touched_other marks edge c.loop-edge.touched.items c.index.result.now at w.if-index.false c.loop-edge.invariant)
    ]

pub returns : goal.returns
returns c = λ h fits. touched_all h c.args.self.now c.loop-edge.edge c.loop-edge.touched.items (omega (arith, c.requires.edges)) c.loop-edge.invariant fits
