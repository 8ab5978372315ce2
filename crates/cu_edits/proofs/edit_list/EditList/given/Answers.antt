use Rattle.std.proofs.Common.{◌≡◌, ◌≤◌, ◌<◌, ◌-◌, ◌∙◌, ℕ, suc, List, Some, ap, length, arith, subst, sym}
use Rattle.std.specs.Prelude.{slice_get, slice_index_or}
use Rattle.std.proofs.lemmas.Option.{slice_get-get_or}
use Rattle.cu_model.specs.declared.roads.Edit.{Edit}
use Rattle.cu_edits.specs.EditLists.{EditListValue}
use Rattle.cu_edits.proofs.ListLaws.{given_last, index_within, none_given}
use Rattle.cu_edits.proofs.edit_list.EditList.given.Goals.{then-given-eq0-via-then-given-eq0, then-given-eq0-via-else-given-eq0+then-given-len}
use Rattle.cu_edits.proofs.edit_list.EditList.given.Goals as goal

pub returns-then-given-eq0 : goal.returns-then-given-eq0
returns-then-given-eq0 c = λ g fits.
    let given = c.given_at-given.result in
    let read = c.deref.ensures.value ∙ ap (λ (list : EditListValue). list.given) c.self.view_is in
    let there = subst (λ (xs : List ℕ). c.args.profile < length xs → slice_get xs c.args.profile ≡ Some given) read c.given_at-given.ensures.there in
    let past = subst (λ (xs : List ℕ). length xs ≤ c.args.profile → given ≡ 0) read c.given_at-given.ensures.past in
    elim c.then-given-eq0.branch [
      | then-given-eq0-via-then-given-eq0 w ↦ none_given g c.args.self.now fits c.args.profile given there w.if-given-eq0.true
      | then-given-eq0-via-else-given-eq0+then-given-len w ↦
          let some : given ≡ suc (given - 1) = omega (arith, w.if-given-eq0.false) in
          let count = ap (λ (list : EditListValue). length list.edits) c.self.view_is in
          absurd (index_within g c.args.self.now fits c.args.profile given (given - 1) there past some (omega (arith, w.if-given-len.true, count)))
    ]

pub returns : goal.returns
returns c = λ g fits.
    let given = c.given_at-given.result in
    let read = c.deref.ensures.value ∙ ap (λ (list : EditListValue). list.given) c.self.view_is in
    let there = subst (λ (xs : List ℕ). c.args.profile < length xs → slice_get xs c.args.profile ≡ Some given) read c.given_at-given.ensures.there in
    let past = subst (λ (xs : List ℕ). length xs ≤ c.args.profile → given ≡ 0) read c.given_at-given.ensures.past in
    let some : given ≡ suc (given - 1) = omega (arith, c.if-given-eq0.false) in
    let edits = c.args.self.now.edits in
    let same = ap (λ (list : EditListValue). list.edits) c.self.view_is in
    let count = ap (λ (es : List Edit). length es) same in
    let inside : given - 1 < length edits = omega (arith, c.if-given-eq0.false, c.if-given-len.false, count) in
    let is = c.index.ensures ∙ ap (λ (es : List Edit). slice_index_or es (given - 1) c.index.result.now) same in
    let at : slice_get edits (given - 1) ≡ Some c.index.result.now = slice_get-get_or edits (given - 1) c.index.result.now inside ∙ ap (λ (e : Edit). Some e) (sym is) in
    given_last g c.args.self.now fits c.args.profile given (given - 1) there past some c.index.result.now c.pieces_of.result at c.pieces_of.ensures
