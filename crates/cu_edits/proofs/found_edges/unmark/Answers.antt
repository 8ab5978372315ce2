use Rattle.std.proofs.Common.{◌≡◌, ◌∙◌, ℕ, Bool, List, Some, arith, false, get_or, inl, inr, refl, subst, sym, true}
use Rattle.std.specs.Prelude.{slice_get, slice_set}
use Rattle.std.proofs.lemmas.Bool.{cases_eq}
use Rattle.std.proofs.lemmas.List.{get_or_default, length-set}
use Rattle.std.proofs.lemmas.Option.{slice_get_within}
use Rattle.cu_model.proofs.ListLaws.{get_here, get_other}
use Rattle.cu_edits.proofs.found_edges.unmark.Goals as goal

pub numbers-init : goal.numbers-init
numbers-init c = record { long = refl; left = λ k at. (at, λ i lt is. omega (arith, lt)) }

pub numbers-preserved : goal.numbers-preserved
numbers-preserved c =
    let marks = c.numbers.marks in
    let index = c.numbers.number-index in
    let number = get_or c.args.numbers.now index 0 in
    record {
      long = length-set marks number false ∙ c.numbers.invariant.long;
      left = λ k at. elim (cases_eq number k) [
        | inl same ↦ absurd (cleared marks number k same at)
        | inr other ↦
            let (before, not) = c.numbers.invariant.left k (sym (get_other marks number k false other) ∙ at) in (
              before,
              λ i lt is. elim (cases_eq i index) [
                | inl here ↦ absurd (other (subst (λ (j : ℕ). get_or c.args.numbers.now j 0 ≡ k) here is))
                | inr ne ↦ not i (omega (arith, lt, ne)) is
              ],
            )
      ];
    }
  where
    cleared : (marks : List Bool) (number k : ℕ) → number ≡ k → slice_get (slice_set marks number false) k ≡ Some true → ⊥
    cleared marks number k same at =
        let here : slice_get (slice_set marks number false) number ≡ Some true = subst (λ (j : ℕ). slice_get (slice_set marks number false) j ≡ Some true) (sym same) at in
        let inside = slice_get_within (slice_set marks number false) number true here in
        let long = length-set marks number false in
        absurd (cc (get_here marks number false (omega (arith, inside, long)), here))

pub returns-clause-left : goal.returns-clause-left
returns-clause-left c = λ k at.
    let (before, not) = c.numbers.invariant.left k at in (
      before,
      λ among.
          let (i, inside, read) = among in
          let ended = c.numbers-test.false in
          not i (omega (arith, inside, ended)) (sym (get_or_default c.args.numbers.now i k 0 inside) ∙ read),
    )
