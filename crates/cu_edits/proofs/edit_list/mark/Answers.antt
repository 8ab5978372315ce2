use Rattle.std.proofs.Common.{◌∙◌, true, get_or, refl, sym}
use Rattle.std.proofs.lemmas.List.{at_drop_all, at_drop_more, length-set}
use Rattle.cu_edits.specs.Steps.Adding.{marked_at}
use Rattle.cu_edits.proofs.edit_list.mark.Goals as goal

pub numbers-init : goal.numbers-init
numbers-init c = record { long = refl; marked = refl }

pub numbers-preserved : goal.numbers-preserved
numbers-preserved c =
    let marks = c.numbers.marks in
    let numbers = c.args.numbers.now in
    let index = c.numbers.number-index in
    let number = get_or numbers index 0 in
    let step = at_drop_more (marked_at marks) numbers index 0 c.numbers-test.true in
    record {
      long = length-set marks number true ∙ c.numbers.invariant.long;
      marked = sym step ∙ c.numbers.invariant.marked;
    }

pub returns : goal.returns
returns c =
    sym (at_drop_all (marked_at c.numbers.marks) c.args.numbers.now c.numbers.number-index c.numbers-test.false) ∙ c.numbers.invariant.marked
