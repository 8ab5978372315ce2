use Rattle.std.proofs.Common.{◌+◌, arith, refl}
use Rattle.cu_cli.specs.declared.commands.trial.Tally.{Tally}
use Rattle.cu_cli.proofs.TrialLaws.{edit_counted, edit_in_range, touched_few}
use Rattle.cu_cli.proofs.commands.trial.count_edit.Goals as goal

pub edit-requires : goal.edit-requires
edit-requires c = record { range = edit_in_range c.args.router.now.network c.args.tally.now.draws c.in_ok-edit.edit c.in_ok-edit.ensures.edit c.requires.drawable }

pub overflow_add-tally-2 : goal.overflow_add-tally-2
overflow_add-tally-2 c =
    let few = touched_few c.args.router.now c.edit.new.self c.in_ok-edit.edit c.in_ok-touched.touched c.in_ok-touched.ensures.edited in
    let edits = c.requires.edits in
    let small = c.requires.small.touched in
    omega (arith, few, edits, small)

pub returns-clause-edited : goal.returns-clause-edited
returns-clause-edited c =
    let before = c.args.tally.now in
    let count = c.in_ok-touched.touched in
    let now : Tally = record { draws = c.draw_edit.new.draws; reached = before.reached; sum = before.sum; edits = before.edits + 1; touched = before.touched + count } in
    let made = rw c.in_ok-edit.ensures.edit at c.in_ok-touched.ensures.edited in
    edit_counted c.args.router.now c.edit.new.self count before now made c.in_ok-edit.ensures.state refl refl refl refl

pub returns-clause-small : goal.returns-clause-small
returns-clause-small c =
    let few = touched_few c.args.router.now c.edit.new.self c.in_ok-edit.edit c.in_ok-touched.touched c.in_ok-touched.ensures.edited in
    let small = c.requires.small.touched in
    record { sum = c.requires.small.sum; touched = omega (arith, few, small) }
