use Rattle.cu_customize.proofs.Fronts.{next_front}
use Rattle.cu_customize.proofs.choosing.advance.Goals as goal

pub returns : goal.returns
returns c =
    next_front c.args.entries.now c.args.choices.now c.args.front _ c.requires.entries c.requires.choices c.requires.front c.requires.day c.entry_begin-entry_end.result
    c.choice_begin-choice_end.result c.entry_begin-entry_end.ensures c.choice_begin-choice_end.ensures c.min-at.ensures c.moved.ensures c.moved-2.ensures
