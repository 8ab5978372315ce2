use Rattle.tests_files.proofs.sequences.some_sequences.Goals as goal

pub returns : goal.returns
returns c = c.forget.ensures c.args.view.now (λ edge dir ends start at other there. c.all_sequences-sequences.ensures edge dir ends start at there)
