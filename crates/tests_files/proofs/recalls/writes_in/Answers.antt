use Rattle.tests_files.proofs.recalls.writes_in.Goals as goal

pub new-ways-requires-clause-knows : goal.new-ways-requires-clause-knows
new-ways-requires-clause-knows c = c.rows.ensures.knows c.args.view.now c.requires.fits.knows
