use Rattle.std.proofs.Common.{◌∙◌}
use Rattle.tests_files.proofs.recalls.forgotten.Goals as goal

pub returns : goal.returns
returns c = record {
  fits = record {
    nodes = c.forget.ensures.nodes ∙ c.requires.fits.nodes;
    lists = c.forget.ensures.lists ∙ c.requires.fits.lists;
    knows = c.forget.ensures.knows c.args.view.now;
    downs = c.forget.ensures.downs c.args.view.now;
  };
}
