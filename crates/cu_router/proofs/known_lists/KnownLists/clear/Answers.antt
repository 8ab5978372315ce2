use Rattle.std.proofs.Common.{◌∙◌}
use Rattle.cu_store.proofs.KnowsLaws.{knows_nothing}
use Rattle.cu_router.proofs.known_lists.KnownLists.clear.Goals as goal

pub returns : goal.returns
returns c h size = record {
  size = c.clear.ensures.lists ∙ size;
  knows = knows_nothing h c.clear.new.self.known c.clear.ensures.unknown;
  sequences = c.clear-2.ensures h;
}
