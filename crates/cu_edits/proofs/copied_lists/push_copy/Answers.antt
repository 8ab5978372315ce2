use Rattle.std.proofs.Common.{◌++◌, ◌∷◌, [], ◌∙◌, ap}
use Rattle.cu_interval.specs.declared.ways.TouchedEdge.{TouchedEdge}
use Rattle.cu_edits.proofs.copied_lists.push_copy.Goals as goal

pub returns-clause-added : goal.returns-clause-added
returns-clause-added c = c.in_ok-push.ensures.items ∙ ap (λ (t : TouchedEdge). c.args.settled.now.items ++ (t ∷ [])) c.in_ok-copy.ensures
