use Rattle.std.proofs.Common.{◌∙◌, [], ap, sym}
use Rattle.std.proofs.lemmas.Option.{get_or_from_slice_get}
use Rattle.cu_dissect.specs.Steps.Parts.{is_marked}
use Rattle.cu_dissect.proofs.splitting.is_beside.Goals as goal

pub returns : goal.returns
returns c = c.has_marked.ensures ∙ ap (is_marked c.args.marks.now) (sym (get_or_from_slice_get c.args.map.now.neighbours c.args.node c.group.result.now [] c.group.ensures))
