use Rattle.std.proofs.Common.{◌∙◌}
use Rattle.cu_unpack.proofs.Forgotten.{spared_one}
use Rattle.cu_unpack.proofs.packed_table.PackedTable.forget.Goals as goal

pub returns : goal.returns
returns c = spared_one c.args.self.now c.args.number c.requires.known c.requires.functions _ (c.self-2.view_is ∙ c.in-Ok.ensures.put)
