use Rattle.std.proofs.Common.{◌==◌, sym}
use Rattle.cu_model.proofs.LineCuts.{slice_split_some, slice_split_whole}
use Rattle.cu_model.proofs.fields.cut_field.Goals as goal

pub returns-in-Some : goal.returns-in-Some
returns-in-Some c = record { cut = slice_split_some (λ b. b == 44) c.args.line.now 0 c.in-Some.end (sym c.in-Some.ensures.first) }

pub returns-in-None : goal.returns-in-None
returns-in-None c = record { cut = slice_split_whole (λ b. b == 44) c.args.line.now (sym c.in-None.ensures.first) }
