use Rattle.std.proofs.Common.{inr, refl}
use Rattle.cu_desk.proofs.ReplyLaws.{some_edit}
use Rattle.cu_desk.proofs.replies.begin_checked.Goals as goal

pub returns-in-Err : goal.returns-in-Err
returns-in-Err c =
    let (edit, is) = some_edit _ c.requires.sound in
    record { begun = (edit, is, inr (inr (refl, refl))) }
