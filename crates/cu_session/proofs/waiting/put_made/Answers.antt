use Rattle.std.proofs.Common.{◌++◌, decimal}
use Rattle.std.specs.Prelude.{codes}
use Rattle.cu_session.proofs.KeptReplies.{edit_kept}
use Rattle.cu_session.proofs.waiting.put_made.Goals as goal

pub returns-in-Ok : goal.returns-in-Ok
returns-in-Ok g c =
    let (edit, is, made, kept) = c.in-Ok.ensures.edited in
    record { reply = (codes "done " ++ decimal c.in-Ok.count, edit_kept _ _ edit c.in-Ok.count _ is made kept, c.put_done.ensures.wrote) }
