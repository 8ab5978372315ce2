use Rattle.std.proofs.lemmas.Result.{on_ok_weaker}
use Rattle.cu_pack.specs.Steps.Taken.{takes_more}
use Rattle.cu_pack.proofs.Writing.{sent}
use Rattle.cu_pack.proofs.sealed_writer.SealedWriterTarget.put.Goals as goal

pub returns : goal.returns
returns g c =
    let mid = c.pass_on.new.self in
    let held = g.W.Write.contents mid.writer.now in
    on_ok_weaker c.send.result
    (λ e. (
      takes_more _ _ _ _ _ _ _ _ _ _ _ c.in_ok-pass_on.ensures.same
          (sent held mid.digest mid.block.items c.in_ok-pass_on.ensures.empty _ c.send.new.digest c.args.piece.now e c.send.ensures.hashed),
      c.pass_on.ensures.writer,
    ))
    c.send.ensures.sent
