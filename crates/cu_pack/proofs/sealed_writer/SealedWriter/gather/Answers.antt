use Rattle.std.proofs.Common.{List, ℕ, [], subst, sym}
use Rattle.std.proofs.lemmas.List.{append-nil}
use Rattle.std.proofs.lemmas.Result.{on_ok_weaker}
use Rattle.cu_pack.specs.Steps.Taken.{TakesOn, takes_more}
use Rattle.cu_pack.proofs.Writing.{gathered}
use Rattle.cu_pack.proofs.sealed_writer.SealedWriter.gather.Goals as goal

pub returns : goal.returns
returns g c =
    let old = c.args.self.now in
    let held = g.W.Write.contents old.writer.now in
    let block = old.block.items in
    let piece = c.args.piece.now in
    let first = subst (λ (bs : List ℕ). TakesOn held old.digest block held old.digest bs piece) (sym c.in_ok-extend_from_slice.ensures.items) (gathered held old.digest block piece) in
    let new = c.pass_on.new.self in
    let held_now = g.W.Write.contents new.writer.now in
    on_ok_weaker c.pass_on.result
    (λ e. (
      subst (λ (bs : List ℕ). TakesOn held old.digest block held_now new.digest new.block.items bs) (append-nil piece)
          (takes_more held old.digest block held old.digest c.extend_from_slice.new.self.items held_now new.digest new.block.items piece [] first e),
      c.pass_on.ensures.writer,
    ))
    c.pass_on.ensures.same
