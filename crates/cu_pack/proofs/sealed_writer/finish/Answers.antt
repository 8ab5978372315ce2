use Rattle.std.proofs.Common.{◌++◌, List, ℕ, subst}
use Rattle.std.proofs.lemmas.Result.{on_ok_weaker}
use Rattle.std.specs.Io.KnownBytes.{Appends}
use Rattle.sha2.specs.Hashers.{Holds256}
use Rattle.cu_pack.proofs.Writing.{finished}
use Rattle.cu_pack.proofs.sealed_writer.finish.Goals as goal

pub returns : goal.returns
returns g c message holds =
    let block = c.args.block.items in
    let held = g.W.Write.contents c.args.writer.now in
    let held_sent = g.W.Write.contents c.send.new.writer in
    let same = c.as_slice.ensures.value in
    let hashed = λ (m : List ℕ) (h : Holds256 c.args.digest m). subst (λ (bs : List ℕ). Holds256 c.send.new.digest (m ++ bs)) same (c.in_ok-send.ensures.hashed m h) in
    let sent = subst (λ (bs : List ℕ). Appends held held_sent bs) same c.in_ok-send.ensures.sent in
    on_ok_weaker c.write_all.result
    (λ e. finished held held_sent _ c.args.digest c.send.new.digest block message _ holds hashed c.finalize-sum.ensures sent e)
    c.write_all.ensures.bytes
