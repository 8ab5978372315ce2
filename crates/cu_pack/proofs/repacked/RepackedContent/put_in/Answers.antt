use Rattle.std.proofs.Common.{◌≡◌, rules, subst}
use Rattle.std.proofs.lemmas.Result.{on_ok_weaker}
use Rattle.std.specs.Io.KnownBytes.{Appends}
use Rattle.cu_pack.specs.Spelling.{body, spelling, spelling_in}
use Rattle.cu_pack.proofs.Writing.{holds_whole, sealed_whole}
use Rattle.cu_pack.proofs.repacked.RepackedContent.put_in.Goals as goal

pub returns : goal.returns
unfolding spelling_in
returns g c =
    let bytes = body 2 c.args.self.now in
    let (taken, same) = c.in_ok-put_body.ensures in
    let empty = c.in_ok-with_capacity.ensures.items in
    let holds = holds_whole _ _ _ _ _ _ bytes empty taken c.new.ensures in
    let back : c.finish.new.writer ≡ c.writer-2-1.given.0 = search (rules, same) in
    on_ok_weaker c.finish.result
    (λ e. subst (λ w. Appends (g.W.Write.contents c.args.writer.now) (g.W.Write.contents w) (spelling c.args.self.now)) back (sealed_whole _ _ _ _ _ _ bytes empty taken _ e))
    (c.finish.ensures bytes holds)
