use Rattle.std.proofs.lemmas.Result.{on_ok_weaker}
use Rattle.cu_pack.proofs.Spelled.Growing.{grows_same}
use Rattle.cu_pack.proofs.numbers.put_piece.Goals as goal

pub returns : goal.returns
returns g c = on_ok_weaker c.put.result (λ e. grows_same g.T.Target.grows c.args.bytes.now c.put.new.self _ _ c.piece_row.ensures e) c.put.ensures
