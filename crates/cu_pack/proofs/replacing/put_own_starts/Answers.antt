use Rattle.std.proofs.Common.{◌+◌, List, ap, length}
use Rattle.cu_interval.specs.declared.ways.Entry.{Entry}
use Rattle.cu_pack.specs.Spelling.{long}
use Rattle.cu_pack.proofs.Spelled.Growing.{grows_same}
use Rattle.cu_pack.proofs.replacing.put_own_starts.Goals as goal

pub returns-clause-put : goal.returns-clause-put
returns-clause-put g c =
    let middle = ap (λ (entries : List Entry). long (c.args.start + length entries)) c.entries.ensures.all in
    g.met.T.Target.more _ _ _ _ _ c.in_ok-put_long.ensures (grows_same g.T.Target.grows _ _ _ _ middle c.in_ok-put_long-2.ensures)
