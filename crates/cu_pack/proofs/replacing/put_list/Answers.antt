use Rattle.std.proofs.Common.{◌∙◌, List, ap, arith, length, sym}
use Rattle.std.specs.Prelude.{slice_get}
use Rattle.std.proofs.lemmas.Option.{slice_get-get_or}
use Rattle.cu_interval.specs.declared.ways.Entry.{Entry}
use Rattle.cu_pack.specs.Spelling.{entry_bytes}
use Rattle.cu_pack.proofs.Spelled.Growing.{grows_all, grows_more}
use Rattle.cu_pack.proofs.replacing.put_list.Goals as goal

pub loop-entry-init : goal.loop-entry-init
loop-entry-init g c = g.met.T.Target.stays c.args.bytes.now

pub loop-entry-preserved : goal.loop-entry-preserved
loop-entry-preserved g c =
    let list = c.args.list.now in
    let i = c.loop-entry.entry-index in
    let all = c.entries-entry-items.ensures.all in
    let there = ap (λ (entries : List Entry). slice_get entries i) (sym all) ∙ slice_get-get_or c.entries-entry-items.result.now i _ (omega arith) in
    grows_more g.T.Target.grows g.met.T.Target.more entry_bytes list i _ c.args.bytes.now c.loop-entry.bytes c.put_entry.new.bytes
    there c.loop-entry.invariant c.in_ok-put_entry.ensures

pub returns : goal.returns
returns g c = let all = ap length c.entries-entry-items.ensures.all in
    grows_all g.T.Target.grows entry_bytes c.args.list.now c.loop-entry.entry-index c.args.bytes.now c.loop-entry.bytes (omega (arith, all)) c.loop-entry.invariant
