use Rattle.cu_interval.specs.Hierarchies.{list_of}
use Rattle.cu_pack.specs.Spelling.{entry_bytes}
use Rattle.cu_pack.proofs.Spelled.Putting.{put_more}
use Rattle.cu_pack.proofs.sections.put_entries.Goals as goal

pub loop-index-preserved : goal.loop-index-preserved
loop-index-preserved c = put_more entry_bytes (list_of c.args.hierarchy.now c.args.edge c.args.dir) c.loop-index.index c.entry.result c.args.bytes.now.items
    c.loop-index.bytes.items c.put_entry.new.bytes.items c.entry.ensures.there c.loop-index.invariant c.in_ok-put_entry.ensures
