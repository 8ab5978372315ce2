use Rattle.std.proofs.Common.{◌+◌, ◌∙◌, ◌++◌, ℕ, length, ap, arith}
use Rattle.cu_interval.specs.declared.ways.Dir.TheVariants.{Up}
use Rattle.cu_interval.specs.Hierarchies.{list_of}
use Rattle.cu_pack.specs.Spelling.{long}
use Rattle.cu_pack.proofs.Spelled.Putting.{put_then}
use Rattle.cu_pack.proofs.Numbering.Totals.{entries_in_limit, lists_more, lists_within}
use Rattle.cu_pack.proofs.sections.put_starts.Goals as goal

pub overflow_add-middle : goal.overflow_add-middle
overflow_add-middle c =
    let h = c.args.hierarchy.now in
    let sound = c.entries.ensures.sound in
    let within = lists_within h sound c.args.edge c.requires.edge in
    let limit = entries_in_limit h sound in
    omega (arith, within, limit, c.requires.start, c.entries.ensures.count)

pub overflow_add-next : goal.overflow_add-next
overflow_add-next c =
    let h = c.args.hierarchy.now in
    let sound = c.entries.ensures.sound in
    let within = lists_within h sound c.args.edge c.requires.edge in
    let limit = entries_in_limit h sound in
    omega (arith, within, limit, c.requires.start, c.entries.ensures.count, c.entries-2.ensures.count)

pub returns-clause-put : goal.returns-clause-put
returns-clause-put c =
    let middle = ap (λ (n : ℕ). c.put_long.new.bytes.items ++ long (c.args.start + n)) (c.from.ensures ∙ c.entries.ensures.count) in
    put_then c.args.bytes.now.items c.put_long.new.bytes.items c.put_long-2.new.bytes.items (long c.args.start)
    (long (c.args.start + length (list_of c.args.hierarchy.now c.args.edge Up))) c.in_ok-put_long.ensures
    (c.in_ok-put_long-2.ensures ∙ middle)

pub returns-clause-next : goal.returns-clause-next
returns-clause-next c =
    let h = c.args.hierarchy.now in
    let sound = c.entries.ensures.sound in
    let more = lists_more h sound c.args.edge c.requires.edge in
    omega (arith, more, c.requires.start, c.entries.ensures.count, c.entries-2.ensures.count)
