use Rattle.std.proofs.Common.{◌≡◌, ◌∙◌, ◌++◌, List, ap, subst, sym}
use Rattle.cu_interval.specs.declared.ways.Entry.{Entry}
use Rattle.cu_interval.specs.WayLists.{FindsWayList, IsWayList}
use Rattle.cu_edits.proofs.copied_lists.copy_list.Goals as goal

pub unreachable-requires : goal.unreachable-requires
unreachable-requires c =
    let copied = c.extend_from_slice.new.self.items in
    let same : copied ≡ c.args.list.now =
    c.in_ok-extend_from_slice.ensures.items ∙ ap (λ (xs : List Entry). xs ++ c.entries-2.result.now) c.in_ok-entries.ensures.items ∙ c.entries-2.ensures.all in
    let none = subst (FindsWayList copied) c.in_default.is c.of.ensures in
    absurd (none (subst IsWayList (sym same) c.entries-2.ensures.valid))
