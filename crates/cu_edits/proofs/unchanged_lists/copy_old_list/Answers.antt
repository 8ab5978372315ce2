use Rattle.std.proofs.Common.{◌≡◌, ◌∙◌, ◌∷◌, ◌++◌, List, [], ap, arith, subst, sym}
use Rattle.std.proofs.lemmas.List.{take_all}
use Rattle.cu_interval.specs.declared.ways.Entry.{Entry}
use Rattle.cu_interval.specs.Hierarchies.{list_of}
use Rattle.cu_interval.specs.WayLists.{FindsWayList, IsWayList}
use Rattle.cu_interval.proofs.Unpacked.{list_of_spelled}
use Rattle.cu_unpack.proofs.HalfEdges.{take_entry}
use Rattle.cu_edits.proofs.unchanged_lists.copy_old_list.Goals as goal

pub loop-index-preserved : goal.loop-index-preserved
loop-index-preserved g c =
    let list = list_of c.args.parts.now.before c.args.edge c.args.dir in
    c.in_ok-push.ensures.items ∙ ap (λ (es : List Entry). es ++ c.entry.result ∷ []) c.loop-index.invariant
    ∙ sym (take_entry list c.loop-index.index c.entry.result c.entry.ensures.there)

pub unreachable-requires : goal.unreachable-requires
unreachable-requires g c =
    let h = c.args.parts.now.before in
    let list = list_of h c.args.edge c.args.dir in
    let count = c.entries-count.ensures.count in
    let same : c.loop-index.entries.items ≡ list = c.loop-index.invariant ∙ take_all c.loop-index.index list (omega (arith, count, c.loop-index-test.false)) in
    let none = subst (FindsWayList c.loop-index.entries.items) c.in_default.is c.of.ensures in
    absurd (none (subst IsWayList (sym same) (list_of_spelled h c.entries-count.ensures.sound c.args.edge c.args.dir)))
