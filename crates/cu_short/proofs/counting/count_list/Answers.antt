use Rattle.std.proofs.Common.{rules, ◌≡◌, ℕ, List, subst, sym}
use Rattle.std.specs.Prelude.{slice_index}
use Rattle.cu_model.proofs.ListLaws.{item_there}
use Rattle.cu_interval.specs.Hierarchies.{HierarchyValue}
use Rattle.cu_interval.specs.Shortcuts.{number_of}
use Rattle.cu_short.specs.Steps.Counted.{AreCountedBelow}
use Rattle.cu_short.proofs.Turns.{counts_on}
use Rattle.cu_short.proofs.counting.count_list.Goals as goal

pub list_roads-most-requires-clause-right : goal.list_roads-most-requires-clause-right
list_roads-most-requires-clause-right g c =
    let h : HierarchyValue = g.W.Ways.hierarchy c.args.ways.now in
    subst (λ (counts : List ℕ). AreCountedBelow h (slice_index counts) (number_of c.args.shortcut)) (sym c.as_slice.ensures.value) c.requires.first.right

pub returns-clause-counted : goal.returns-clause-counted
returns-clause-counted g c =
    let h : HierarchyValue = g.W.Ways.hierarchy c.args.ways.now in
    let (ends, at) = item_there h.edges c.args.shortcut.edge c.requires.edge in
    let nodes : c.nodes.result ≡ h.network.nodes = search rules in
    counts_on h c.args.counts.now.items c.push.new.self.items c.args.shortcut c.list_roads-most.result ends at (c.list_roads-most.ensures.most ends at)
    c.nodes.result nodes c.requires.first c.in_ok-push.ensures.items
