use Rattle.std.proofs.Common.{◌∙◌, ap, length, sym}
use Rattle.cu_interval.specs.Hierarchies.{HierarchyValue, list_of}
use Rattle.cu_pack.proofs.Rewrites.EditedLists.{new_list, old_list}
use Rattle.cu_pack.proofs.edited_ways.EditedWaysWays.entries.Goals as goal

pub returns-in_default-clause-count : goal.returns-in_default-clause-count
returns-in_default-clause-count g c =
    let inside = c.self.inside in
    let edge = c.args.edge in
    let dir = c.args.dir in
    let seen = ap (λ (h : HierarchyValue). list_of h edge dir) c.self.view_is in
    let kept = old_list inside.view.now (g.R.Roads.network inside.roads.now) inside.lists.now c.self.invariant edge dir c.in_default.ensures.none in
    c.entries.ensures.count ∙ ap length (sym kept ∙ seen)

pub returns-clause-count : goal.returns-clause-count
returns-clause-count g c =
    let inside = c.self.inside in
    let edge = c.args.edge in
    let dir = c.args.dir in
    let seen = ap (λ (h : HierarchyValue). list_of h edge dir) c.self.view_is in
    let new = new_list inside.view.now (g.R.Roads.network inside.roads.now) inside.lists.now c.self.invariant edge dir c.in-Some.list.now c.in-Some.ensures.found in
    ap length (c.entries-2.ensures.all ∙ sym new ∙ seen)
