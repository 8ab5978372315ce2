use Rattle.std.proofs.Common.{◌∙◌, List, ap, sym}
use Rattle.cu_interval.specs.declared.ways.Entry.{Entry}
use Rattle.cu_interval.specs.WayLists.{way_at}
use Rattle.cu_interval.specs.Hierarchies.{HierarchyValue, list_of}
use Rattle.cu_pack.proofs.Rewrites.EditedLists.{new_list, old_list}
use Rattle.cu_pack.proofs.edited_ways.EditedWaysWays.way.Goals as goal

pub returns-in_default-clause-way : goal.returns-in_default-clause-way
returns-in_default-clause-way g c =
    let inside = c.self.inside in
    let edge = c.args.edge in
    let dir = c.args.dir in
    let seen = ap (λ (h : HierarchyValue). list_of h edge dir) c.self.view_is in
    let kept = old_list inside.view.now (g.R.Roads.network inside.roads.now) inside.lists.now c.self.invariant edge dir c.in_default.ensures.none in
    c.way.ensures.way ∙ ap (λ (entries : List Entry). way_at entries c.args.second) (sym kept ∙ seen)

pub returns-clause-way : goal.returns-clause-way
returns-clause-way g c =
    let inside = c.self.inside in
    let edge = c.args.edge in
    let dir = c.args.dir in
    let seen = ap (λ (h : HierarchyValue). list_of h edge dir) c.self.view_is in
    let new = new_list inside.view.now (g.R.Roads.network inside.roads.now) inside.lists.now c.self.invariant edge dir c.in-Some.list.now c.in-Some.ensures.found in
    c.at.ensures ∙ ap (λ (entries : List Entry). way_at entries c.args.second) (sym new ∙ seen)
