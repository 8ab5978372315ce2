use Rattle.std.proofs.Common.{◌∙◌, List, ap, arith, length, sym}
use Rattle.std.specs.Prelude.{slice_get}
use Rattle.std.proofs.lemmas.Option.{slice_get-get_or}
use Rattle.cu_interval.specs.declared.ways.Entry.{Entry}
use Rattle.cu_interval.specs.Hierarchies.{HierarchyValue, list_of}
use Rattle.cu_pack.proofs.Rewrites.EditedLists.{new_list, old_list}
use Rattle.cu_pack.proofs.edited_ways.EditedWaysWays.entry.Goals as goal

pub entry-requires-clause-index : goal.entry-requires-clause-index
entry-requires-clause-index g c =
    let inside = c.self.inside in
    let edge = c.args.edge in
    let dir = c.args.dir in
    let seen = ap (λ (h : HierarchyValue). list_of h edge dir) c.self.view_is in
    let kept = old_list inside.view.now (g.R.Roads.network inside.roads.now) inside.lists.now c.self.invariant edge dir c.in_default.ensures.none in
    omega (arith, c.requires.index, ap length (sym seen ∙ kept))

pub returns-in_default-clause-there : goal.returns-in_default-clause-there
returns-in_default-clause-there g c =
    let inside = c.self.inside in
    let edge = c.args.edge in
    let dir = c.args.dir in
    let seen = ap (λ (h : HierarchyValue). list_of h edge dir) c.self.view_is in
    let kept = old_list inside.view.now (g.R.Roads.network inside.roads.now) inside.lists.now c.self.invariant edge dir c.in_default.ensures.none in
    ap (λ (entries : List Entry). slice_get entries c.args.index) (sym seen ∙ kept) ∙ c.entry.ensures.there

pub bounds-entries-index : goal.bounds-entries-index
bounds-entries-index g c =
    let inside = c.self.inside in
    let edge = c.args.edge in
    let dir = c.args.dir in
    let seen = ap (λ (h : HierarchyValue). list_of h edge dir) c.self.view_is in
    let new = new_list inside.view.now (g.R.Roads.network inside.roads.now) inside.lists.now c.self.invariant edge dir c.in-Some.list.now c.in-Some.ensures.found in
    omega (arith, c.requires.index, ap length (sym seen ∙ new ∙ sym c.entries.ensures.all))

pub returns-clause-there : goal.returns-clause-there
returns-clause-there g c =
    let inside = c.self.inside in
    let edge = c.args.edge in
    let dir = c.args.dir in
    let seen = ap (λ (h : HierarchyValue). list_of h edge dir) c.self.view_is in
    let new = new_list inside.view.now (g.R.Roads.network inside.roads.now) inside.lists.now c.self.invariant edge dir c.in-Some.list.now c.in-Some.ensures.found in
    let entries = c.entries.result.now in
    let same = sym seen ∙ new ∙ sym c.entries.ensures.all in
    ap (λ (es : List Entry). slice_get es c.args.index) same ∙ slice_get-get_or entries c.args.index _ (omega (arith, c.requires.index, ap length same))
