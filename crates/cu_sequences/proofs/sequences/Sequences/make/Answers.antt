use Rattle.std.proofs.Common.{ℕ, List, arith, ap, length, subst, sym}
use Rattle.std.proofs.lemmas.List.{with_items_is}
use Rattle.cu_interval.specs.Hierarchies.{HierarchyValue}
use Rattle.cu_sequences.specs.Kept.{AreSequences}
use Rattle.cu_sequences.proofs.sequences.Sequences.make.Goals as goal

pub make_list-requires-clause-holds : goal.make_list-requires-clause-holds
make_list-requires-clause-holds g c =
    let h : HierarchyValue = g.W.Ways.hierarchy c.args.ways.now in
    subst (λ (starts : List ℕ). AreSequences h (record { starts = starts; roads = c.self.inside.roads.items })) (sym c.deref_mut.ensures.value)
    (c.make_places.ensures h c.self.inside.roads.items (subst (AreSequences h) (sym c.self.view_is) c.requires.kept))

pub returns : goal.returns
returns g c =
    let h : HierarchyValue = g.W.Ways.hierarchy c.args.ways.now in
    let same = with_items_is c.make_places.new.starts c.make_list.new.starts (omega (arith, c.make_list.auto.starts, c.deref_mut.ensures.len, ap length c.deref_mut.ensures.value)) in
    subst (λ (starts : List ℕ). AreSequences h (record { starts = starts; roads = c.make_list.new.roads.items })) (sym same) c.make_list.ensures.holds
