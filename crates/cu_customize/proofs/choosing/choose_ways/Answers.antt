use Rattle.std.proofs.Common.{◌∙◌, refl, sym, ap, subst}
use Rattle.std.proofs.lemmas.Option.{slice_get_within}
use Rattle.cu_interval.specs.declared.ways.Entry.{Entry}
use Rattle.cu_interval.specs.WayLists.{IsWayList, way_in}
use Rattle.std.proofs.Common.{List, [], ◌≢◌}
use Rattle.cu_customize.specs.Steps.Choosing.{chosen}
use Rattle.cu_customize.proofs.Fronts.{chosen_at, chosen_list, chosen_none, chosen_some, chosen_step, first_front}
use Rattle.cu_customize.proofs.choosing.choose_ways.Goals as goal

pub day-init : goal.day-init
day-init c =
    let some : c.entries-entries.result.now ≢ [] = subst (λ (es : List Entry). es ≢ []) (sym c.entries-entries.ensures.all) c.requires.some in
    let list : IsWayList c.entries-entries.result.now = subst (λ (es : List Entry). IsWayList es) (sym c.entries-entries.ensures.all) c.entries-entries.ensures.valid in
    record {
      front = first_front c.entries-entries.result.now c.args.choices.now _ list some c.requires.choices refl;
      grown = chosen_none c.entries-entries.result.now c.args.choices.now c.args.way _ c.new-merged.ensures.items;
    }

pub chosen_way-requires-clause-entry : goal.chosen_way-requires-clause-entry
chosen_way-requires-clause-entry c =
    let (x, there, begun) = (c.day.invariant.front.entry c.day-test.true).begun in
    slice_get_within c.entries-entries.result.now c.day.front.entry x there

pub chosen_way-requires-clause-choice : goal.chosen_way-requires-clause-choice
chosen_way-requires-clause-choice c =
    let (x, there, begun) = (c.day.invariant.front.choice c.day-test.true).begun in
    slice_get_within c.args.choices.now c.day.front.choice x there

pub day-preserved : goal.day-preserved
day-preserved c =
    let list : IsWayList c.entries-entries.result.now = subst (λ (es : List Entry). IsWayList es) (sym c.entries-entries.ensures.all) c.entries-entries.ensures.valid in
    record {
      front = c.advance-front.ensures.front;
      grown = chosen_step c.entries-entries.result.now c.args.choices.now c.args.way c.day.front c.advance-front.result c.day.merged.items _ _ list
          c.requires.choices c.day.invariant.front c.day-test.true
          c.advance-front.ensures c.day.invariant.grown refl c.chosen_way.ensures c.in_ok-push_entry.ensures;
    }

pub list_of-requires : goal.list_of-requires
list_of-requires c =
    chosen_list c.entries-entries.result.now c.args.choices.now c.args.way c.day.merged.items c.day.front.at c.day.invariant.front.within c.day-test.false c.day.invariant.grown

pub returns-clause-valid : goal.returns-clause-valid
returns-clause-valid c =
    subst (λ (es : List Entry). IsWayList es) (sym c.list_of.ensures)
    (chosen_list c.entries-entries.result.now c.args.choices.now c.args.way c.day.merged.items c.day.front.at c.day.invariant.front.within c.day-test.false c.day.invariant.grown)

pub returns-clause-some : goal.returns-clause-some
returns-clause-some c =
    subst (λ (es : List Entry). es ≢ []) (sym c.list_of.ensures)
    (chosen_some c.entries-entries.result.now c.args.choices.now c.args.way c.day.merged.items c.day.front.at c.day-test.false c.day.invariant.grown)

pub returns-clause-chosen : goal.returns-clause-chosen
returns-clause-chosen c t lt =
    ap (λ (es : List Entry). way_in es t) c.list_of.ensures
    ∙ chosen_at c.entries-entries.result.now c.args.choices.now c.args.way c.day.merged.items c.day.front.at t c.day-test.false lt c.day.invariant.grown
    ∙ ap (λ (es : List Entry). chosen es c.args.choices.now c.args.way t) c.entries-entries.ensures.all
