use Rattle.std.proofs.Common.{◌≡◌, ◌*◌, ◌++◌, ◌∙◌, List, [], ◌∷◌, true, ap, length, rules, subst, sym}
use Rattle.cu_interval.specs.declared.shortcuts.Shortcut.{Shortcut}
use Rattle.cu_unpack.specs.RebuiltRuns.{IsNeeded, KeepsPacked}
use Rattle.cu_unpack.specs.Steps.PackedRebuilding.{IsUnknown, LearnsIf, LearnsOne}
use Rattle.cu_unpack.proofs.HalvesFirst.{AreWaitingHalves, IsNextHalf, half_smaller, half_waits, next_taken, one_smaller, still_wait}
use Rattle.cu_unpack.proofs.KnownLists.{count_unknown, fewer_unknown, learns_both, learns_one, one_sized, still_unknown}
use Rattle.cu_unpack.proofs.Learning.{learned_keeps, needs_itself, needs_needed, needs_side}
use Rattle.cu_unpack.proofs.packed_rebuilding.learn_all.Given as given
use Rattle.cu_unpack.proofs.packed_rebuilding.learn_all.Goals as goal
use Rattle.cu_unpack.proofs.packed_rebuilding.learn_all.Goals.{After-take_next-next}

-- the next isn't known, and needed
next_unknown : (g : given.Over) (c : After-take_next-next g)
    → IsNextHalf (IsUnknown (g.W.Ways.hierarchy c.args.ways.now) c.args.shortcut.edge c.shortcuts.table) c.take_next-next.new.waiting.items c.take_next-next.result
next_unknown g c =
    let h = g.W.Ways.hierarchy c.args.ways.now in
    let asked = c.args.shortcut.edge in
    let unknown : IsUnknown h asked c.shortcuts.table c.args.shortcut =
    ((c.requires.ways, λ known. let said = c.is_known.ensures.1 known in absurd (cc (said, c.shortcuts-test.true))), needs_itself h.edges asked) in
    next_taken (IsUnknown h asked c.shortcuts.table) c.shortcuts.waiting.items c.take_next-next.new.waiting.items c.args.shortcut c.take_next-next.result c.shortcuts.invariant.waiting unknown
    c.take_next-next.ensures

pub shortcuts-smaller-in_ok-push-in-Some-2 : goal.shortcuts-smaller-in_ok-push-in-Some-2
shortcuts-smaller-in_ok-push-in-Some-2 g c =
    let rest = c.take_next-next.new.waiting.items in
    let next = c.take_next-next.result in
    let half = c.in-Some.half in
    let grown : c.push-in-Some.new.self.items ≡ (rest ++ next ∷ []) ++ half ∷ [] =
    c.in_ok-push-in-Some-2.ensures.items ∙ ap (λ (xs : List Shortcut). xs ++ half ∷ []) c.in_ok-push-in-Some.ensures.items in
    half_smaller (count_unknown c.shortcuts.table * length (g.W.Ways.hierarchy c.args.ways.now).edges) c.shortcuts.waiting.items c.push-in-Some.new.self.items rest c.args.shortcut next half
    c.take_next-next.ensures grown c.in-Some.ensures.missing.lower

pub shortcuts-preserved-in_ok-push-in-Some-2 : goal.shortcuts-preserved-in_ok-push-in-Some-2
shortcuts-preserved-in_ok-push-in-Some-2 g c =
    let h = g.W.Ways.hierarchy c.args.ways.now in
    let asked = c.args.shortcut.edge in
    let value = c.shortcuts.table in
    let rest = c.take_next-next.new.waiting.items in
    let next = c.take_next-next.result in
    let taken = next_unknown g (goal.at.shortcuts-preserved-in_ok-push-in-Some-2 g c).After-take_next-next in
    let half = c.in-Some.half in
    let grown : c.push-in-Some.new.self.items ≡ (rest ++ next ∷ []) ++ half ∷ [] =
    c.in_ok-push-in-Some-2.ensures.items ∙ ap (λ (xs : List Shortcut). xs ++ half ∷ []) c.in_ok-push-in-Some.ensures.items in
    let found = c.in-Some.ensures.missing in
    record {
      size = c.shortcuts.invariant.size;
      learns = c.shortcuts.invariant.learns;
      waiting = subst (AreWaitingHalves (IsUnknown h asked value)) (sym grown)
          (half_waits (IsUnknown h asked value) rest next half taken (found.missing, needs_side h.edges asked next.edge half.edge taken.open_still.1 found.side) found.lower);
    }

pub learn_list-requires-clause-ways : goal.learn_list-requires-clause-ways
learn_list-requires-clause-ways g c = (next_unknown g (goal.at.learn_list-requires-clause-ways g c).After-take_next-next).open_still.0.0

pub learn_list-requires-clause-keeps : goal.learn_list-requires-clause-keeps
learn_list-requires-clause-keeps g c =
    let h = g.W.Ways.hierarchy c.args.ways.now in
    let asked = c.args.shortcut.edge in
    let value = c.shortcuts.table in
    let needed = (next_unknown g (goal.at.learn_list-requires-clause-keeps g c).After-take_next-next).open_still.1 in
    let keeps : KeepsPacked h (IsNeeded h.edges asked) value = learned_keeps h (IsNeeded h.edges asked) asked c.args.table.now value c.shortcuts.invariant.learns c.requires.keeps in
    λ edge dir also. keeps edge dir (needs_needed h.edges asked c.take_next-next.result.edge edge needed also)

pub shortcuts-smaller : goal.shortcuts-smaller
shortcuts-smaller g c =
    let h = g.W.Ways.hierarchy c.args.ways.now in
    let asked = c.args.shortcut.edge in
    let value = c.shortcuts.table in
    let rest = c.take_next-next.new.waiting.items in
    let next = c.take_next-next.result in
    let taken = next_unknown g (goal.at.shortcuts-smaller g c).After-take_next-next in
    let is_near : c.in_ok-learn_list-in-None.field-0 ≡ true = search rules in
    let one : LearnsOne h next value c.learn_list.new.table = subst (LearnsIf h next value c.learn_list.new.table) is_near c.in_ok-learn_list-in-None.ensures.learned in
    one_smaller (IsUnknown h asked value) (length h.edges) (count_unknown value) (count_unknown c.learn_list.new.table) c.shortcuts.waiting.items rest c.args.shortcut next taken
    (λ s lacks. lacks.0.0.0) (fewer_unknown h next value c.learn_list.new.table c.shortcuts.invariant.size taken.open_still.0.0.0 one taken.open_still.0.1) c.requires.ways.0

pub shortcuts-preserved : goal.shortcuts-preserved
shortcuts-preserved g c =
    let h = g.W.Ways.hierarchy c.args.ways.now in
    let asked = c.args.shortcut.edge in
    let value = c.shortcuts.table in
    let rest = c.take_next-next.new.waiting.items in
    let next = c.take_next-next.result in
    let taken = next_unknown g (goal.at.shortcuts-preserved g c).After-take_next-next in
    let is_near : c.in_ok-learn_list-in-None.field-0 ≡ true = search rules in
    let now = c.learn_list.new.table in
    let one : LearnsOne h next value now = subst (LearnsIf h next value now) is_near c.in_ok-learn_list-in-None.ensures.learned in
    let size = c.shortcuts.invariant.size in
    let inside = taken.open_still.0.0.0 in
    record {
      size = one_sized h next value now size inside one;
      learns = learns_both h asked c.args.table.now value now c.shortcuts.invariant.learns (learns_one h next value now size inside one asked taken.open_still.1 taken.open_still.0.1);
      waiting = still_wait (IsUnknown h asked value) (IsUnknown h asked now) rest next taken (λ other above lacks. still_unknown h next value now size inside one asked other above lacks);
    }
