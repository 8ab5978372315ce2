use Rattle.std.proofs.Common.{◌≡◌, ◌*◌, ◌++◌, ◌∙◌, List, [], ◌∷◌, ap, length, subst, sym}
use Rattle.cu_interval.specs.declared.shortcuts.Shortcut.{Shortcut}
use Rattle.cu_unpack.specs.Rebuilds.{IsKept, RebuiltValue}
use Rattle.cu_unpack.specs.Steps.Rebuilding.{AreKept, IsMissing}
use Rattle.cu_unpack.proofs.HalvesFirst.{AreWaitingHalves, IsNextHalf, half_smaller, half_waits, next_taken, one_smaller, still_wait}
use Rattle.cu_unpack.proofs.KeptFunctions.{are_kept, count_missing, fewer_missing, still_missing}
use Rattle.cu_unpack.proofs.rebuilding.rebuild.Given as given
use Rattle.cu_unpack.proofs.rebuilding.rebuild.Goals as goal
use Rattle.cu_unpack.proofs.rebuilding.rebuild.Goals.{After-take_next-next}

-- the next is missing
next_missing : (g : given.Over) (c : After-take_next-next g)
    → IsNextHalf (IsMissing (g.W.Ways.hierarchy c.args.ways.now) (IsKept c.shortcuts.rebuilt.kept)) c.take_next-next.new.waiting.items c.take_next-next.result
next_missing g c =
    let Misses = IsMissing (g.W.Ways.hierarchy c.args.ways.now) (IsKept c.shortcuts.rebuilt.kept) in
    let missing : Misses c.args.shortcut = (c.requires.ways, λ kept. let yes = c.is_known.ensures.1 kept in absurd (cc (yes, c.shortcuts-test.true))) in
    next_taken Misses c.shortcuts.waiting.items c.take_next-next.new.waiting.items c.args.shortcut c.take_next-next.result c.shortcuts.invariant.waiting missing c.take_next-next.ensures

pub shortcuts-smaller-in-Continue-branch-2 : goal.shortcuts-smaller-in-Continue-branch-2
shortcuts-smaller-in-Continue-branch-2 g c =
    let rest = c.take_next-next.new.waiting.items in
    let next = c.take_next-next.result in
    let half = c.in-Some.half in
    let grown : c.push-in-Some.new.self.items ≡ (rest ++ next ∷ []) ++ half ∷ [] =
    c.in_ok-push-in-Some-2.ensures.items ∙ ap (λ (xs : List Shortcut). xs ++ half ∷ []) c.in_ok-push-in-Some.ensures.items in
    half_smaller (count_missing c.shortcuts.rebuilt.kept * length (g.W.Ways.hierarchy c.args.ways.now).edges) c.shortcuts.waiting.items c.push-in-Some.new.self.items rest c.args.shortcut next half
    c.take_next-next.ensures grown c.in-Some.ensures.missing.lower

pub shortcuts-preserved-in-Continue-branch-2 : goal.shortcuts-preserved-in-Continue-branch-2
shortcuts-preserved-in-Continue-branch-2 g c =
    let Misses = IsMissing (g.W.Ways.hierarchy c.args.ways.now) (IsKept c.shortcuts.rebuilt.kept) in
    let rest = c.take_next-next.new.waiting.items in
    let next = c.take_next-next.result in
    let taken = next_missing g (goal.at.shortcuts-preserved-in-Continue-branch-2 g c).After-take_next-next in
    let half = c.in-Some.half in
    let grown : c.push-in-Some.new.self.items ≡ (rest ++ next ∷ []) ++ half ∷ [] =
    c.in_ok-push-in-Some-2.ensures.items ∙ ap (λ (xs : List Shortcut). xs ++ half ∷ []) c.in_ok-push-in-Some.ensures.items in
    record {
      kept = c.shortcuts.invariant.kept;
      waiting = subst (AreWaitingHalves Misses) (sym grown) (half_waits Misses rest next half taken c.in-Some.ensures.missing.missing c.in-Some.ensures.missing.lower);
    }

pub keep_function-requires-clause-ways : goal.keep_function-requires-clause-ways
keep_function-requires-clause-ways g c = (next_missing g (goal.at.keep_function-requires-clause-ways g c).After-take_next-next).open_still.0

pub shortcuts-smaller : goal.shortcuts-smaller
shortcuts-smaller g c =
    let h = g.W.Ways.hierarchy c.args.ways.now in
    let next = c.take_next-next.result in
    let before = c.shortcuts.rebuilt.kept in
    let now = c.keep_function.new.rebuilt.kept in
    let taken = next_missing g (goal.at.shortcuts-smaller g c).After-take_next-next in
    one_smaller (IsMissing h (IsKept before)) (length h.edges) (count_missing before) (count_missing now) c.shortcuts.waiting.items c.take_next-next.new.waiting.items c.args.shortcut next taken
    (λ s lacks. lacks.0.0) (fewer_missing h next before now c.shortcuts.invariant.kept taken.open_still c.in_ok-keep_function-in-None.ensures.found) c.requires.ways.0

pub shortcuts-preserved : goal.shortcuts-preserved
shortcuts-preserved g c =
    let h = g.W.Ways.hierarchy c.args.ways.now in
    let next = c.take_next-next.result in
    let before = c.shortcuts.rebuilt.kept in
    let now = c.keep_function.new.rebuilt.kept in
    let taken = next_missing g (goal.at.shortcuts-preserved g c).After-take_next-next in
    let found = c.in_ok-keep_function-in-None.ensures.found in
    record {
      kept = are_kept h next before now taken.open_still.0.0 c.shortcuts.invariant.kept found;
      waiting = still_wait (IsMissing h (IsKept before)) (IsMissing h (IsKept now)) c.take_next-next.new.waiting.items next taken
          (λ other above missing. still_missing h next other before now above found missing);
    }

pub returns-in_err-keep_function-in-None-clause-kept : goal.returns-in_err-keep_function-in-None-clause-kept
returns-in_err-keep_function-in-None-clause-kept g c =
    subst (λ (value : RebuiltValue). AreKept (g.W.Ways.hierarchy c.args.ways.now) value.kept) (sym c.in_err-keep_function-in-None.ensures.same) c.shortcuts.invariant.kept
