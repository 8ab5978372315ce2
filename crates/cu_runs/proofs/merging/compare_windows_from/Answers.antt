use Rattle.std.proofs.Common.{◌≡◌, ◌≤◌, ◌<◌, ℕ, arith, rules, subst, sym, inl, inr}
use Rattle.std.proofs.lemmas.Bool.{cases_lt}
use Rattle.cu_runs.specs.Steps.Merging.{IsMerging, IsLate}
use Rattle.cu_runs.specs.Windows.{window_start}
use Rattle.cu_runs.proofs.SeenLaws.{linked_between, merging_late}
use Rattle.cu_runs.proofs.WindowLaws.{starts_between, starts_in_day, starts_rise}
use Rattle.cu_runs.proofs.merging.compare_windows_from.Goals as goal

pub returns-then-is_late-clause-order : goal.returns-then-is_late-clause-order
returns-then-is_late-clause-order c = let rise = starts_rise c.args.windowed.now.limits.windows c.args.window in let order = c.requires.order in omega (arith, rise, order)

pub returns-then-is_late-clause-merged : goal.returns-then-is_late-clause-merged
returns-then-is_late-clause-merged c arrival sees is =
    merging_late c.args.windowed.now.limits c.args.windowed.now.candidate c.args.least.now arrival sees c.args.next.now c.args.window c.requires.window (c.is_late.ensures.0 (search rules)) is

pub returns-then-from-until-clause-order : goal.returns-then-from-until-clause-order
returns-then-from-until-clause-order c =
    let rise = starts_between c.args.windowed.now.limits.windows c.args.window c.late_from-end.result (omega (arith, c.late_from-end.ensures.from)) in
    let order = c.requires.order in
    omega (arith, rise, order)

pub returns-then-from-until-clause-merged : goal.returns-then-from-until-clause-merged
returns-then-from-until-clause-merged c arrival sees is =
    let windows = c.args.windowed.now.limits.windows in
    let rise = starts_between windows c.args.window c.late_from-end.result (omega (arith, c.late_from-end.ensures.from)) in
    let from = c.start_in-from.ensures c.args.windowed.now.limits.windows c.requires.starts in
    let until = c.start_in-until.ensures c.args.windowed.now.limits.windows c.requires.starts in
    let late = c.if-from-until.true in
    let same : window_start windows c.args.window ≡ window_start windows c.late_from-end.result = omega (arith, rise, from, until, late) in
    subst (λ (t : ℕ). IsMerging c.args.least.now arrival c.args.windowed.now.candidate.way c.args.next.now t) same is

pub link_and_compare-requires-clause-order : goal.link_and_compare-requires-clause-order
link_and_compare-requires-clause-order c = let from = c.start_in-from.ensures c.args.windowed.now.limits.windows c.requires.starts in let order = c.requires.order in omega (arith, from, order)

pub link_and_compare-requires-clause-in_day : goal.link_and_compare-requires-clause-in_day
link_and_compare-requires-clause-in_day c = let until = c.start_in-until.ensures c.args.windowed.now.limits.windows c.requires.starts in
    let in_day = starts_in_day c.args.windowed.now.limits.windows c.late_from-end.result in omega (arith, until, in_day)

pub returns-clause-order : goal.returns-clause-order
returns-clause-order c = let until = c.start_in-until.ensures c.args.windowed.now.limits.windows c.requires.starts in let order = c.in_ok-link_and_compare.ensures.order in omega (arith, until, order)

pub returns-clause-merged : goal.returns-clause-merged
returns-clause-merged c arrival sees is =
    let l = c.args.least.now in
    let limits = c.args.windowed.now.limits in
    let window = c.args.window in
    let end = c.late_from-end.result in
    let from = c.late_from-end.ensures.from in
    let here : IsLate limits.lower.now limits.most.now window → ⊥ = λ late. let test = c.is_late.ensures.1 late in absurd (cc (test, c.if-is_late.false)) in
    let early : (w : ℕ) → window ≤ w → w < end → IsLate limits.lower.now limits.most.now w → ⊥ = λ w after before. elim (cases_lt window w) [
      | inl lt ↦ c.late_from-end.ensures.before w (omega (arith, lt)) before
      | inr ge ↦ let same : window ≡ w = omega (arith, after, ge) in subst (λ (n : ℕ). IsLate limits.lower.now limits.most.now n → ⊥) same here
    ] in
    let begun = subst (λ (t : ℕ). IsMerging l arrival c.args.windowed.now.candidate.way c.args.next.now t) (sym (c.start_in-from.ensures c.args.windowed.now.limits.windows c.requires.starts)) is in
    let start = c.start_in-from.ensures c.args.windowed.now.limits.windows c.requires.starts in
    let stop = c.start_in-until.ensures c.args.windowed.now.limits.windows c.requires.starts in
    subst (λ (t : ℕ). IsMerging l arrival c.args.windowed.now.candidate.way c.link_and_compare.new.next t) (c.start_in-until.ensures c.args.windowed.now.limits.windows c.requires.starts)
    (c.in_ok-link_and_compare.ensures.merged arrival
    (λ s late before. linked_between limits c.args.windowed.now.candidate l arrival sees window end s (omega (arith, from)) c.late_from-end.ensures.within early
    (omega (arith, late, start)) (omega (arith, before, stop))) begun)
