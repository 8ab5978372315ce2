use Rattle.std.proofs.Common.{◌≡◌, ◌≤◌, ◌<◌, ◌+◌, ◌^◌, ◌∙◌, ℕ, Option, Some, None, true, false, refl, sym, ap, subst, rules}
use Rattle.cu_interval.specs.declared.relaxing.Relaxed.{Relaxed}
use Rattle.cu_interval.specs.Calls.{IfAt}
use Rattle.cu_sweep.specs.Labels.{call_from}
use Rattle.cu_sweep.specs.Sweeps.{AddsAll, call_at, call_unless, first_long, is_by}
use Rattle.cu_sweep.specs.Places.{calls_of_some, second_at}
use Rattle.cu_sweep.specs.Steps.Made.{call_if}
use Rattle.cu_sweep.specs.Steps.Sweeping.{IfSecond, answer_in, links_after, long_by, seconds_after}
use Rattle.cu_interval.specs.declared.relaxing.Call.{Call}
use Rattle.cu_interval.specs.Unpacking.{relaxed}
use Rattle.cu_interval.specs.LeastBounds.{least_bound}
use Rattle.cu_interval.proofs.BoundLaws.{relaxed_takes}
use Rattle.cu_sweep.proofs.LeftOut.{links_left, relaxed_near, seconds_left}
use Rattle.cu_sweep.proofs.Rows.{long_call}
use Rattle.cu_sweep.proofs.Telling.{adds_none, adds_one}
use Rattle.cu_sweep.proofs.sweeping.relax_into.Goals as goal

pub returns-in_default-clause-told : goal.returns-in_default-clause-told
returns-in_default-clause-told g c =
    let none : second_at c.args.labels.now c.args.leg.from ≡ None = search rules in
    let calls = g.R.Relaxer.calls c.args.relaxer.now in
    let h = g.R.Relaxer.hierarchy c.args.relaxer.now in
    let reached = second_at c.args.labels.now c.args.leg.into in
    let allowed = g.L.Limits.allows c.args.limits.now c.args.leg.into in
    subst (λ (o : Option ℕ). AddsAll calls calls (calls_of_some (call_unless h reached (call_if h allowed (call_at (Some c.args.leg.edge) c.args.leg.dir o))))) (sym none) (adds_none calls)

pub relax-answer-requires-clause-time : goal.relax-answer-requires-clause-time
relax-answer-requires-clause-time g c = subst (λ (o : Option ℕ). IfSecond o (λ at. at < 2 ^ 61)) c.in-Some.is c.requires.time

pub returns-clause-labels : goal.returns-clause-labels
returns-clause-labels g c =
    let h = g.R.Relaxer.hierarchy c.args.relaxer.now in
    let allowed = g.L.Limits.allows c.args.limits.now c.args.leg.into in
    let second = c.in-Some.second in
    let may : allowed (second + least_bound h c.args.leg.edge c.args.leg.dir) ≡ true =
    ap (λ (n : ℕ). allowed (second + n)) (sym c.least.ensures.bound) ∙ sym c.allow.ensures.allowed ∙ c.if-not-allow.false in
    let answer : answer_in h allowed c.args.leg.edge c.args.leg.dir (Some second) ≡ relaxed h c.args.leg.edge c.args.leg.dir second = rw may refl in
    c.give.ensures.labels ∙ ap (seconds_after c.args.labels.now c.args.leg.into)
    (c.relax-answer.ensures.answer ∙ sym answer ∙ ap (answer_in h allowed c.args.leg.edge c.args.leg.dir) (sym c.in-Some.is))

pub returns-clause-links : goal.returns-clause-links
returns-clause-links g c =
    let h = g.R.Relaxer.hierarchy c.args.relaxer.now in
    let allowed = g.L.Limits.allows c.args.limits.now c.args.leg.into in
    let second = c.in-Some.second in
    let may : allowed (second + least_bound h c.args.leg.edge c.args.leg.dir) ≡ true =
    ap (λ (n : ℕ). allowed (second + n)) (sym c.least.ensures.bound) ∙ sym c.allow.ensures.allowed ∙ c.if-not-allow.false in
    let answer : answer_in h allowed c.args.leg.edge c.args.leg.dir (Some second) ≡ relaxed h c.args.leg.edge c.args.leg.dir second = rw may refl in
    c.give.ensures.links ∙ ap (links_after c.args.labels.now (g.K.Linking.links c.args.chain.now) c.args.leg.from c.args.leg.edge c.args.leg.into)
    (c.relax-answer.ensures.answer ∙ sym answer ∙ ap (answer_in h allowed c.args.leg.edge c.args.leg.dir) (sym c.in-Some.is))

pub returns-clause-long : goal.returns-clause-long
returns-clause-long g c =
    let h = g.R.Relaxer.hierarchy c.args.relaxer.now in
    let reached = second_at c.args.labels.now c.args.leg.into in
    let allowed = g.L.Limits.allows c.args.limits.now c.args.leg.into in
    let second = c.in-Some.second in
    let call = call_from c.args.leg.edge c.args.leg.dir second in
    let not : is_by reached (second + least_bound h c.args.leg.edge c.args.leg.dir) ≡ false =
    ap (λ (n : ℕ). is_by reached (second + n)) (sym c.least.ensures.bound) ∙ sym c.is_reached_by.ensures ∙ c.if-is_reached_by.false in
    let may : allowed (second + least_bound h c.args.leg.edge c.args.leg.dir) ≡ true =
    ap (λ (n : ℕ). allowed (second + n)) (sym c.least.ensures.bound) ∙ sym c.allow.ensures.allowed ∙ c.if-not-allow.false in
    let made : call_unless h reached (call_if h allowed (Some call)) ≡ Some call = rw (may, not) refl in
    subst (λ (o : Option ℕ). c.long_of.result ≡ first_long h (calls_of_some (call_unless h reached (call_if h allowed (call_at (Some c.args.leg.edge) c.args.leg.dir o))))) (sym c.in-Some.is)
    (c.long_of.ensures ∙ ap (λ (r : Relaxed). long_by r (Some call)) c.relax-answer.ensures.answer ∙ sym (long_call (relaxed h c.args.leg.edge c.args.leg.dir second) call)
    ∙ sym (ap (λ (o : Option Call). first_long h (calls_of_some o)) made))

pub returns-clause-near : goal.returns-clause-near
returns-clause-near g c =
    let h = g.R.Relaxer.hierarchy c.args.relaxer.now in
    let allowed = g.L.Limits.allows c.args.limits.now c.args.leg.into in
    let second = c.in-Some.second in
    let may : allowed (second + least_bound h c.args.leg.edge c.args.leg.dir) ≡ true =
    ap (λ (n : ℕ). allowed (second + n)) (sym c.least.ensures.bound) ∙ sym c.allow.ensures.allowed ∙ c.if-not-allow.false in
    let answer : answer_in h allowed c.args.leg.edge c.args.leg.dir (Some second) ≡ relaxed h c.args.leg.edge c.args.leg.dir second = rw may refl in
    subst (λ (o : Option ℕ). IfSecond o (λ at. IfAt (answer_in h allowed c.args.leg.edge c.args.leg.dir (Some at)) (λ (arrival : ℕ). arrival ≤ at + 2 ^ 38))) (sym c.in-Some.is)
    (subst (λ (r : Relaxed). IfAt r (λ (arrival : ℕ). arrival ≤ second + 2 ^ 38)) (sym answer) (relaxed_near h c.requires.sound c.args.leg.edge c.args.leg.dir second))

pub returns-clause-told : goal.returns-clause-told
returns-clause-told g c =
    let h = g.R.Relaxer.hierarchy c.args.relaxer.now in
    let reached = second_at c.args.labels.now c.args.leg.into in
    let allowed = g.L.Limits.allows c.args.limits.now c.args.leg.into in
    let second = c.in-Some.second in
    let call = call_from c.args.leg.edge c.args.leg.dir second in
    let not : is_by reached (second + least_bound h c.args.leg.edge c.args.leg.dir) ≡ false =
    ap (λ (n : ℕ). is_by reached (second + n)) (sym c.least.ensures.bound) ∙ sym c.is_reached_by.ensures ∙ c.if-is_reached_by.false in
    let may : allowed (second + least_bound h c.args.leg.edge c.args.leg.dir) ≡ true =
    ap (λ (n : ℕ). allowed (second + n)) (sym c.least.ensures.bound) ∙ sym c.allow.ensures.allowed ∙ c.if-not-allow.false in
    let made : call_unless h reached (call_if h allowed (Some call)) ≡ Some call = rw (may, not) refl in
    let before = g.R.Relaxer.calls c.args.relaxer.now in
    let after = g.R.Relaxer.calls c.relax-answer.new.self in
    subst (λ (o : Option ℕ). AddsAll before after (calls_of_some (call_unless h reached (call_if h allowed (call_at (Some c.args.leg.edge) c.args.leg.dir o))))) (sym c.in-Some.is)
    (subst (λ (o : Option Call). AddsAll before after (calls_of_some o)) (sym made) (adds_one before after call c.relax-answer.ensures.told))

pub returns-then-is_reached_by-clause-labels : goal.returns-then-is_reached_by-clause-labels
returns-then-is_reached_by-clause-labels g c =
    let h = g.R.Relaxer.hierarchy c.args.relaxer.now in
    let allowed = g.L.Limits.allows c.args.limits.now c.args.leg.into in
    let second = c.in-Some.second in
    let may : allowed (second + least_bound h c.args.leg.edge c.args.leg.dir) ≡ true =
    ap (λ (n : ℕ). allowed (second + n)) (sym c.least.ensures.bound) ∙ sym c.allow.ensures.allowed ∙ c.if-not-allow.false in
    let answer : answer_in h allowed c.args.leg.edge c.args.leg.dir (Some second) ≡ relaxed h c.args.leg.edge c.args.leg.dir second = rw may refl in
    let reached = second_at c.args.labels.now c.args.leg.into in
    let by : is_by reached (second + least_bound h c.args.leg.edge c.args.leg.dir) ≡ true =
    ap (λ (n : ℕ). is_by reached (second + n)) (sym c.least.ensures.bound) ∙ sym c.is_reached_by.ensures ∙ c.if-is_reached_by.true in
    let late = relaxed_takes h c.requires.sound c.args.leg.edge c.args.leg.dir second in
    subst (λ (o : Option ℕ). c.args.labels.now ≡ seconds_after c.args.labels.now c.args.leg.into (answer_in h allowed c.args.leg.edge c.args.leg.dir o)) (sym c.in-Some.is)
    (subst (λ (r : Relaxed). c.args.labels.now ≡ seconds_after c.args.labels.now c.args.leg.into r) (sym answer)
    (sym (seconds_left c.args.labels.now c.args.leg.into (second + least_bound h c.args.leg.edge c.args.leg.dir) by (relaxed h c.args.leg.edge c.args.leg.dir second) late)))

pub returns-then-is_reached_by-clause-links : goal.returns-then-is_reached_by-clause-links
returns-then-is_reached_by-clause-links g c =
    let h = g.R.Relaxer.hierarchy c.args.relaxer.now in
    let allowed = g.L.Limits.allows c.args.limits.now c.args.leg.into in
    let second = c.in-Some.second in
    let may : allowed (second + least_bound h c.args.leg.edge c.args.leg.dir) ≡ true =
    ap (λ (n : ℕ). allowed (second + n)) (sym c.least.ensures.bound) ∙ sym c.allow.ensures.allowed ∙ c.if-not-allow.false in
    let answer : answer_in h allowed c.args.leg.edge c.args.leg.dir (Some second) ≡ relaxed h c.args.leg.edge c.args.leg.dir second = rw may refl in
    let reached = second_at c.args.labels.now c.args.leg.into in
    let by : is_by reached (second + least_bound h c.args.leg.edge c.args.leg.dir) ≡ true =
    ap (λ (n : ℕ). is_by reached (second + n)) (sym c.least.ensures.bound) ∙ sym c.is_reached_by.ensures ∙ c.if-is_reached_by.true in
    let late = relaxed_takes h c.requires.sound c.args.leg.edge c.args.leg.dir second in
    let links = g.K.Linking.links c.args.chain.now in
    subst (λ (o : Option ℕ). links ≡ links_after c.args.labels.now links c.args.leg.from c.args.leg.edge c.args.leg.into (answer_in h allowed c.args.leg.edge c.args.leg.dir o)) (sym c.in-Some.is)
    (subst (λ (r : Relaxed). links ≡ links_after c.args.labels.now links c.args.leg.from c.args.leg.edge c.args.leg.into r) (sym answer)
    (sym (links_left c.args.labels.now c.args.leg.into (second + least_bound h c.args.leg.edge c.args.leg.dir) by links c.args.leg.from c.args.leg.edge
    (relaxed h c.args.leg.edge c.args.leg.dir second) late)))

pub returns-then-is_reached_by-clause-near : goal.returns-then-is_reached_by-clause-near
returns-then-is_reached_by-clause-near g c =
    let h = g.R.Relaxer.hierarchy c.args.relaxer.now in
    let allowed = g.L.Limits.allows c.args.limits.now c.args.leg.into in
    let second = c.in-Some.second in
    let may : allowed (second + least_bound h c.args.leg.edge c.args.leg.dir) ≡ true =
    ap (λ (n : ℕ). allowed (second + n)) (sym c.least.ensures.bound) ∙ sym c.allow.ensures.allowed ∙ c.if-not-allow.false in
    let answer : answer_in h allowed c.args.leg.edge c.args.leg.dir (Some second) ≡ relaxed h c.args.leg.edge c.args.leg.dir second = rw may refl in
    subst (λ (o : Option ℕ). IfSecond o (λ at. IfAt (answer_in h allowed c.args.leg.edge c.args.leg.dir (Some at)) (λ (arrival : ℕ). arrival ≤ at + 2 ^ 38))) (sym c.in-Some.is)
    (subst (λ (r : Relaxed). IfAt r (λ (arrival : ℕ). arrival ≤ second + 2 ^ 38)) (sym answer) (relaxed_near h c.requires.sound c.args.leg.edge c.args.leg.dir second))
