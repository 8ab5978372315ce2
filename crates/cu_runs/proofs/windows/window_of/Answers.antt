use Rattle.std.proofs.Common.{◌≡◌, ◌+◌, ◌-◌, ◌^◌, ℕ, ap, refl, subst, min, ◌∙◌}
use Rattle.cu_runs.specs.Steps.Bounded.{IsReach}
use Rattle.cu_runs.specs.Windows.{TakesBetween, TakesUpToBetween, window_start}
use Rattle.cu_runs.proofs.WindowLaws.{window_taken}
use Rattle.cu_runs.proofs.windows.window_of.Goals as goal

pub returns : goal.returns
returns c windows are f number is_from is_until takes takes_up =
    let first : c.saturating_add.result ≡ min (window_start windows number + c.args.travels.least) (2 ^ 64 - 1) =
    c.saturating_add.ensures ∙ ap (λ (n : ℕ). min (n + c.args.travels.least) (2 ^ 64 - 1)) is_from in
    let last : c.saturating_add-2.result ≡ min (window_start windows (number + 1) + c.args.travels.most) (2 ^ 64 - 1) =
    c.saturating_add-2.ensures ∙ ap (λ (n : ℕ). min (n + c.args.travels.most) (2 ^ 64 - 1)) is_until in
    let reach = subst (λ (n : ℕ). IsReach windows n (min (window_start windows (number + 1) + c.args.travels.most) (2 ^ 64 - 1)) c.reach-reach.result) first
    (subst (λ (n : ℕ). IsReach windows c.saturating_add.result n c.reach-reach.result) last (c.reach-reach.ensures.reach windows are)) in
    let slower = subst (λ (n : ℕ). TakesBetween f n (window_start windows (number + 1)) c.args.travels.least) is_from
    (subst (λ (n : ℕ). TakesBetween f c.args.from n c.args.travels.least) is_until takes) in
    let faster = subst (λ (n : ℕ). TakesUpToBetween f n (window_start windows (number + 1)) c.args.travels.most) is_from
    (subst (λ (n : ℕ). TakesUpToBetween f c.args.from n c.args.travels.most) is_until takes_up) in
    window_taken windows f number c.args.travels.least c.args.travels.most c.reach-reach.result _ slower faster (c.span_of.ensures f _ _ slower faster) refl reach
