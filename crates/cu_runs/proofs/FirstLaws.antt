-- The first candidate of a merger, which is the least all day.
use Rattle.std.proofs.Common.{◌≡◌, ◌≤◌, ◌<◌, ◌+◌, ◌*◌, ◌/◌, ◌%◌, ◌∙◌, ℕ, List, refl, sym, ap, subst, arith, inl, inr, length, get_or}
use Rattle.cu_model.specs.Days.{day}
use Rattle.cu_model.proofs.Begun.{starts_begun}
use Rattle.cu_model.proofs.Tiling.{IsTiled, tiled_keep, tiled_push}
use Rattle.cu_arrival.specs.declared.runs.Run.{Run}
use Rattle.cu_arrival.specs.declared.runs.RunRule.{RunRule}
use Rattle.cu_arrival.specs.declared.runs.RunRule.TheVariants.{Fixed, Shift}
use Rattle.cu_arrival.specs.Runs.{arrival_value, rule_number, rule_value, run_at, run_value, arrives}
use Rattle.cu_runs.specs.declared.merging.Least.{Least}
use Rattle.cu_runs.specs.declared.merging.Next.{Next}
use Rattle.cu_runs.specs.declared.merging.TheConstants.{MOST}
use Rattle.cu_runs.specs.declared.packed_runs.TheConstants.{MAX_NUMBER}
use Rattle.cu_runs.specs.Least.{Held, held_from, least_arrival}
use Rattle.cu_runs.specs.Steps.Merging.{IsAlone, IsMerging, Puts, SaysAlone, SaysMerged, least_held, next_held}
use Rattle.cu_runs.specs.PackedRuns.{IsDayList, IsPackedFunction, composed}
use Rattle.cu_runs.proofs.Arrivals.{begun_all}
use Rattle.cu_runs.proofs.MergeLaws.{says_won}
use Rattle.cu_runs.proofs.TravelLaws.{begin_end, begin_next, begin_of, begin_read, begin_value}

-- a rule takes no more seconds than its number
rule_most : (r : RunRule) (days second limit : ℕ) → rule_number r ≤ limit → rule_value r days second ≤ day * days + second + limit
rule_most (Shift d) days second limit few = omega (arith, few)
rule_most (Fixed c) days second limit few = omega (arith, few)

-- so much later a function arrives at most
most_later : (packed : List Run) → IsPackedFunction packed → (t : ℕ) → arrival_value packed t ≤ t + MAX_NUMBER
most_later packed is t =
    let (run, there) = starts_begun (λ (r : Run). r.from) packed (t % day) is.over_day.starts in
    let few = begun_all (λ (r : Run). r.from) (λ (r : Run). rule_number r.rule ≤ MAX_NUMBER) packed (t % day) run is.limits there in
    let value : run_value (run_at packed (t % day)) (t / day) (t % day) ≡ rule_value run.rule (t / day) (t % day) = rw there refl in
    let most = rule_most run.rule (t / day) (t % day) MAX_NUMBER few in
    omega (arith, value, most)

-- a composition arrives before the second that stands for no candidate
composed_below : (first second : List Run) → IsPackedFunction first → IsPackedFunction second → (t : ℕ) → t < day → composed first second t < MOST
composed_below first second f g t early =
    let to = most_later first f t in
    let on = most_later second g (arrival_value first t) in
    omega (arith, to, on, early)

-- a further run of a candidate alone, which the last one may say already
put_alone : (arrival : ℕ → ℕ) (way : ℕ) (old new : List Held) (x : Held) (t end : ℕ) → IsTiled held_from (SaysAlone arrival way) old t → Puts old x new
    → x.0.from ≡ t → t < end → ((s : ℕ) → t ≤ s → s < end → SaysAlone arrival way x s) → IsTiled held_from (SaysAlone arrival way) new end
put_alone arrival way old new x t end tiled (inl kept) at more says =
    let (y, last, rule, number, same) = kept in
    let said = λ (s : ℕ) (late : t ≤ s) (early : s < end).
    let x_says = says s late early in
    let y_says : SaysAlone arrival way y s = (ap (λ (r : RunRule). arrives r s) rule ∙ x_says.0, number ∙ x_says.1) in y_says in
    subst (λ (hs : List Held). IsTiled held_from (SaysAlone arrival way) hs end) (sym same) (tiled_keep held_from (SaysAlone arrival way) old t end y tiled last (omega (arith, more)) said)
put_alone arrival way old new x t end tiled (inr pushed) at more says =
    subst (λ (hs : List Held). IsTiled held_from (SaysAlone arrival way) hs end) (sym pushed) (tiled_push held_from (SaysAlone arrival way) old t end x tiled at more says)

-- the runs of a candidate up to that of an index
abbrev pub TakenTo : List Run → ℕ → Next → ℕ → Type 0
TakenTo packed way next index = IsTiled held_from (SaysAlone (arrival_value packed) way) (next_held next) (begin_of packed index)

pub taken_more : (packed : List Run) (way : ℕ) (old new : Next) (i : ℕ) (read : Run) → IsDayList packed → i + 1 < length packed → read ≡ get_or packed i read
    → Puts (next_held old) (read, way) (next_held new) → TakenTo packed way old i → TakenTo packed way new (i + 1)
taken_more packed way old new i read is inside same puts taken =
    let begins = begin_read packed is i read (omega (arith, inside)) same in
    let order = begin_next packed is i inside in
    put_alone (arrival_value packed) way (next_held old) (next_held new) (read, way) (begin_of packed i) (begin_of packed (i + 1)) taken puts (sym begins) order.0
    (λ s late early. (sym (begin_value packed is i s read inside same late early), refl))

pub taken_all : (packed : List Run) (way : ℕ) (next : Next) (i : ℕ) → IsDayList packed → i + 1 ≡ length packed → TakenTo packed way next i → IsAlone (arrival_value packed) way next
taken_all packed way next i is last taken =
    subst (λ (t : ℕ). IsTiled held_from (SaysAlone (arrival_value packed) way) (next_held next) t) (begin_end packed is i last) taken

-- where there was no candidate, one alone is the least
pub first_merging : (l : Least) (now : List Held) (first second linked : List Run) (way : ℕ) (n : Next) → IsPackedFunction first → IsPackedFunction second → least_held l ≡ now
    → ((t : ℕ) → t < day → least_arrival now t ≡ MOST) → ((t : ℕ) → t < day → arrival_value linked t ≡ composed first second t) → n.done ≡ day → IsAlone (arrival_value linked) way n
    → IsMerging l (composed first second) way n day
first_merging l now first second linked way n f g view none value done alone = record {
  order = omega (arith, done);
  merged = subst (λ (t : ℕ). IsTiled held_from (SaysMerged l (composed first second) way) (next_held n) t) (sym done) (record {
    starts = alone.starts;
    empty = alone.empty;
    rises = alone.rises;
    below = alone.below;
    holds = λ s early. let (held, here, said) = alone.holds s early in (held, here, says s early held said);
  });
  held = λ s late early. absurd (omega (arith, late, early, done));
}
  where
    says : (s : ℕ) → s < day → (held : Held) → SaysAlone (arrival_value linked) way held s → SaysMerged l (composed first second) way held s
    says s early held said =
        let here : composed first second s ≡ arrives held.0.rule s = sym (said.0 ∙ value s early) in
        let least = ap (λ (hs : List Held). least_arrival hs s) view ∙ none s early in
        let before = composed_below first second f g s early in
        let won = says_won l (composed first second) way s held.0 held.0 here (omega (arith, here, least, before)) refl in
        (won.0, said.1 ∙ won.1)
