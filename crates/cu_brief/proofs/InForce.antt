-- The brief run in force at a second, as the searches find it, and what it says.
use Rattle.std.proofs.Common.{◌≡◌, ◌≤◌, ◌<◌, ◌+◌, ◌-◌, ◌/◌, ◌%◌, ◌^◌, ◌∙◌, ℕ, zero, suc, List, [], ◌∷◌, Option, Some, sym, ap, subst, arith, inl, inr, leb, true, false, length, get_or}
use Rattle.std.specs.Prelude.{slice_get}
use Rattle.std.specs.Option.{option_map}
use Rattle.std.specs.List.Sorted.{IsPartitionPoint}
use Rattle.std.proofs.lemmas.Bool.{cases_lt}
use Rattle.std.proofs.lemmas.Bool.Decides.{nat_tests}
use Rattle.std.proofs.lemmas.Option.{slice_get-get_or, slice_get_past}
use Rattle.cu_model.specs.Days.{day}
use Rattle.cu_model.proofs.Begun.{begun_until}
use Rattle.cu_arrival.specs.declared.runs.Run.{Run}
use Rattle.cu_arrival.specs.Runs.{arrives, rule_number, run_at, run_value}
use Rattle.cu_arrival.proofs.Built.{arrives-value}
use Rattle.cu_arrival.proofs.Mapped.{last_begun-map}
use Rattle.cu_arrival.proofs.RunLaws.{value_in_day}
use Rattle.cu_brief.specs.BriefRuns.{IsBrief, brief_from, brief_rule, brief_value, run_of_brief, runs_of}
use Rattle.cu_brief.specs.Steps.{IsInForce, end_at, from_or_day}

test_le : (a b : ℕ) → leb a b ≡ true → a ≤ b
test_le a b h = grind (arith, nat_tests)

not_le : (a b : ℕ) → leb a b ≡ false → b < a
not_le a b h = grind (arith, nat_tests)

le_test : (a b : ℕ) → a ≤ b → leb a b ≡ true
le_test a b h = grind (arith, nat_tests)

-- where the first one has begun, a search for the first that hasn't finds one past that in force
pub point_in_force : (brief : List ℕ) (s n : ℕ) → 0 < length brief → ((d : ℕ) → brief_from (get_or brief 0 d) ≤ s)
    → IsPartitionPoint (λ (x : ℕ). leb (brief_from x) s ≡ true) (λ (x : ℕ). leb (brief_from x) s ≡ false) brief n → n ≤ length brief
    → (0 < n) × IsInForce brief s (n - 1)
point_in_force brief s zero some first point le =
    let late : leb (brief_from (get_or brief 0 0)) s ≡ false = point.1 0 0 (omega arith) (omega (arith, some)) in
    let low : leb (brief_from (get_or brief 0 0)) s ≡ true = le_test _ s (first 0) in
    absurd (cc (late, low))
point_in_force brief s (suc n) some first point le =
    let same : suc n - 1 ≡ n = omega arith in
    let claim : IsInForce brief s n = record {
      inside = omega (arith, le);
      begun = λ d. test_le (brief_from (get_or brief n d)) s (point.0 n d (omega (arith, le)) (omega arith));
      lasts = λ d inside. not_le (brief_from (get_or brief (suc n) d)) s (point.1 (suc n) d (omega arith) inside);
    } in
    (omega arith, subst (λ (i : ℕ). IsInForce brief s i) (sym same) claim)

pub first_begun : (brief : List ℕ) → IsBrief brief → (s d : ℕ) → (0 < length brief) × (brief_from (get_or brief 0 d) ≤ s)
first_begun [] is s d = absurd (cc is.starts)
first_begun (x ∷ brief) is s d = let from : brief_from x ≡ 0 = cc is.starts in (omega arith, omega (arith, from))

-- what the one in force says is the value
pub in_force_value : (base : ℕ) (brief : List ℕ) (s j d : ℕ) → IsBrief brief → s < day → IsInForce brief s j
    → arrives (run_of_brief base (get_or brief j d)).rule s ≡ brief_value base brief s
in_force_value base brief s j d is early force =
    let bits = get_or brief j d in
    let at = begun_until brief_from brief is.rises d j s force.inside (force.begun d) (force.lasts d) in
    let run : run_at (runs_of base brief) s ≡ Some (run_of_brief base bits) =
    last_begun-map (run_of_brief base) (λ (r : Run). r.from) brief s ∙ ap (option_map (run_of_brief base)) at in
    sym (value_in_day (runs_of base brief) s early ∙ ap (λ (o : Option Run). run_value o 0 s) run ∙ arrives-value (run_of_brief base bits).rule s)

-- where the next one begins, or where the day ends
next_from : (brief : List ℕ) (j d : ℕ) → suc j < length brief → end_at brief j ≡ brief_from (get_or brief (suc j) d)
next_from brief j d more =
    let one : j + 1 ≡ suc j = omega arith in
    ap (λ (i : ℕ). from_or_day (slice_get brief i)) one ∙ ap from_or_day (slice_get-get_or brief (suc j) d more)

last_ends : (brief : List ℕ) (j : ℕ) → length brief ≤ suc j → end_at brief j ≡ day
last_ends brief j past = ap from_or_day (slice_get_past brief (j + 1) (omega (arith, past)))

-- one that has begun is in force until it ends
pub begun_in_force : (brief : List ℕ) (s j : ℕ) → j < length brief → ((d : ℕ) → brief_from (get_or brief j d) ≤ s) → s < end_at brief j → IsInForce brief s j
begun_in_force brief s j inside begun early = record {
  inside = inside;
  begun = begun;
  lasts = λ d more. let next = next_from brief j d more in omega (arith, next, early);
}

pub in_force_until : (brief : List ℕ) (s t j : ℕ) → IsInForce brief s j → s ≤ t → t < end_at brief j → IsInForce brief t j
in_force_until brief s t j force later early = begun_in_force brief t j force.inside (λ d. let low = force.begun d in omega (arith, low, later)) early

pub in_force_ends : (brief : List ℕ) → IsBrief brief → (s j : ℕ) → s < day → IsInForce brief s j → (s < end_at brief j) × (end_at brief j ≤ day)
in_force_ends brief is s j early force = elim (cases_lt (suc j) (length brief)) [
  | inl more ↦
      let next = next_from brief j 0 more in
      let late = force.lasts 0 more in
      let limit = is.limits (suc j) 0 more in
      (omega (arith, next, late), omega (arith, next, limit))
  | inr past ↦ let end = last_ends brief j past in (omega (arith, end, early), omega (arith, end))
]

small_rule : (kind from travel : ℕ) → from < day → travel < 2 ^ 32 + 2 ^ 14 → rule_number (brief_rule kind from travel) < 2 ^ 33
small_rule zero from travel early few = omega (arith, early, few)
small_rule (suc kind) from travel early few = omega (arith, early, few)

-- what a brief run says isn't much
pub small_run : (base bits : ℕ) → base < 2 ^ 32 → brief_from bits < day → rule_number (run_of_brief base bits).rule < 2 ^ 33
small_run base bits few early = small_rule (bits / 2 ^ 14 % 2) (bits / 2 ^ 15) (base + bits % 2 ^ 14) early (omega (arith, few))
