-- What the pieces of a day form say as a profile, and when they are one.
use Rattle.std.proofs.Common.{◌≡◌, ◌≤◌, ◌<◌, ◌+◌, ◌*◌, ◌∙◌, ℕ, List, [], ◌∷◌, Bool, true, false, Some, None, All, refl, sym, ap, arith, inl, inr}
use Rattle.std.specs.Prelude.{◌-◌, ◌==◌, ◌||◌, not, if◌then◌else◌, slice_get}
use Rattle.std.specs.Option.{option_map}
use Rattle.std.proofs.lemmas.Bool.{cases_lt, lt-ltb}
use Rattle.std.proofs.lemmas.List.Elements.{All-cons, All-nil}
use Rattle.cu_model.specs.declared.profiles.Piece.{Piece}
use Rattle.cu_model.specs.declared.profiles.Rule.TheVariants.{Travel, Until}
use Rattle.cu_model.specs.Days.{day, IsOnward, KeepsOrder}
use Rattle.cu_model.specs.DayForms.{IsDayForm, IsFormFrom, IsFormPiece}
use Rattle.cu_model.specs.Faults.{first_fallen}
use Rattle.cu_model.specs.Profiles.{is_closed, is_closed_piece, is_closed_rule, is_in_limit, IsProfile, piece_at, piece_value, profile_value, rule_value}
use Rattle.cu_model.proofs.Begun.{gt_test, le_test}
use Rattle.cu_model.proofs.FaultLaws.{first_fallen-none}
use Rattle.cu_model.proofs.ProfileLaws.{rule_shift, value_at, value_in_day}
use Rattle.cu_forms.specs.Near.{IsNear}
use Rattle.cu_forms.proofs.NearLaws.{piece_within}

-- no piece has begun before the second from which they are
none_yet : (f : ℕ → ℕ) (from : ℕ) (pieces : List Piece) (second : ℕ) → IsFormFrom f from pieces → second < from → piece_at pieces second ≡ None
none_yet f from [] second is lt = refl
none_yet f from (piece ∷ pieces) second (begins, end, form, rest) lt =
    let some = form.some in
    let here = gt_test piece.from second (omega (arith, begins, lt)) in
    let later = none_yet f end pieces second rest (omega (arith, begins, lt, some)) in
    rw (here, later) refl

-- the piece that has begun last says the value
value_from : (f : ℕ → ℕ) (from : ℕ) (pieces : List Piece) (second : ℕ) → IsFormFrom f from pieces → from ≤ second → second < day
    → (piece : Piece) × (piece_at pieces second ≡ Some piece) × (rule_value piece.rule 0 second ≡ f second)
value_from f from [] second is le lt = absurd (omega (arith, is, le, lt))
value_from f from (piece ∷ pieces) second (begins, end, form, rest) le lt =
    elim (cases_lt second end) [
      | inl inside ↦
          let here = le_test piece.from second (omega (arith, begins, le)) in
          let later = none_yet f end pieces second rest inside in
          (piece, rw (here, later) refl, sym (form.kept second (omega (arith, begins, le)) inside))
      | inr past ↦
          let found = value_from f end pieces second rest past lt in
          (found.0, rw found.1 refl, found.2)
    ]

-- the pieces say the function at each second of the day, and repeat by whole days
pub form_days : (f : ℕ → ℕ) (pieces : List Piece) → IsDayForm f pieces → (days second : ℕ) → second < day → profile_value pieces (days * day + second) ≡ days * day + f second
form_days f pieces is days second lt =
    let found = value_from f 0 pieces second is (omega arith) lt in
    let at = value_at pieces days second lt in
    let there : piece_value (piece_at pieces second) days second ≡ rule_value found.0.rule days second = rw found.1 refl in
    let shifted = rule_shift found.0.rule days second in
    let value = found.2 in
    omega (arith, at, there, shifted, value)

pub form_value : (f : ℕ → ℕ) (pieces : List Piece) → IsDayForm f pieces → (second : ℕ) → second < day → profile_value pieces second ≡ f second
form_value f pieces is second lt =
    let found = value_from f 0 pieces second is (omega arith) lt in
    value_in_day pieces second lt ∙ (rw found.1 refl) ∙ found.2

-- no rule of a day form is closed
open_rule : (test : Bool) (arrival second : ℕ) → is_closed_rule (if test then Travel (arrival - second) else Until arrival) ≡ false
open_rule true arrival second = refl
open_rule false arrival second = refl

open_piece : (f : ℕ → ℕ) (piece : Piece) (end : ℕ) → IsFormPiece f piece end → is_closed_piece piece ≡ false
open_piece f piece end is =
    ap is_closed_rule is.rule ∙ open_rule ((piece.from + 1 == day) || not (f (piece.from + 1) == f piece.from)) (f piece.from) piece.from

all_open : (f : ℕ → ℕ) (from : ℕ) (pieces : List Piece) → IsFormFrom f from pieces → All (λ (piece : Piece). is_closed_piece piece ≡ false) pieces
all_open f from [] is = All-nil (λ (piece : Piece). is_closed_piece piece ≡ false)
all_open f from (piece ∷ pieces) (begins, end, form, rest) =
    All-cons (λ (piece : Piece). is_closed_piece piece ≡ false) piece pieces (open_piece f piece end form) (all_open f end pieces rest)

pub form_open : (f : ℕ → ℕ) (pieces : List Piece) → IsDayForm f pieces → is_closed pieces ≡ false
form_open f [] is = refl
form_open f (piece ∷ []) (begins, end, form, rest) = open_piece f piece end form
form_open f (piece ∷ next ∷ pieces) is = refl

all_within : (f : ℕ → ℕ) (from : ℕ) (pieces : List Piece) → IsNear f → IsFormFrom f from pieces → All (λ (piece : Piece). is_in_limit piece ≡ true) pieces
all_within f from [] near is = All-nil (λ (piece : Piece). is_in_limit piece ≡ true)
all_within f from (piece ∷ pieces) near (begins, end, form, rest) =
    All-cons (λ (piece : Piece). is_in_limit piece ≡ true) piece pieces (piece_within f near piece end form) (all_within f end pieces near rest)

starts : (f : ℕ → ℕ) (pieces : List Piece) → IsDayForm f pieces → option_map (λ (piece : Piece). piece.from) (slice_get pieces 0) ≡ Some 0
starts f [] is = absurd (omega (arith, is))
starts f (piece ∷ pieces) (begins, end, form, rest) = ap Some begins

none_fallen : (f : ℕ → ℕ) (from index : ℕ) (pieces : List Piece) → IsFormFrom f from pieces → first_fallen index pieces ≡ None
none_fallen f from index [] is = refl
none_fallen f from index (piece ∷ []) is = refl
none_fallen f from index (piece ∷ next ∷ pieces) (begins, end, form, rest) =
    let some = form.some in
    let follows = rest.0 in
    let later = lt-ltb piece.from next.from (omega (arith, some, follows)) in
    rw later (none_fallen f end (index + 1) (next ∷ pieces) rest)

-- the day form of a function that arrives soon is a profile, where it keeps order
pub form_profile : (f : ℕ → ℕ) (pieces : List Piece) → IsNear f → IsOnward f → KeepsOrder (profile_value pieces) → IsDayForm f pieces → IsProfile pieces
form_profile f pieces near onward order is = record {
  limits = all_within f 0 pieces near is;
  starts = starts f pieces is;
  rises = first_fallen-none 0 pieces (none_fallen f 0 0 pieces is);
  alone = λ more. all_open f 0 pieces is;
  onward = λ second lt. let value = form_value f pieces is second lt in let le = onward second lt in omega (arith, value, le);
  fifo = order;
}
