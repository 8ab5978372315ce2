-- The day form of a measured profile's least arrivals stands for it, and is a profile.
use Rattle.std.proofs.Common.{◌≤◌, ◌<◌, ◌+◌, ◌*◌, ◌∙◌, ◌^◌, ℕ, List, [], ◌∷◌, ◌++◌, Result, Ok, Err, All, length, sym, subst, ap, arith, get_or}
use Rattle.std.specs.Prelude.{IfOk, sum_by}
use Rattle.std.proofs.lemmas.List.Elements.{All-head, All-tail}
use Rattle.std.proofs.lemmas.List.Sums.{sum_by-cons}
use Rattle.cu_forms.proofs.FormProfiles.{form_days, form_open, form_profile, form_value}
use Rattle.cu_model.specs.declared.profiles.Piece.{Piece}
use Rattle.cu_model.specs.Days.{day, IsOnward, KeepsOrder, RepeatsDaily}
use Rattle.cu_model.specs.DayForms.{IsDayForm}
use Rattle.cu_model.specs.Profiles.{IsProfile, profile_value}
use Rattle.cu_model.proofs.Begun.{few_items}
use Rattle.cu_model.proofs.FaultLaws.{piece_begins}
use Rattle.cu_model.proofs.FormLaws.{AreSame, has_form, same_form}
use Rattle.cu_wait.specs.declared.points.Point.{Point}
use Rattle.cu_wait.specs.declared.rows.TheConstants.{MAX_MEASURED}
use Rattle.cu_wait.specs.Converted.{AreConverted, StandFor}
use Rattle.cu_wait.specs.Networks.{Measured}
use Rattle.cu_wait.specs.Legs.{hull_at, legs_of}
use Rattle.cu_wait.specs.Measured.{IsMeasured, raw_arrival}
use Rattle.cu_wait.specs.Waits.{IsLeastFrom}
use Rattle.cu_wait.proofs.BoundLaws.{hull_near, hull_onward}
use Rattle.cu_wait.proofs.HullLaws.{hull_least, least_always, legs_are, raw_days}
use Rattle.cu_wait.proofs.PointLaws.{legs_sound}

-- what is the day form of a function is that of another that is the same on the day
form_same : (f g : ℕ → ℕ) (pieces : List Piece) → AreSame f g → IsOnward g → IsDayForm f pieces → IsDayForm g pieces
form_same f g pieces same onward is =
    let (others, form) = has_form g onward in
    subst (IsDayForm g) (sym (same_form f g pieces others same is form)) form

-- what is least at each second keeps order
least_order : (f h : ℕ → ℕ) → ((t : ℕ) → IsLeastFrom f t (h t)) → KeepsOrder h
least_order f h least second lt =
    let (s, le, is) = (least (second + 1)).reached in
    let low = (least second).least s (omega (arith, le)) in
    omega (arith, is, low)

module _ (points : List Point) (m : IsMeasured points) (pieces : List Piece) (form : IsDayForm (hull_at (legs_of points)) pieces) where
  pieces_days : RepeatsDaily (profile_value pieces)
  pieces_days days second lt = form_days (hull_at (legs_of points)) pieces form days second lt ∙ ap (λ (x : ℕ). days * day + x) (sym (form_value (hull_at (legs_of points)) pieces form second lt))

  stands : (t : ℕ) → IsLeastFrom (raw_arrival points) t (profile_value pieces t)
  stands = least_always (raw_arrival points) (raw_days points) (profile_value pieces) pieces_days
      (λ second lt. subst (IsLeastFrom (raw_arrival points) second) (sym (form_value (hull_at (legs_of points)) pieces form second lt)) (hull_least points m second lt))

  onward : IsOnward (hull_at (legs_of points))
  onward = hull_onward (legs_of points) (legs_are points m).0 (legs_sound points m)

  -- the pieces are a profile
  pub converted_profile : IsProfile pieces
  converted_profile =
      form_profile (hull_at (legs_of points)) pieces (hull_near (legs_of points) (legs_are points m).0 (legs_sound points m)) onward
      (least_order (raw_arrival points) (profile_value pieces) stands) form

  -- and stand for the measured one
  pub converted_stands : StandFor (Measured points) pieces
  converted_stands = (
    stands,
    form_open (hull_at (legs_of points)) pieces form,
    form_same (hull_at (legs_of points)) (profile_value pieces) pieces (λ t lt. sym (form_value (hull_at (legs_of points)) pieces form t lt)) converted_profile.onward form,
  )

-- a profile has no more pieces than a day has seconds
pub few_pieces : (pieces : List Piece) → IsProfile pieces → length pieces ≤ day
few_pieces pieces is = few_items (λ (p : Piece). p.from) day pieces is.rises (λ i d h. piece_begins (get_or pieces i d) (is.limits i d h))

pub few_in_all : (profiles : List (List Piece)) → All IsProfile profiles → sum_by length profiles ≤ day * length profiles
few_in_all [] all = omega arith
few_in_all (profile ∷ profiles) all =
    let one = few_pieces profile (All-head IsProfile profile profiles all) in
    let rest = few_in_all profiles (All-tail IsProfile profile profiles all) in
    let sum = sum_by-cons length profile profiles in
    omega (arith, one, rest, sum)

-- so those of a table have fewer than 2 ^ 32
pub few_answered : {P E : Type 0} (items : P → List (List Piece)) (answer : Result P E) → IfOk answer (λ profiles. All IsProfile (items profiles))
    → IfOk answer (λ profiles. length (items profiles) ≤ MAX_MEASURED) → IfOk answer (λ profiles. sum_by length (items profiles) < 2 ^ 32)
few_answered items (Ok profiles) all few = let sum = few_in_all (items profiles) all in omega (arith, sum, few)
few_answered items (Err why) all few = tt

-- one more profile
pub converted_more : (measured : List (List Point)) (profiles : List (List Piece)) (points : List Point) (pieces : List Piece)
    → AreConverted measured profiles → StandFor (Measured points) pieces → AreConverted (measured ++ (points ∷ [])) (profiles ++ (pieces ∷ []))
converted_more [] [] points pieces all one = (one, tt)
converted_more [] (other ∷ profiles) points pieces all one = absurd all
converted_more (other ∷ measured) [] points pieces all one = absurd all
converted_more (first ∷ measured) (other ∷ profiles) points pieces all one = (all.0, converted_more measured profiles points pieces all.1 one)
