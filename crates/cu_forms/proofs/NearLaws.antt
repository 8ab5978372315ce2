-- The pieces of functions that arrive soon are within their limits.
use Rattle.std.proofs.Common.{◌≡◌, ◌≤◌, ◌<◌, ◌+◌, ◌∙◌, ℕ, Bool, true, false, arith, refl, ap}
use Rattle.std.specs.Prelude.{◌-◌, ◌==◌, ◌||◌, ◌&&◌, nat_lt, not, if◌then◌else◌}
use Rattle.std.proofs.lemmas.Bool.{le-leb, lt-ltb}
use Rattle.cu_model.specs.declared.limits.TheConstants.{MAX_TRAVEL, MAX_UNTIL}
use Rattle.cu_model.specs.declared.profiles.Piece.{Piece}
use Rattle.cu_model.specs.declared.profiles.Rule.TheVariants.{Travel, Until}
use Rattle.cu_model.specs.Days.{day}
use Rattle.cu_model.specs.DayForms.{IsFormPiece}
use Rattle.cu_model.specs.Profiles.{is_in_limit, is_rule_in_limit}
use Rattle.cu_forms.specs.Near.{IsNear}

rule_within : (test : Bool) (arrival second : ℕ) → second < day → arrival ≤ second + MAX_TRAVEL
    → is_rule_in_limit (if test then Travel (arrival - second) else Until arrival) ≡ true
rule_within true arrival second lt near = le-leb (arrival - second) MAX_TRAVEL (omega (arith, near))
rule_within false arrival second lt near = le-leb arrival MAX_UNTIL (omega (arith, lt, near))

both : (a b : Bool) → a ≡ true → b ≡ true → (a && b) ≡ true
both a b h k = rw (h, k) refl

-- a piece of the day form of such a function
pub piece_within : (f : ℕ → ℕ) → IsNear f → (piece : Piece) (end : ℕ) → IsFormPiece f piece end → is_in_limit piece ≡ true
piece_within f near piece end is =
    let lt : piece.from < day = omega (arith, is.some, is.within) in
    let rule = rule_within ((piece.from + 1 == day) || not (f (piece.from + 1) == f piece.from)) (f piece.from) piece.from lt (near piece.from lt) in
    both (nat_lt piece.from day) (is_rule_in_limit piece.rule) (lt-ltb piece.from day lt) (ap is_rule_in_limit is.rule ∙ rule)
