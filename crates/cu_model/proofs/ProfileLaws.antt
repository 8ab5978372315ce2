-- Profile values repeat by whole days, and so arrive no earlier than they leave and keep order at all seconds.
use Rattle.std.proofs.Common.{◌≡◌, ◌≤◌, ◌<◌, ◌+◌, ◌*◌, ◌∙◌, ℕ, List, Some, refl, sym, ap, arith}
use Rattle.std.proofs.lemmas.Nat.{mod-mul-add, div-mul-add}
use Rattle.cu_model.specs.declared.profiles.Piece.{Piece}
use Rattle.cu_model.specs.declared.profiles.Rule.{Rule}
use Rattle.cu_model.specs.declared.profiles.Rule.TheVariants.{Travel, Until, Closed}
use Rattle.cu_model.specs.Days.{day, RepeatsDaily}
use Rattle.cu_model.specs.Profiles.{piece_at, piece_value, rule_value, profile_value, IsProfile}
use Rattle.cu_model.proofs.Begun.{starts_begun}
use Rattle.cu_model.proofs.DayLaws.{onward_always, order_always}

pub rule_shift : (r : Rule) (k s : ℕ) → rule_value r k s ≡ k * day + rule_value r 0 s
rule_shift (Travel d) k s = omega arith
rule_shift (Until c) k s = omega arith
rule_shift (Closed v) k s = omega arith

module _ (ps : List Piece) where
  pub value_at : (k s : ℕ) → s < day → profile_value ps (k * day + s) ≡ piece_value (piece_at ps s) k s
  value_at k s h = rw (mod-mul-add k day s h, div-mul-add k day s h) refl

  pub value_in_day : (s : ℕ) → s < day → profile_value ps s ≡ piece_value (piece_at ps s) 0 s
  value_in_day s h =
      let e : 0 * day + s ≡ s = omega arith in
      ap (λ (t : ℕ). profile_value ps t) (sym e) ∙ value_at 0 s h

  module _ (f : IsProfile ps) where
    pub begun_at : (s : ℕ) → (p : Piece) × (piece_at ps s ≡ Some p)
    begun_at s = starts_begun (λ (p : Piece). p.from) ps s f.starts

    -- the value repeats by whole days
    pub profile_value-days : RepeatsDaily (profile_value ps)
    profile_value-days k s h =
        let (p, e) = begun_at s in
        let a : piece_value (piece_at ps s) k s ≡ rule_value p.rule k s = rw e refl in
        let b : piece_value (piece_at ps s) 0 s ≡ rule_value p.rule 0 s = rw e refl in
        value_at k s h ∙ a ∙ rule_shift p.rule k s ∙ ap (λ (x : ℕ). k * day + x) (sym b ∙ sym (value_in_day s h))

    -- no arrival is before its departure
    pub profile_value-onward : (t : ℕ) → t ≤ profile_value ps t
    profile_value-onward = onward_always (profile_value ps) profile_value-days f.onward

    -- leaving later never arrives earlier, at any two seconds
    pub profile_value-fifo : (t s : ℕ) → t ≤ s → profile_value ps t ≤ profile_value ps s
    profile_value-fifo = order_always (profile_value ps) profile_value-days f.fifo
