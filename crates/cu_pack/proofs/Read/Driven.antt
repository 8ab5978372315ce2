-- The roads and profiles of a file that has roads, read where they lie.
use Rattle.std.proofs.Common.{◌≡◌, ◌≤◌, ◌<◌, ◌+◌, ◌-◌, ◌/◌, ◌%◌, ◌∙◌, ℕ, suc, false, List, [], ◌∷◌, Option, Some, length, refl, sym, ap, arith, inl, inr}
use Rattle.std.specs.Prelude.{slice_get}
use Rattle.std.proofs.lemmas.List.FromFn.{length-map-range_with_len}
use Rattle.std.proofs.lemmas.Option.{same_Some, slice_get_cases, slice_get_within}
use Rattle.cu_model.specs.declared.profiles.Piece.{Piece}
use Rattle.cu_model.specs.declared.roads.RoadArc.{RoadArc}
use Rattle.cu_model.specs.Days.{day}
use Rattle.cu_model.specs.Networks.{NetworkValue}
use Rattle.cu_model.specs.Profiles.{IsProfile, is_closed, is_closed_rule, piece_at, piece_value, rule_value}
use Rattle.cu_model.specs.Roads.{arc_value, is_closed_arc, is_closed_by, pieces_of, pieces_or_none, value_by, value_of}
use Rattle.cu_pack.specs.Checks.{HasRoads, IsWrongArc}
use Rattle.cu_pack.specs.Reading.{arc_in, counts_in, network_in, piece_from, piece_place, profile_in, profile_start}
use Rattle.cu_pack.specs.Steps.Parts.{HasProfile}
use Rattle.cu_pack.proofs.Numbering.Columns.{made_there}
use Rattle.cu_pack.proofs.Read.Laid.{profile_rises, profile_valid, profile_within}
use Rattle.cu_pack.proofs.Numbering.Totals.{few_pieces}
use Rattle.cu_pack.proofs.Numbering.Unrefuted.{less_else}

-- whether a profile is closed is said by its first piece
pub first_closed : (pieces : List Piece) (first : Piece) → IsProfile pieces → slice_get pieces 0 ≡ Some first → is_closed pieces ≡ is_closed_rule first.rule
first_closed [] first f there = absurd (cc there)
first_closed (piece ∷ []) first f there = let same : piece ≡ first = same_Some piece first there in ap (λ (p : Piece). is_closed_rule p.rule) same
first_closed (piece ∷ next ∷ pieces) first f there =
    let same : piece ≡ first = same_Some piece first there in
    let driven : is_closed_rule piece.rule ≡ false = f.alone (omega arith) 0 piece (omega arith) in
    sym driven ∙ ap (λ (p : Piece). is_closed_rule p.rule) same

-- only a profile that is there has pieces
pub profile_has : (g : NetworkValue) (profile index : ℕ) → index < length (pieces_of g profile) → profile < length g.profiles
profile_has g profile index inside =
    elim (slice_get_cases g.profiles profile).1 [
      | inl there ↦ slice_get_within g.profiles profile there.0 there.2
      | inr none ↦
          let empty : length (pieces_of g profile) ≡ 0 = ap (λ (o : Option (List Piece)). length (pieces_or_none o)) none.1 in
          absurd (omega (arith, inside, empty))
    ]

module _ (bytes : List ℕ) where
  pub nodes_same : (network_in bytes).nodes ≡ (counts_in bytes).nodes
  unfolding network_in
  nodes_same = refl

  pub arcs_long : length (network_in bytes).arcs ≡ (counts_in bytes).arcs
  unfolding network_in
  arcs_long = length-map-range_with_len (arc_in bytes) 0 (counts_in bytes).arcs

  pub profiles_long : length (network_in bytes).profiles ≡ (counts_in bytes).profiles
  unfolding network_in
  profiles_long = length-map-range_with_len (profile_in bytes) 0 (counts_in bytes).profiles

  pub arc_there : (arc : ℕ) → arc < (counts_in bytes).arcs → slice_get (network_in bytes).arcs arc ≡ Some (arc_in bytes arc)
  unfolding network_in
  arc_there arc inside = made_there (arc_in bytes) 0 (counts_in bytes).arcs arc inside ∙ ap (λ (k : ℕ). Some (arc_in bytes k)) (omega arith)

  pub profile_there : (profile : ℕ) → profile < (counts_in bytes).profiles → slice_get (network_in bytes).profiles profile ≡ Some (profile_in bytes profile)
  unfolding network_in
  profile_there profile inside = made_there (profile_in bytes) 0 (counts_in bytes).profiles profile inside ∙ ap (λ (k : ℕ). Some (profile_in bytes k)) (omega arith)

  pub pieces_same : (profile : ℕ) → profile < (counts_in bytes).profiles → pieces_of (network_in bytes) profile ≡ profile_in bytes profile
  pieces_same profile inside = ap pieces_or_none (profile_there profile inside)

  pub closed_same : (arc : ℕ) → arc < (counts_in bytes).arcs → is_closed_arc (network_in bytes) arc ≡ is_closed (pieces_of (network_in bytes) (arc_in bytes arc).profile)
  closed_same arc inside = ap (is_closed_by (network_in bytes)) (arc_there arc inside)

  pub next_start : (profile : ℕ) → profile_start bytes (profile + 1) ≡ profile_start bytes (suc profile)
  next_start profile = ap (profile_start bytes) (omega arith)

  -- when a road arrives, by the piece that has begun
  pub arc_value_same : (arc second : ℕ) (piece : Piece) → arc < (counts_in bytes).arcs → (arc_in bytes arc).profile < (counts_in bytes).profiles
      → piece_at (profile_in bytes (arc_in bytes arc).profile) (second % day) ≡ Some piece → arc_value (network_in bytes) arc second ≡ rule_value piece.rule (second / day) (second % day)
  arc_value_same arc second piece inside profile begun =
      ap (λ (o : Option RoadArc). value_by (network_in bytes) o second) (arc_there arc inside)
      ∙ ap (λ (o : Option (List Piece)). value_of o second) (profile_there (arc_in bytes arc).profile profile)
      ∙ ap (λ (o : Option Piece). piece_value o (second / day) (second % day)) begun

  -- how many pieces a profile has, and each of them
  pub pieces_long : (profile : ℕ) → length (profile_in bytes profile) ≡ profile_start bytes (suc profile) - profile_start bytes profile
  pieces_long profile =
      length-map-range_with_len (λ piece. piece_from bytes (piece_place bytes piece)) (profile_start bytes profile) (profile_start bytes (suc profile) - profile_start bytes profile)

  pub piece_there : (profile index : ℕ) → index < length (profile_in bytes profile)
      → slice_get (profile_in bytes profile) index ≡ Some (piece_from bytes (piece_place bytes (profile_start bytes profile + index)))
  piece_there profile index inside =
      made_there (λ piece. piece_from bytes (piece_place bytes piece)) (profile_start bytes profile)
      (profile_start bytes (suc profile) - profile_start bytes profile) index (omega (arith, inside, pieces_long profile))

  module _ (f : HasRoads bytes) where
    pub arc_profile : (arc : ℕ) → arc < (counts_in bytes).arcs → (arc_in bytes arc).profile < (counts_in bytes).profiles
    arc_profile arc inside =
        let right : IsWrongArc bytes arc → ⊥ = f.joined.arcs arc inside in
        let profile : ℕ = (arc_in bytes arc).profile in
        let profiles : ℕ = (counts_in bytes).profiles in
        less_else profile profiles (λ wrong. right (inr (inr wrong)))

    module _ (profile : ℕ) (inside : profile < (counts_in bytes).profiles) where
      pub start_rises : profile_start bytes profile < profile_start bytes (suc profile)
      start_rises = profile_rises bytes f.profiles profile inside

      pub start_within : profile_start bytes (suc profile) ≤ (counts_in bytes).pieces
      start_within = profile_within bytes f.profiles profile inside

      pub pieces_valid : IsProfile (profile_in bytes profile)
      pieces_valid = profile_valid bytes f.profiles profile inside

      pub pieces_few : length (profile_in bytes profile) ≤ day
      pieces_few = few_pieces (profile_in bytes profile) pieces_valid

      -- its pieces are there, and one
      pub has_profile : HasProfile bytes profile
      has_profile = record { inside = inside; order = omega (arith, start_rises); within = start_within; valid = pieces_valid }

      -- it is closed where its first piece is
      pub closed_first : (piece : Piece) → piece ≡ piece_from bytes (piece_place bytes (profile_start bytes profile)) → is_closed (profile_in bytes profile) ≡ is_closed_rule piece.rule
      closed_first piece read =
          let rises = start_rises in
          let at : profile_start bytes profile + 0 ≡ profile_start bytes profile = omega arith in
          let held : slice_get (profile_in bytes profile) 0 ≡ Some piece = piece_there profile 0 (omega (arith, pieces_long profile, rises))
          ∙ ap (λ (k : ℕ). Some (piece_from bytes (piece_place bytes k))) at ∙ ap Some (sym read) in
          first_closed (profile_in bytes profile) piece pieces_valid held
