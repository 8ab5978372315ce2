-- The piece that drives a road at a second.
use Rattle.std.proofs.Common.{◌≡◌, ◌≤◌, ◌<◌, ◌/◌, ◌%◌, ◌∙◌, ℕ, suc, List, Option, Some, [], ap, sym, subst, arith, inl, inr, length, true}
use Rattle.std.specs.Prelude.{slice_get}
use Rattle.std.proofs.lemmas.Bool.{cases_eq}
use Rattle.std.proofs.lemmas.Option.{get_or_from_slice_get, slice_get-get_or, slice_get_within}
use Rattle.cu_model.specs.declared.profiles.Piece.{Piece}
use Rattle.cu_model.specs.declared.roads.RoadArc.{RoadArc}
use Rattle.cu_model.specs.Days.{day}
use Rattle.cu_model.specs.Networks.{IsNetwork, NetworkValue}
use Rattle.cu_model.specs.Profiles.{IsProfile, is_rule_in_limit, piece_at, piece_value, rule_value}
use Rattle.cu_model.specs.Roads.{arc_value, pieces_of, pieces_or_none, value_by, value_of}
use Rattle.cu_model.proofs.Begun.{gt_test, last_begun-at, le_test, rises_between}
use Rattle.cu_model.proofs.RoadLaws.{in_limit, profile_of_road}

-- a piece that has begun, and behind which none has, is the one in force
pub begun_last : (pieces : List Piece) → IsProfile pieces → (j s : ℕ) (piece : Piece) → slice_get pieces j ≡ Some piece → piece.from ≤ s
    → ((k : ℕ) (later : Piece) → slice_get pieces k ≡ Some later → suc j ≤ k → s < later.from) → piece_at pieces s ≡ Some piece
begun_last pieces valid j s piece at begun later =
    last_begun-at (λ (p : Piece). p.from) pieces j s piece at
    (λ k x there low. le_test x.from s (elim (cases_eq k j) [
      | inl same ↦ let is : x ≡ piece = cc (subst (λ (i : ℕ). slice_get pieces i ≡ Some x) same there, at) in let f = ap (λ (p : Piece). p.from) is in omega (arith, f, begun)
      | inr other ↦
          let lt = rises_between (λ (p : Piece). p.from) pieces valid.rises piece k j (omega (arith, low, other)) (slice_get_within pieces j piece at) in
          let f = ap (λ (p : Piece). p.from) (get_or_from_slice_get pieces k x piece there) in
          let g = ap (λ (p : Piece). p.from) (get_or_from_slice_get pieces j piece piece at) in
          omega (arith, lt, f, g, begun)
    ]))
    (λ k x there high. gt_test x.from s (later k x there high))

pub profile_pieces : (g : NetworkValue) → IsNetwork g → (profile : ℕ) → profile < length g.profiles → IsProfile (pieces_of g profile)
profile_pieces g sound profile inside =
    let there = slice_get-get_or g.profiles profile [] inside in
    let valid = sound.valid profile [] inside in
    subst IsProfile (sym (ap pieces_or_none there)) valid

-- a road's number is that of its profile's pieces
pub road_pieces : (g : NetworkValue) → IsNetwork g → (a : ℕ) (road : RoadArc) → slice_get g.arcs a ≡ Some road
    → IsProfile (pieces_of g road.profile) × (slice_get g.profiles road.profile ≡ Some (pieces_of g road.profile))
road_pieces g sound a road at =
    let (pieces, there, valid) = profile_of_road g sound a road at in
    let same : pieces_of g road.profile ≡ pieces = ap pieces_or_none there in
    (rw same valid, rw same there)

-- the rule of the piece that drives a road is within its limit
pub driven_in_limit : (g : NetworkValue) → IsNetwork g → (a : ℕ) (road : RoadArc) (s : ℕ) (piece : Piece) → slice_get g.arcs a ≡ Some road → piece_at (pieces_of g road.profile) s ≡ Some piece
    → is_rule_in_limit piece.rule ≡ true
driven_in_limit g sound a road s piece at begun = in_limit (pieces_of g road.profile) s piece (road_pieces g sound a road at).0.limits begun

-- a road arrives by the rule of the piece in force
pub driven_value : (g : NetworkValue) → IsNetwork g → (a : ℕ) (road : RoadArc) (t : ℕ) (piece : Piece) → slice_get g.arcs a ≡ Some road
    → piece_at (pieces_of g road.profile) (t % day) ≡ Some piece → arc_value g a t ≡ rule_value piece.rule (t / day) (t % day)
driven_value g sound a road t piece at begun =
    ap (λ (o : Option RoadArc). value_by g o t) at ∙ ap (λ (o : Option (List Piece)). value_of o t) (road_pieces g sound a road at).1
    ∙ ap (λ (o : Option Piece). piece_value o (t / day) (t % day)) begun
