-- The roads of a network that bytes say, by the sections of the bytes.
use Rattle.std.proofs.Common.{◌≡◌, ◌<◌, ◌∙◌, ℕ, List, Some, length, sym, ap, arith}
use Rattle.std.specs.Prelude.{slice_get}
use Rattle.cu_model.specs.declared.profiles.Piece.{Piece}
use Rattle.cu_model.specs.Networks.{NetworkValue}
use Rattle.cu_model.specs.Roads.{pieces_of}
use Rattle.cu_pack.specs.Reading.{arc_in, counts_in, network_in, profile_in}
use Rattle.cu_pack.proofs.Read.Driven.{arc_there, arcs_long, nodes_same, pieces_same, profile_has, profiles_long}

module _ (bytes : List ℕ) (g : NetworkValue) (same : network_in bytes ≡ g) where
  -- how many there are of each
  pub nodes_seen : (counts_in bytes).nodes ≡ g.nodes
  nodes_seen = sym (nodes_same bytes) ∙ ap (λ (n : NetworkValue). n.nodes) same

  pub arcs_seen : (counts_in bytes).arcs ≡ length g.arcs
  arcs_seen = sym (arcs_long bytes) ∙ ap (λ (n : NetworkValue). length n.arcs) same

  pub profiles_seen : (counts_in bytes).profiles ≡ length g.profiles
  profiles_seen = sym (profiles_long bytes) ∙ ap (λ (n : NetworkValue). length n.profiles) same

  pub arc_seen : (arc : ℕ) → arc < length g.arcs → slice_get g.arcs arc ≡ Some (arc_in bytes arc)
  arc_seen arc inside = sym (ap (λ (n : NetworkValue). slice_get n.arcs arc) same) ∙ arc_there bytes arc (omega (arith, inside, arcs_seen))

  pub pieces_seen : (profile : ℕ) → profile < length g.profiles → pieces_of g profile ≡ profile_in bytes profile
  pieces_seen profile inside = sym (ap (λ (n : NetworkValue). pieces_of n profile) same) ∙ pieces_same bytes profile (omega (arith, inside, profiles_seen))

  -- a profile that has a piece is there, with that piece
  module _ (profile index : ℕ) (within : index < length (pieces_of g profile)) where
    pub piece_inside : (profile < (counts_in bytes).profiles) × (index < length (profile_in bytes profile))
    piece_inside =
        let inside = profile_has g profile index within in
        let long = ap length (pieces_seen profile inside) in
        (omega (arith, inside, profiles_seen), omega (arith, within, long))

    pub piece_seen : (piece : Piece) → slice_get (profile_in bytes profile) index ≡ Some piece → slice_get (pieces_of g profile) index ≡ Some piece
    piece_seen piece there = ap (λ (ps : List Piece). slice_get ps index) (pieces_seen profile (profile_has g profile index within)) ∙ there
