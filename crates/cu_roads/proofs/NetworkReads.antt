-- What three texts give, as far as they were read.
use Rattle.std.proofs.Common.{◌≡◌, ◌∙◌, ℕ, List, length, ap}
use Rattle.std.specs.Prelude.{Result, Ok, Err}
use Rattle.cu_model.specs.declared.profiles.Piece.{Piece}
use Rattle.cu_model.specs.declared.roads.RoadArc.{RoadArc}
use Rattle.cu_profile.specs.declared.refusals.ProfileRefusal.{ProfileRefusal}
use Rattle.cu_profile.specs.ProfileTexts.{profiles_of_text}
use Rattle.cu_roads.specs.declared.places.Place.{Place}
use Rattle.cu_roads.specs.declared.refusals.RoadRefusal.{RoadRefusal}
use Rattle.cu_roads.specs.declared.refusals.RoadRefusal.TheVariants.{Profiles}
use Rattle.cu_roads.specs.NetworkTexts.{arcs_of_text, joined, network_of, network_with, places_of_text, with_given, with_places, with_profiles}

module _ (nodes roads profiles : List ℕ) where
  -- places that are refused
  pub nodes-refused : (why : RoadRefusal) → places_of_text nodes ≡ Err why → network_of nodes roads profiles ≡ Err why
  unfolding network_of
  nodes-refused why e = ap (λ (given : Result (List Place) RoadRefusal). with_places given roads profiles) e

  -- profiles that are refused, behind the places
  pub profiles-refused : (places : List Place) (why : ProfileRefusal)
      → places_of_text nodes ≡ Ok places → profiles_of_text profiles ≡ Err why → network_of nodes roads profiles ≡ Err (Profiles why)
  unfolding network_of
  profiles-refused places why e f =
      ap (λ (given : Result (List Place) RoadRefusal). with_places given roads profiles) e
      ∙ ap (λ (given : Result (List (List Piece)) ProfileRefusal). with_profiles places roads given) f

  -- roads, refused or not, behind the places and the profiles
  pub arcs-joined : (places : List Place) (pieces : List (List Piece)) (node_count profile_count : ℕ) (arcs : Result (List RoadArc) RoadRefusal)
      → places_of_text nodes ≡ Ok places → profiles_of_text profiles ≡ Ok pieces → node_count ≡ length places → profile_count ≡ length pieces
      → arcs_of_text node_count profile_count roads ≡ arcs → network_of nodes roads profiles ≡ joined places pieces arcs
  unfolding network_of
  arcs-joined places pieces node_count profile_count arcs e f n m g =
      ap (λ (given : Result (List Place) RoadRefusal). with_places given roads profiles) e
      ∙ ap (λ (given : Result (List (List Piece)) ProfileRefusal). with_profiles places roads given) f
      ∙ ap (λ (given : Result (List RoadArc) RoadRefusal). joined places pieces given) ((rw (n, m) at g))

module _ (nodes roads : List ℕ) (profiles : List (List Piece)) where
  -- places that are refused, where the profiles are there already
  pub given-refused : (why : RoadRefusal) → places_of_text nodes ≡ Err why → network_with nodes roads profiles ≡ Err why
  given-refused why e = ap (λ (given : Result (List Place) RoadRefusal). with_given given roads profiles) e

  -- roads, refused or not, behind the places
  pub given-joined : (places : List Place) (node_count profile_count : ℕ) (arcs : Result (List RoadArc) RoadRefusal)
      → places_of_text nodes ≡ Ok places → node_count ≡ length places → profile_count ≡ length profiles
      → arcs_of_text node_count profile_count roads ≡ arcs → network_with nodes roads profiles ≡ joined places profiles arcs
  given-joined places node_count profile_count arcs e n m g =
      ap (λ (given : Result (List Place) RoadRefusal). with_given given roads profiles) e
      ∙ ap (λ (given : Result (List RoadArc) RoadRefusal). joined places profiles given) ((rw (n, m) at g))
