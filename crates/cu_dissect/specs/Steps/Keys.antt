-- What the nodes of a part are sorted by.
use Rattle.std.specs.Prelude.{ℕ, Bool, not, true, false, List, ◌≡◌, ◌/◌, nat_lt, length, count_by}
use Rattle.std.specs.declared.cmp.Ordering.{Ordering}
use Rattle.std.specs.Ordering.{nat_cmp, ordering_then, is_lt}
use Rattle.cu_roads.specs.declared.places.Place.{Place}
use Rattle.cu_dissect.specs.declared.halving.SortKey.{SortKey}
use Rattle.cu_dissect.specs.Dissection.{goes_before, place_of}

-- the key of a node, where the part is cut across x or across y
abbrev pub key_of : List Place → Bool → ℕ → SortKey
key_of places true node = record { first = (place_of places node).x; second = (place_of places node).y; node = node }
key_of places false node = record { first = (place_of places node).y; second = (place_of places node).x; node = node }

abbrev pub compare : SortKey → SortKey → Ordering
compare a b = ordering_then (nat_cmp a.first b.first) (ordering_then (nat_cmp a.second b.second) (nat_cmp a.node b.node))

-- whether a node's key isn't above this one
abbrev pub is_upto : List Place → Bool → SortKey → ℕ → Bool
is_upto places wide last node = not (is_lt (compare last (key_of places wide node)))

-- the key of the last node of the first half: just the nodes of the half are up to it
pub record IsLastLeft (places : List Place) (wide : Bool) (part : List ℕ) (last : SortKey) : Type 0 where
  pub tells : (node : ℕ) → is_upto places wide last node ≡ nat_lt (count_by (λ other. goes_before places wide other node) part) (length part / 2)
  pub half : count_by (is_upto places wide last) part ≡ length part / 2
