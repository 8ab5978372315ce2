-- How links are kept: no chain leads in a circle, and each place that has a link is noted.
use Rattle.std.specs.Prelude.{ℕ, zero, suc, Bool, false, List, [], ◌∷◌, Option, Some, None, ◌≡◌, ◌≤◌, ◌<◌, ◌+◌, ◌⊎◌, length, slice_get}
use Rattle.cu_links.specs.Chains.{link_at}

-- so many links lead to the place
abbrev pub IsDeep : List (Option (ℕ × ℕ)) → ℕ → ℕ → Type 0
IsDeep links zero place = link_at links place ≡ None
IsDeep links (suc n) place = (from label : ℕ) × (link_at links place ≡ Some (from, label)) × IsDeep links n from

-- some number of links leads to the place
abbrev pub IsGrounded : List (Option (ℕ × ℕ)) → ℕ → Type 0
IsGrounded links place = (n : ℕ) × IsDeep links n place

-- each link is from a place that there is
abbrev pub AreWithin : List (Option (ℕ × ℕ)) → Type 0
AreWithin links = (place : ℕ) (link : ℕ × ℕ) → link_at links place ≡ Some link → link.0 < length links

-- how many places have a link
abbrev pub linked : List (Option (ℕ × ℕ)) → ℕ
linked [] = 0
linked (None ∷ links) = linked links
linked (Some link ∷ links) = suc (linked links)

-- the place is among the first of those noted
abbrev pub IsNoted : List ℕ → ℕ → ℕ → Type 0
IsNoted noted count place = (i : ℕ) × (i < count) × (slice_get noted i ≡ Some place)

-- each place with a link is noted, and each place that is noted is one
pub record AreNoted (links : List (Option (ℕ × ℕ))) (noted : List ℕ) (count : ℕ) : Type 0 where
  pub covers : (place : ℕ) (link : ℕ × ℕ) → link_at links place ≡ Some link → IsNoted noted count place
  pub places : (i place : ℕ) → i < count → slice_get noted i ≡ Some place → place < length links

-- only the first place of a chain that was turned, and places that had a link, have one
abbrev pub Relinks : List (Option (ℕ × ℕ)) → List (Option (ℕ × ℕ)) → ℕ → Type 0
Relinks before now first = (place : ℕ) (link : ℕ × ℕ) → link_at now place ≡ Some link → (place ≡ first) ⊎ ((other : ℕ × ℕ) × (link_at before place ≡ Some other))

-- links that may grow: no circle, all within, and as many noted as have a link
pub record MayGrow (links : List (Option (ℕ × ℕ))) (count : ℕ) : Type 0 where
  pub grounded : (place : ℕ) → IsGrounded links place
  pub within : AreWithin links
  pub all : count ≡ linked links

pub record IsKept (links : List (Option (ℕ × ℕ))) (noted : List ℕ) (count : ℕ) (turned : Bool) : Type 0 where
  pub room : length noted ≡ length links + 1
  pub fits : count ≤ length noted
  pub places : AreNoted links noted count
  pub grow : turned ≡ false → MayGrow links count
