-- Chains of places: a place may have a link from another place, with a label.
use Rattle.std.specs.Prelude.{ℕ, Bool, List, [], ◌∷◌, Option, Some, None, ◌≡◌, slice_get}

-- the link into each place, from which place and with which label; and whether a chain was turned
pub record ChainValue : Type 0 where
  pub links : List (Option (ℕ × ℕ))
  pub turned : Bool

abbrev pub link_or_none : Option (Option (ℕ × ℕ)) → Option (ℕ × ℕ)
link_or_none None = None
link_or_none (Some link) = link

-- the link of a place; none where there is no such place
abbrev pub link_at : List (Option (ℕ × ℕ)) → ℕ → Option (ℕ × ℕ)
link_at links place = link_or_none (slice_get links place)

-- links lead from a first place over these steps to a last: a step is the next place and the label of the link into it
abbrev pub IsChain : List (Option (ℕ × ℕ)) → ℕ → List (ℕ × ℕ) → ℕ → Type 0
IsChain links first [] last = first ≡ last
IsChain links first (step ∷ steps) last = (link_at links step.0 ≡ Some (first, step.1)) × IsChain links step.0 steps last

-- the place is on the chain that leads to the other
abbrev pub IsOnChainTo : List (Option (ℕ × ℕ)) → ℕ → ℕ → Type 0
IsOnChainTo links place other = (steps : List (ℕ × ℕ)) × IsChain links place steps other

-- what is followed from a place on: these steps, and none after the last
abbrev pub AreFollowed : List (Option (ℕ × ℕ)) → ℕ → List (ℕ × ℕ) → Type 0
AreFollowed links place [] = link_at links place ≡ None
AreFollowed links place (step ∷ steps) = (link_at links place ≡ Some step) × AreFollowed links step.0 steps

-- the whole chain that leads to the last place was turned: its steps are followed from its first place on
pub record IsTurned (before now : List (Option (ℕ × ℕ))) (last first : ℕ) : Type 0 where
  pub steps : List (ℕ × ℕ)
  pub chain : IsChain before first steps last
  pub whole : link_at before first ≡ None
  pub followed : AreFollowed now first steps
