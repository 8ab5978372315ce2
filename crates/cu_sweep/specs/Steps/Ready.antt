-- Places that are ready for a sweep: links rise along the sweeps, and seconds are near.
use Rattle.std.specs.Prelude.{ℕ, Bool, false, List, [], ◌∷◌, ◌++◌, Option, Some, ◌≡◌, ◌≤◌, ◌<◌, ◌+◌, ◌-◌, ◌*◌, ◌^◌, nat_lt, if◌then◌else◌, length}
use Rattle.cu_model.specs.declared.limits.TheConstants.{MAX_NODES}
use Rattle.cu_model.specs.Days.{day}
use Rattle.cu_links.specs.Chains.{ChainValue, link_at}
use Rattle.cu_chordal.specs.declared.graph.TheConstants.{MAX_EDGES}
use Rattle.cu_interval.specs.declared.relaxing.Call.{Call}
use Rattle.cu_sweep.specs.Places.{KeepsLinks, calls_over, second_at}

-- the calls of steps that are followed from a place
abbrev pub calls_along : ℕ → List (Option ℕ) → ℕ → List (ℕ × ℕ) → List Call
calls_along nodes labels place [] = []
calls_along nodes labels place (step ∷ steps) = calls_over nodes labels place step.0 step.1 ++ calls_along nodes labels step.0 steps

-- how far along the sweeps a place comes
abbrev pub turn_of : ℕ → ℕ → ℕ
turn_of nodes place = if nat_lt place nodes then place else 3 * nodes - place

-- each link comes from a place that the sweeps pass before, and its label is the number of an edge
abbrev pub Rises : ℕ → List (Option (ℕ × ℕ)) → Type 0
Rises nodes links = (place from edge : ℕ) → link_at links place ≡ Some (from, edge)
    → (turn_of nodes from < turn_of nodes place) × (from < 2 * nodes) × (edge < MAX_EDGES)

-- seconds rise by at most 2^38 from place to place
abbrev pub AreNear : ℕ → List (Option ℕ) → Type 0
AreNear nodes labels = (place second : ℕ) → second_at labels place ≡ Some second → second ≤ day - 1 + turn_of nodes place * 2 ^ 38

-- labels and links between sweeps: one place more than the sweeps use, where the desk's end lies before there was a query. There are as many places for
-- links where these are kept
pub record IsReady (Kept : Type 0) (nodes : ℕ) (labels : List (Option ℕ)) (links : List (Option (ℕ × ℕ))) (turned : Bool) : Type 0 where
  pub few : nodes ≤ MAX_NODES
  pub long : length labels ≡ 2 * nodes + 1
  pub places : Kept → length links ≡ 2 * nodes + 1
  pub near : AreNear nodes labels
  pub rises : turned ≡ false → Rises nodes links

-- the same by a kind that keeps links or none: those of each one of it, and whether they were turned
abbrev pub IsReadyBy : {K : Type 0} → (K → List (Option (ℕ × ℕ))) → (K → Bool) → ℕ → List (Option ℕ) → K → Type 0
IsReadyBy links turned nodes labels one = IsReady (KeepsLinks links) nodes labels (links one) (turned one)

-- and where a chain keeps them
abbrev pub IsChainReady : ℕ → List (Option ℕ) → ChainValue → Type 0
IsChainReady nodes labels chain = IsReadyBy (λ (one : ChainValue). one.links) (λ (one : ChainValue). one.turned) nodes labels chain
