-- The nodes that a walk visits.
use Rattle.std.specs.Prelude.{ℕ, List, [], ◌∷◌, ◌≢◌}
use Rattle.std.specs.List.{AllPairs}
use Rattle.cu_model.specs.Networks.{NetworkValue}
use Rattle.cu_model.specs.Roads.{Leads}

-- the roads of a walk lead through these nodes, from the first to the last
abbrev pub Visits : NetworkValue → List ℕ → List ℕ → Type 0
Visits g [] walk = ⊥
Visits g (u ∷ []) [] = Unit {0}
Visits g (u ∷ []) (a ∷ walk) = ⊥
Visits g (u ∷ x ∷ nodes) [] = ⊥
Visits g (u ∷ x ∷ nodes) (a ∷ walk) = Leads g a u x × Visits g (x ∷ nodes) walk

-- a walk that visits no node twice
abbrev pub VisitsOnce : NetworkValue → List ℕ → Type 0
VisitsOnce g walk = (nodes : List ℕ) × Visits g nodes walk × AllPairs (λ first later. first ≢ later) nodes
