-- The swept reply over a network with measured profiles.
use Rattle.std.specs.Prelude.{ℕ, List, ◌≡◌}
use Rattle.cu_model.specs.declared.queries.Query.{Query}
use Rattle.cu_model.specs.Orders.{OrderValue}
use Rattle.cu_interval.specs.Hierarchies.{HierarchyValue, IsBuilt}
use Rattle.cu_router.specs.Swept.{swept_as}
use Rattle.cu_wait.specs.Converted.{IsConverted}
use Rattle.cu_wait.specs.Networks.{RawNetwork}

-- the swept reply of the hierarchy that is built, under this order, of the network in pieces that stand for the measured profiles, with an
-- arrival said so
abbrev pub IsSweptOver : (ℕ → List ℕ → List ℕ) → RawNetwork → OrderValue → Query → List ℕ → Type 0
IsSweptOver says g order query reply =
    (h : HierarchyValue) × IsConverted g h.network × (h.order ≡ order) × IsBuilt h × (reply ≡ swept_as says h query)
