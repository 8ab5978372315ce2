-- What holds from a second of the day on: of items that each begin at a second, the one that has begun last.
use Rattle.std.specs.Prelude.{ℕ, List, [], ◌∷◌, Option, Some, None, nat_le, length, ◌<◌, if◌then◌else◌}
use Rattle.std.specs.List.{AllAdjacentBelow}

-- the second option where there is one, else the first
abbrev pub later_of : {A : Type 0} → Option A → Option A → Option A
later_of first None = first
later_of first (Some second) = Some second

-- the last item that has begun by this second, where each has a second from which it holds
abbrev pub last_begun : {A : Type 0} → (A → ℕ) → List A → ℕ → Option A
last_begun from [] second = None
last_begun from (x ∷ xs) second = later_of (if nat_le (from x) second then Some x else None) (last_begun from xs second)

-- each item begins at a later second than the one before
abbrev pub Rises : {A : Type 0} → (A → ℕ) → List A → Type 0
Rises {A} from xs = AllAdjacentBelow (λ (x y : A). from x < from y) xs (length xs)
