-- How a list grows at its end: an item that says what the last one says is left out.
use Rattle.std.specs.Prelude.{List, [], ◌∷◌, ◌++◌, Option, Some, ◌≡◌, ◌≢◌, ◌⊎◌, ◌-◌, slice_get, length}
use Rattle.std.specs.Option.{option_map}

-- what the last item says, where there is one
abbrev pub last_says : {A B : Type 0} → (A → B) → List A → Option B
last_says says xs = option_map says (slice_get xs (length xs - 1))

-- the new list is the old one, with the item pushed unless the last one says the same
abbrev pub IsPushed : {A B : Type 0} → (A → B) → List A → A → List A → Type 0
IsPushed says old x new =
    ((last_says says old ≡ Some (says x)) × (new ≡ old))
    ⊎ ((last_says says old ≢ Some (says x)) × (new ≡ old ++ x ∷ []))
