-- What a shelf tells. A name is the bytes of its text.
use Rattle.std.specs.Prelude.{ℕ, List, Option}

-- what each name holds, where the shelf tells it: the bytes of its file, if there is one; the most bytes of a file that can be
-- loaded; and for each name how many of its loads and how many of its stores met a fault, each up to 2 ^ 64 - 1
pub record ShelfState : Type 0 where
  pub held : Option (List ℕ → Option (List ℕ))
  pub most : ℕ
  pub load_faults : List ℕ → ℕ
  pub store_faults : List ℕ → ℕ
