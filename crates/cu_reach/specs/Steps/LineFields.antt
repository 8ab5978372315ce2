-- The fields of a line that has three, or four.
use Rattle.std.specs.Prelude.{ℕ, List, [], ◌∷◌, Option, Some, None, Err, ◌≡◌}
use Rattle.cu_reach.specs.declared.lines.FourFields.{FourFields}
use Rattle.cu_reach.specs.declared.lines.ThreeFields.{ThreeFields}
use Rattle.cu_reach.specs.declared.lines.ManyRefusal.TheVariants.{Line}
use Rattle.cu_reach.specs.ReachLines.{latest_of_fields, reach_of_fields}

-- these three fields, or none where a line of so many fields asks for no reach
abbrev pub HasThree : List (List ℕ) → Option ThreeFields → Type 0
HasThree fields None = (nodes : ℕ) → reach_of_fields nodes fields ≡ Err Line
HasThree fields (Some three) = fields ≡ three.word.now ∷ three.from.now ∷ three.second.now ∷ []

-- these four fields, or none where a line of so many fields asks for no latest departure
abbrev pub HasFour : List (List ℕ) → Option FourFields → Type 0
HasFour fields None = (nodes : ℕ) → latest_of_fields nodes fields ≡ Err Line
HasFour fields (Some four) = fields ≡ four.word.now ∷ four.from.now ∷ four.to.now ∷ four.by.now ∷ []
