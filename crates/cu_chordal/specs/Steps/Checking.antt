-- How claimed parts are checked rank by rank.
use Rattle.std.specs.Prelude.{ℕ, List, [], ◌≡◌, ◌≤◌, ◌<◌, ◌+◌, length, All, slice_index}
use Rattle.std.specs.List.Sorted.{IsStrictlyIncreasing}
use Rattle.cu_chordal.specs.Lists.{part_at, edges_below}
use Rattle.cu_chordal.specs.Steps.Closing.{AreChildren, AreClosed, AreStamped, Gathers, ListsSources}
use Rattle.cu_chordal.specs.declared.closure.Children.{Children}
use Rattle.cu_chordal.specs.declared.checking.Checking.{Checking}
use Rattle.cu_chordal.specs.declared.graph.Ends.{Ends}

-- a rank's part doesn't end before it starts, nor past the entries
abbrev pub IsLaid : List ℕ → List ℕ → ℕ → Type 0
IsLaid starts uppers rank = (slice_index starts rank ≤ slice_index starts (rank + 1)) × (slice_index starts (rank + 1) ≤ length uppers)

-- beside the rank, these numbers have its stamp, and they are so many
abbrev pub AreCounted : ℕ → List ℕ → List ℕ → ℕ → Type 0
AreCounted rank stamps found count = AreStamped rank stamps found × (length found ≡ count)

-- the candidates were stamped, and counted where they had no stamp
abbrev pub StampsAll : ℕ → List ℕ → List ℕ → ℕ → List ℕ → ℕ → Type 0
StampsAll rank candidates old count new total = (found : List ℕ) → AreCounted rank old found count → (more : List ℕ) × AreCounted rank new more total × Gathers rank candidates found more

-- so many numbers are stamped, the sources of a rank's higher neighbours
abbrev pub CountsSources : List Ends → List ℕ → ℕ → List ℕ → ℕ → Type 0
CountsSources edges links rank stamps count = (found : List ℕ) × AreCounted rank stamps found count × ListsSources edges links rank found

-- the part rises from above the rank over numbers with its stamp
pub record Climbs (rank : ℕ) (stamps part : List ℕ) : Type 0 where
  pub rising : IsStrictlyIncreasing part
  pub above : All (λ y. rank < y) part
  pub stamped : All (λ y. slice_index stamps y ≡ rank + 1) part

-- the parts of the ranks below this one were found right, and these ranks alone have stamped
pub record AreFoundRight (ranks rank : ℕ) (starts uppers : List ℕ) (children : Children) (stamps : List ℕ) : Type 0 where
  pub laid : (k : ℕ) → k < rank → IsLaid starts uppers k
  pub long : length (edges_below starts uppers rank) ≡ slice_index starts rank
  pub edges : AreClosed (edges_below starts uppers rank) ranks rank
  pub handed : AreChildren (edges_below starts uppers rank) ranks rank children
  pub marks : length stamps ≡ ranks
  pub low : All (λ stamp. stamp ≤ rank) stamps

-- no rank was checked
pub record IsFresh (ranks : ℕ) (checking : Checking) : Type 0 where
  pub handed : AreChildren [] ranks 0 checking.children
  pub marks : length checking.stamps.items ≡ ranks
  pub low : All (λ stamp. stamp ≤ 0) checking.stamps.items

abbrev pub IsBeforeCheck : ℕ → ℕ → List ℕ → List ℕ → Checking → Type 0
IsBeforeCheck ranks rank starts uppers checking = AreFoundRight ranks rank starts uppers checking.children checking.stamps.items

-- a rank's part is the sources of its higher neighbours, rising
pub record IsSourcePart (starts uppers links : List ℕ) (rank : ℕ) : Type 0 where
  pub laid : IsLaid starts uppers rank
  pub rising : IsStrictlyIncreasing (part_at starts uppers rank)
  pub exact : ListsSources (edges_below starts uppers rank) links rank (part_at starts uppers rank)
