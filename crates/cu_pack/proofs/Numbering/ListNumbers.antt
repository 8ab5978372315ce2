-- The numbers of way lists: two for each edge.
use Rattle.std.proofs.Common.{◌≡◌, ◌<◌, ◌*◌, ◌/◌, ◌%◌, ℕ, arith, inl, inr}
use Rattle.std.proofs.lemmas.Bool.{cases_eq}
use Rattle.cu_interval.specs.declared.ways.Dir.{Dir}
use Rattle.cu_interval.specs.declared.ways.Dir.TheVariants.{Up, Down}
use Rattle.cu_interval.specs.Hierarchies.{list_number}

-- each is that of an edge and a direction
pub list_parts : (number count : ℕ) → number < 2 * count → (edge : ℕ) × (dir : Dir) × (edge < count) × (number ≡ list_number edge dir)
list_parts number count inside =
    elim (cases_eq (number % 2) 0) [
      | inl even ↦ (number / 2, Up, omega (arith, inside), omega (arith, even))
      | inr odd ↦ (number / 2, Down, omega (arith, inside), omega (arith, odd))
    ]
