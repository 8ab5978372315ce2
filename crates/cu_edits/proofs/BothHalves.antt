-- Both halves of a way by a middle.
use Rattle.std.proofs.Common.{ℕ, List, subst}
use Rattle.cu_chordal.specs.declared.graph.Ends.{Ends}
use Rattle.cu_chordal.specs.Graphs.{IsRising}
use Rattle.cu_interval.specs.declared.ways.Dir.{Dir}
use Rattle.cu_interval.specs.declared.ways.Dir.TheVariants.{Up, Down}
use Rattle.cu_interval.specs.Hierarchies.{end_of, start_of}
use Rattle.cu_interval.proofs.Lookups.{one_number}
use Rattle.cu_interval.specs.Shortcuts.{AreHalfEdges}
use Rattle.cu_edits.specs.Steps.Moving.{HalvesAre}

-- there are no others
pub halves_are : (Good : ℕ → Dir → Type 0) (edges : List Ends) → IsRising edges → (ends : Ends) (dir : Dir) (middle first second : ℕ) → AreHalfEdges edges ends dir middle first second
    → Good first Down → Good second Up → HalvesAre Good edges ends dir middle
halves_are Good edges rising ends dir middle first second are one two e f halves = (
  subst (λ (k : ℕ). Good k Down) (one_number edges rising first e middle (start_of ends dir) are.to halves.to) one,
  subst (λ (k : ℕ). Good k Up) (one_number edges rising second f middle (end_of ends dir) are.on halves.on) two,
)

-- so it is with what is so of both together
pub pairs_are : (Good : ℕ × ℕ → Type 0) (edges : List Ends) → IsRising edges → (ends : Ends) (dir : Dir) (middle first second : ℕ) → AreHalfEdges edges ends dir middle first second
    → Good (first, second) → (e f : ℕ) → AreHalfEdges edges ends dir middle e f → Good (e, f)
pairs_are Good edges rising ends dir middle first second are good e f halves =
    subst (λ (k : ℕ). Good (k, f)) (one_number edges rising first e middle (start_of ends dir) are.to halves.to)
    (subst (λ (k : ℕ). Good (first, k)) (one_number edges rising second f middle (end_of ends dir) are.on halves.on) good)
