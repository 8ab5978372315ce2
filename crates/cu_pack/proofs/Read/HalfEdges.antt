-- The edges of halves, in a file whose graph is right.
use Rattle.std.proofs.Common.{◌≡◌, ◌≤◌, ◌<◌, ℕ, List, Some, arith, subst}
use Rattle.std.specs.Prelude.{slice_get}
use Rattle.cu_model.proofs.OptionLaws.{same_value}
use Rattle.cu_chordal.specs.declared.graph.Ends.{Ends}
use Rattle.cu_chordal.specs.Graphs.{HasEdge}
use Rattle.cu_chordal.proofs.Members.{place_of}
use Rattle.cu_interval.specs.declared.ways.Dir.{Dir}
use Rattle.cu_interval.specs.declared.ways.Dir.TheVariants.{Up, Down}
use Rattle.cu_interval.specs.Hierarchies.{end_of, start_of}
use Rattle.cu_interval.specs.Shortcuts.{IsMiddle}
use Rattle.cu_pack.specs.Checks.{IsGraph}
use Rattle.cu_pack.specs.Reading.{counts_in, decoded}
use Rattle.cu_pack.proofs.Read.WayEntries.{ends_inside, number_inside}

-- neither end of a list is below the lower rank
pub low_least : (ends : Ends) (dir : Dir) → ends.low < ends.high → (ends.low ≤ start_of ends dir) × (ends.low ≤ end_of ends dir)
low_least ends Up less = (omega arith, omega (arith, less))
low_least ends Down less = (omega (arith, less), omega arith)

module _ (bytes : List ℕ) (f : IsGraph bytes) where
  pub rank_inside : (low high : ℕ) → HasEdge (decoded bytes).edges low high → low < (counts_in bytes).nodes
  rank_inside low high has =
      let (edge, there) = place_of (decoded bytes).edges (record { low = low; high = high }) has in
      let range = ends_inside bytes f edge (record { low = low; high = high }) there in
      omega (arith, range.0, range.1)

  -- edges join a middle to both ends
  pub middle_joined : (edge : ℕ) (dir : Dir) (middle : ℕ) (ends : Ends) → slice_get (decoded bytes).edges edge ≡ Some ends → IsMiddle (decoded bytes) edge dir middle
      → HasEdge (decoded bytes).edges middle (start_of ends dir) × HasEdge (decoded bytes).edges middle (end_of ends dir)
  middle_joined edge dir middle ends at (own, there, first, second) =
      subst (λ (e : Ends). HasEdge (decoded bytes).edges middle (start_of e dir) × HasEdge (decoded bytes).edges middle (end_of e dir))
      (same_value (slice_get (decoded bytes).edges edge) own ends there at) (first, second)

  -- an edge with a middle is there
  pub middle_inside : (edge : ℕ) (dir : Dir) (middle : ℕ) → IsMiddle (decoded bytes) edge dir middle → edge < (counts_in bytes).edges
  middle_inside edge dir middle (ends, at, first, second) = number_inside bytes f edge ends at
