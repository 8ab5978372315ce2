-- The halves of a way come before its list, so that their most roads are counted.
use Rattle.std.proofs.Common.{◌≡◌, ◌<◌, ℕ, subst}
use Rattle.std.specs.Prelude.{slice_get, Some}
use Rattle.cu_model.proofs.OptionLaws.{same_value}
use Rattle.cu_bounds.specs.Steps.InTurn.{IsWayOf}
use Rattle.cu_bounds.proofs.HalfBounds.{numbers_below}
use Rattle.cu_chordal.specs.declared.graph.Ends.{Ends}
use Rattle.cu_interval.specs.declared.shortcuts.Shortcut.{Shortcut}
use Rattle.cu_interval.specs.declared.ways.Dir.{Dir}
use Rattle.cu_interval.specs.declared.ways.Dir.TheVariants.{Up, Down}
use Rattle.cu_interval.specs.declared.ways.Way.TheVariants.{Via}
use Rattle.cu_interval.specs.Hierarchies.{HierarchyValue, IsHierarchy, end_of, start_of}
use Rattle.cu_interval.specs.Shortcuts.{AreHalves, number_of}
use Rattle.cu_interval.proofs.EndsLaws.{below_low, number_below}
use Rattle.cu_short.specs.Shortness.{most_roads}
use Rattle.cu_short.specs.Counts.{IsCounted}
use Rattle.cu_short.specs.Steps.Counted.{AreCountedBelow}

-- a half comes before its whole, and what is counted for it are the most roads from one rank to another
pub record IsCountedHalf (h : HierarchyValue) (counts : ℕ → ℕ) (count : ℕ) (half : Shortcut) (u v : ℕ) : Type 0 where
  pub below : number_of half < count
  pub right : counts (number_of half) ≡ most_roads h u v
  pub few : counts (number_of half) < h.network.nodes

module _ (h : HierarchyValue) (f : IsHierarchy h) (counts : ℕ → ℕ) (whole : Shortcut) (right : AreCountedBelow h counts (number_of whole)) where
  counted_half : (half : Shortcut) (dir : Dir) (ends low : Ends) → slice_get h.edges whole.edge ≡ Some ends → slice_get h.edges half.edge ≡ Some low
      → low.low < ends.low → half.dir ≡ dir → IsCountedHalf h counts (number_of whole) half (start_of low dir) (end_of low dir)
  counted_half half dir ends low at there lower same =
      let before = number_below h.edges f.graph.rising half.edge whole.edge low ends there at lower in
      let below = numbers_below half.edge whole.edge half.dir whole.dir before in
      let is : IsCounted h (counts (number_of half)) half.dir low = right half.edge half.dir low there below in
      let turned = subst (λ (d : Dir). IsCounted h (counts (number_of half)) d low) same is in
      record { below = below; right = turned.0; few = turned.1 }

  -- both halves at the middle of a way
  pub counted_halves : (m : ℕ) (first second : Shortcut) → AreHalves h whole m first second → IsWayOf h whole (Via m)
      → (ends : Ends) → slice_get h.edges whole.edge ≡ Some ends
      → IsCountedHalf h counts (number_of whole) first (start_of ends whole.dir) m × IsCountedHalf h counts (number_of whole) second m (end_of ends whole.dir)
  counted_halves m first second halves (own, there, formed) ends at =
      let whose : own ≡ ends = same_value (slice_get h.edges whole.edge) own ends there at in
      let read : halves.ends ≡ ends = same_value (slice_get h.edges whole.edge) halves.ends ends halves.at at in
      let lower : m < ends.low = subst (λ (e : Ends). m < e.low) whose (below_low own whole.dir m formed.0 formed.1) in
      let one = counted_half first Down ends (record { low = m; high = start_of halves.ends whole.dir }) at halves.to lower halves.down in
      let two = counted_half second Up ends (record { low = m; high = end_of halves.ends whole.dir }) at halves.onward lower halves.up in (
        subst (λ (e : Ends). IsCountedHalf h counts (number_of whole) first (start_of e whole.dir) m) read one,
        subst (λ (e : Ends). IsCountedHalf h counts (number_of whole) second m (end_of e whole.dir)) read two,
      )
