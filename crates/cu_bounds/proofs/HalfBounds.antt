-- The halves of a way come before its list, so that their least bounds are kept.
use Rattle.std.proofs.Common.{◌≡◌, ◌≤◌, ◌<◌, ◌^◌, ◌∙◌, ℕ, Some, ap, arith, subst}
use Rattle.std.specs.Prelude.{slice_get}
use Rattle.std.proofs.lemmas.Option.{slice_get_within}
use Rattle.cu_model.proofs.OptionLaws.{same_value}
use Rattle.cu_chordal.specs.declared.graph.Ends.{Ends}
use Rattle.cu_interval.specs.declared.shortcuts.Shortcut.{Shortcut}
use Rattle.cu_interval.specs.declared.ways.Dir.{Dir}
use Rattle.cu_interval.specs.declared.ways.Dir.TheVariants.{Up, Down}
use Rattle.cu_interval.specs.declared.ways.Way.TheVariants.{Via}
use Rattle.cu_interval.specs.Hierarchies.{HierarchyValue, IsHierarchy, end_of, list_from, list_number, start_of}
use Rattle.cu_interval.specs.LeastBounds.{bound_ends, bound_from, far, least_bound, road_bound}
use Rattle.cu_interval.specs.Shortcuts.{AreHalves, number_of}
use Rattle.cu_interval.proofs.BoundFuel.{least_of-far}
use Rattle.cu_interval.proofs.EndsLaws.{below_low, number_below, number_within}
use Rattle.cu_bounds.specs.KeptBounds.{AreRightBelow}
use Rattle.cu_bounds.specs.Steps.InTurn.{IsWayOf}

-- a half comes before its whole, and what is kept for it is the least bound from one rank to another
pub record IsKeptHalf (kept : ℕ → ℕ) (count : ℕ) (half : Shortcut) (bound : ℕ) : Type 0 where
  pub below : number_of half < count
  pub fits : number_of half < 2 ^ 32
  pub right : kept (number_of half) ≡ bound
  pub near : bound ≤ far

-- what is read at its number is that bound
pub read_half : (kept : ℕ → ℕ) (count bound : ℕ) (half : Shortcut) → IsKeptHalf kept count half bound
    → (list value : ℕ) → list ≡ number_of half → value ≡ kept list → value ≡ bound
read_half kept count bound half is list value number read = read ∙ ap kept number ∙ is.right

pub numbers_below : (e f : ℕ) (d k : Dir) → e < f → list_number e d < list_number f k
numbers_below e f Up Up lt = omega (arith, lt)
numbers_below e f Up Down lt = omega (arith, lt)
numbers_below e f Down Up lt = omega (arith, lt)
numbers_below e f Down Down lt = omega (arith, lt)

-- halves of a hierarchy are those of the same one
pub halves_of : (known h : HierarchyValue) (whole : Shortcut) (m : ℕ) (first second : Shortcut) → known ≡ h → AreHalves known whole m first second
    → AreHalves h whole m first second
halves_of known h whole m first second same halves = subst (λ (k : HierarchyValue). AreHalves k whole m first second) same halves

-- a list's least bound is that between the ends of its edge
pub bound_at : (h : HierarchyValue) (edge : ℕ) (dir : Dir) (ends : Ends) → slice_get h.edges edge ≡ Some ends
    → least_bound h edge dir ≡ bound_from h (start_of ends dir) (end_of ends dir)
bound_at h edge dir ends at = ap (λ o. bound_ends (road_bound h.network) h o dir) at

module _ (h : HierarchyValue) (f : IsHierarchy h) (kept : ℕ → ℕ) (whole : Shortcut) (right : AreRightBelow h kept (number_of whole)) where
  kept_half : (half : Shortcut) (dir : Dir) (ends low : Ends) → slice_get h.edges whole.edge ≡ Some ends → slice_get h.edges half.edge ≡ Some low
      → low.low < ends.low → half.dir ≡ dir → IsKeptHalf kept (number_of whole) half (bound_from h (start_of low dir) (end_of low dir))
  kept_half half dir ends low at there lower same =
      let before = number_below h.edges f.graph.rising half.edge whole.edge low ends there at lower in
      let below = numbers_below half.edge whole.edge half.dir whole.dir before in
      let inside = slice_get_within h.edges half.edge low there in
      let few = f.graph.few_edges in
      let most = number_within half.edge _ half.dir inside in
      let is = right half.edge half.dir inside below ∙ bound_at h half.edge half.dir low there in
      record {
        below = below;
        fits = omega (arith, few, most);
        right = is ∙ ap (λ (d : Dir). bound_from h (start_of low d) (end_of low d)) same;
        near = least_of-far _ (list_from h (start_of low dir) (end_of low dir));
      }

  -- both halves at the middle of a way
  pub kept_halves : (m : ℕ) (first second : Shortcut) → AreHalves h whole m first second → IsWayOf h whole (Via m)
      → (ends : Ends) → slice_get h.edges whole.edge ≡ Some ends
      → IsKeptHalf kept (number_of whole) first (bound_from h (start_of ends whole.dir) m)
      × IsKeptHalf kept (number_of whole) second (bound_from h m (end_of ends whole.dir))
  kept_halves m first second halves (own, there, formed) ends at =
      let whose : own ≡ ends = same_value (slice_get h.edges whole.edge) own ends there at in
      let read : halves.ends ≡ ends = same_value (slice_get h.edges whole.edge) halves.ends ends halves.at at in
      let lower : m < ends.low = subst (λ (e : Ends). m < e.low) whose (below_low own whole.dir m formed.0 formed.1) in
      let one = kept_half first Down ends (record { low = m; high = start_of halves.ends whole.dir }) at halves.to lower halves.down in
      let two = kept_half second Up ends (record { low = m; high = end_of halves.ends whole.dir }) at halves.onward lower halves.up in (
        subst (λ (e : Ends). IsKeptHalf kept (number_of whole) first (bound_from h (start_of e whole.dir) m)) read one,
        subst (λ (e : Ends). IsKeptHalf kept (number_of whole) second (bound_from h m (end_of e whole.dir))) read two,
      )
