-- How long some way is known to take at most, as more functions are learned.
use Rattle.std.proofs.Common.{◌≡◌, ◌<◌, ◌+◌, ◌-◌, ◌*◌, ◌∙◌, ◌∷◌, ◌^◌, ◌⊎◌, ℕ, zero, suc, List, [], Option, Some, ap, arith, get_or, inl, inr, length, min, subst, sym}
use Rattle.std.specs.Prelude.{All, slice_get}
use Rattle.std.proofs.lemmas.Option.{slice_get-get_or, slice_get_within}
use Rattle.std.specs.List.{Contains}
use Rattle.std.proofs.lemmas.Bool.{cases_lt}
use Rattle.std.proofs.lemmas.List.{get_or_default, get_or_past}
use Rattle.cu_arrival.specs.declared.runs.Run.{Run}
use Rattle.cu_arrival.specs.Runs.{arrival_value}
use Rattle.cu_chordal.specs.declared.graph.Ends.{Ends}
use Rattle.cu_interval.specs.declared.ways.Dir.{Dir}
use Rattle.cu_interval.specs.declared.ways.Dir.TheVariants.{Up, Down}
use Rattle.cu_interval.specs.Hierarchies.{HierarchyValue, list_number}
use Rattle.cu_interval.proofs.EndsLaws.{number_within}
use Rattle.cu_runs.specs.Layers.{layered}
use Rattle.cu_runs.specs.PackedRuns.{IsPackedFunction}
use Rattle.cu_runs.specs.Travels.{TakesAtMost}
use Rattle.cu_runs.proofs.TravelLaws.{most_always}
use Rattle.cu_customize.specs.declared.triangles.Triangle.{Triangle}
use Rattle.cu_customize.specs.Triangles.{AreTrianglesOf, IsTriangle}
use Rattle.cu_unpack.specs.RebuiltRuns.{PackedValue}
use Rattle.cu_edits.specs.Steps.Bounds.{TakeNoMoreThan, no_limit}
use Rattle.cu_edits.specs.Steps.Moving.{MovedValue}
use Rattle.cu_edits.specs.Steps.Packed.{LearnsPacked, functions_at_hand}
use Rattle.cu_edits.specs.Steps.Triangles.{HasPlaces, IsLimit, halves_by}

-- a function that stands in the older layer, or in the newer, still does where the older has the functions that it had
pub layered_still : (old new : List (Option (List Run))) (places : List ℕ) (newer : List (Option (List Run))) (n : ℕ) (function : List Run) → length old ≡ length new
    → (slice_get old n ≡ Some (Some function) → slice_get new n ≡ Some (Some function))
    → slice_get (layered old places newer) n ≡ Some (Some function) → slice_get (layered new places newer) n ≡ Some (Some function)
layered_still [] [] places newer n function long still there = there
layered_still [] (g ∷ gs) places newer n function long still there = absurd (omega (arith, long))
layered_still (f ∷ fs) [] places newer n function long still there = absurd (omega (arith, long))
layered_still (f ∷ fs) (g ∷ gs) [] newer n function long still there = still there
layered_still (f ∷ fs) (g ∷ gs) (zero ∷ ps) newer zero function long still there = still there
layered_still (f ∷ fs) (g ∷ gs) (suc p ∷ ps) newer zero function long still there = elim (cases_lt p (length newer)) [
  | inl inside ↦ ap Some (get_or_default newer p g f inside) ∙ there
  | inr past ↦ ap Some (get_or_past newer p g past) ∙ still (ap Some (sym (get_or_past newer p f past)) ∙ there)
]
layered_still (f ∷ fs) (g ∷ gs) (zero ∷ ps) newer (suc n) function long still there = layered_still fs gs ps newer n function (omega (arith, long)) still there
layered_still (f ∷ fs) (g ∷ gs) (suc p ∷ ps) newer (suc n) function long still there = layered_still fs gs ps newer n function (omega (arith, long)) still there

module _ (h : HierarchyValue) (moved : MovedValue) (before now : PackedValue) (long : length before.functions ≡ length now.functions) (learns : LearnsPacked h before now) where
  at_hand_still : (edge : ℕ) (dir : Dir) (function : List Run) → slice_get (functions_at_hand moved before) (list_number edge dir) ≡ Some (Some function)
      → slice_get (functions_at_hand moved now) (list_number edge dir) ≡ Some (Some function)
  at_hand_still edge dir function =
      layered_still before.functions now.functions moved.places moved.functions (list_number edge dir) function long (learns.same edge dir function)

  take_still : (limit : ℕ) (edges : ℕ × ℕ) → TakeNoMoreThan (functions_at_hand moved before) limit edges → TakeNoMoreThan (functions_at_hand moved now) limit edges
  take_still limit edges take = record {
    one = take.one;
    first = at_hand_still edges.0 Down take.one take.first;
    two = take.two;
    second = at_hand_still edges.1 Up take.two take.second;
    each = take.each;
  }

  -- what is known to take no longer still is
  pub limit_still : (dir : Dir) (triangles : List Triangle) (limit : ℕ) → IsLimit (functions_at_hand moved before) dir triangles limit → IsLimit (functions_at_hand moved now) dir triangles limit
  limit_still dir triangles limit (inl none) = inl none
  limit_still dir triangles limit (inr some) = inr (record {
    triangle = some.triangle;
    among = some.among;
    take = take_still limit (halves_by dir some.triangle) some.take;
  })

-- both halves together take no longer than each at most
pub most_of_both : (functions : List (Option (List Run))) (edges : ℕ × ℕ) (one two : List Run) (first second most : ℕ)
    → slice_get functions (list_number edges.0 Down) ≡ Some (Some one) → slice_get functions (list_number edges.1 Up) ≡ Some (Some two)
    → IsPackedFunction two → TakesAtMost one first → TakesAtMost two second → most ≡ min (first + second) (2 ^ 64 - 1)
    → (most ≡ no_limit) ⊎ TakeNoMoreThan functions most edges
most_of_both functions edges one two first second most at also is soon quick same = elim (cases_lt (first + second) (2 ^ 64 - 1)) [
  | inl few ↦ inr (record {
    one = one;
    first = at;
    two = two;
    second = also;
    each = λ t lt.
        let to = soon t lt in
        let on = most_always two second is quick (arrival_value one t) in
        omega (arith, to, on, same, few);
  })
  | inr many ↦ inl (omega (arith, many, same))
]

-- the lesser of two limits is one
pub lesser_limit : (functions : List (Option (List Run))) (dir : Dir) (triangles : List Triangle) (limit most : ℕ) (triangle : Triangle) → IsLimit functions dir triangles limit
    → Contains triangles triangle → (most ≡ no_limit) ⊎ TakeNoMoreThan functions most (halves_by dir triangle) → IsLimit functions dir triangles (min limit most)
lesser_limit functions dir triangles limit most triangle is among may = elim (cases_lt limit most) [
  | inl below ↦ (let same : limit ≡ min limit most = omega (arith, below) in subst (IsLimit functions dir triangles) same is)
  | inr above ↦
      let same : most ≡ min limit most = omega (arith, above) in
      subst (IsLimit functions dir triangles) same (elim may [
        | inl none ↦ inl none
        | inr take ↦ inr (record { triangle = triangle; among = among; take = take })
      ])
]

-- there are places for the functions of the halves by each triangle
placed_by : (edges : List Ends) (functions : List (Option (List Run))) (low high : ℕ) (dir : Dir) (triangle : Triangle) → length functions ≡ 2 * length edges → IsTriangle edges low high triangle
    → HasPlaces functions dir triangle
placed_by edges functions low high Up triangle long is =
    let first = number_within triangle.to_low (length edges) Down (slice_get_within edges triangle.to_low _ is.to_low) in
    let second = number_within triangle.to_high (length edges) Up (slice_get_within edges triangle.to_high _ is.to_high) in
    (omega (arith, long, first), omega (arith, long, second))
placed_by edges functions low high Down triangle long is =
    let first = number_within triangle.to_high (length edges) Down (slice_get_within edges triangle.to_high _ is.to_high) in
    let second = number_within triangle.to_low (length edges) Up (slice_get_within edges triangle.to_low _ is.to_low) in
    (omega (arith, long, first), omega (arith, long, second))

pub places_of : (edges : List Ends) (functions : List (Option (List Run))) (edge : ℕ) (dir : Dir) (triangles : List Triangle) → length functions ≡ 2 * length edges → edge < length edges
    → AreTrianglesOf edges edge triangles → All (HasPlaces functions dir) triangles
places_of edges functions edge dir triangles long inside are k d lt =
    let ends = get_or edges edge (record { low = 0; high = 0 }) in
    placed_by edges functions ends.low ends.high dir (get_or triangles k d) long ((are ends (slice_get-get_or edges edge (record { low = 0; high = 0 }) inside)).each k d lt)
