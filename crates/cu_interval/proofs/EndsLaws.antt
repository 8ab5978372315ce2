-- The ends of an edge in a direction, and the numbers of its lists.
use Rattle.std.proofs.Common.{◌≡◌, ◌≢◌, ◌<◌, ◌*◌, ◌/◌, ◌%◌, ◌∙◌, ℕ, List, Some, refl, sym, ap, subst, arith, inl, inr, get_or, length, min}
use Rattle.std.specs.Prelude.{slice_get}
use Rattle.std.proofs.lemmas.Bool.{cases_eq, cases_lt}
use Rattle.std.proofs.lemmas.Option.{get_or_from_slice_get, slice_get_cases, slice_get_within}
use Rattle.cu_model.proofs.RoadLaws.{all_at}
use Rattle.cu_chordal.specs.declared.graph.Ends.{Ends}
use Rattle.cu_chordal.specs.Graphs.{ComesBefore, IsRising}
use Rattle.cu_interval.specs.declared.ways.Dir.{Dir}
use Rattle.cu_interval.specs.declared.ways.Dir.TheVariants.{Up, Down}
use Rattle.cu_interval.specs.Hierarchies.{HierarchyValue, IsHierarchy, end_of, list_number, start_of}

-- a middle below both ends of an edge is below its lower end
pub below_low : (ends : Ends) (dir : Dir) (m : ℕ) → m < start_of ends dir → m < end_of ends dir → m < ends.low
below_low ends Up m start end = start
below_low ends Down m start end = end

-- the ends differ
pub ends_apart : (ends : Ends) (dir : Dir) → ends.low < ends.high → start_of ends dir ≢ end_of ends dir
ends_apart ends Up rise = λ same. absurd (omega (arith, rise, same))
ends_apart ends Down rise = λ same. absurd (omega (arith, rise, same))

-- and the lesser of them is the lower one
pub min_ends : (ends : Ends) (dir : Dir) → ends.low < ends.high → min (start_of ends dir) (end_of ends dir) ≡ ends.low
min_ends ends Up rise = omega (arith, rise)
min_ends ends Down rise = omega (arith, rise)

-- both are below what the higher end is below
pub start_below : (ends : Ends) (dir : Dir) (n : ℕ) → ends.low < ends.high → ends.high < n → start_of ends dir < n
start_below ends Up n a b = omega (arith, a, b)
start_below ends Down n a b = b

pub end_below : (ends : Ends) (dir : Dir) (n : ℕ) → ends.low < ends.high → ends.high < n → end_of ends dir < n
end_below ends Up n a b = b
end_below ends Down n a b = omega (arith, a, b)

-- a list's number says its edge and direction
pub number_parts : (e f : ℕ) (d k : Dir) → list_number e d ≡ list_number f k → (e ≡ f) × (d ≡ k)
number_parts e f Up Up h = (omega (arith, h), refl)
number_parts e f Down Down h = (omega (arith, h), refl)
number_parts e f Up Down h = absurd (omega (arith, h))
number_parts e f Down Up h = absurd (omega (arith, h))

-- each number is that of a list
pub each_number : (number : ℕ) → (edge : ℕ) × (dir : Dir) × (list_number edge dir ≡ number)
each_number number = elim (cases_eq (number % 2) 0) [
  | inl even ↦ (number / 2, Up, omega (arith, even))
  | inr odd ↦ (number / 2, Down, omega (arith, odd))
]

-- each list number is that of an edge and a direction
pub number_edge : (edges : List Ends) (k : ℕ) → k < 2 * length edges → (edge : ℕ) × (dir : Dir) × (ends : Ends) × (k ≡ list_number edge dir) × (slice_get edges edge ≡ Some ends)
number_edge edges k h =
    let edge = k / 2 in
    elim (slice_get_cases edges edge).1 [
      | inl (ends, inside, at, same) ↦ elim (cases_eq (k % 2) 0) [
        | inl even ↦ (edge, Up, ends, omega (arith, even), at)
        | inr odd ↦ (edge, Down, ends, omega (arith, odd), at)
      ]
      | inr past ↦ absurd (let over = past.0 in omega (arith, over, h))
    ]

-- there are two for each edge
pub number_within : (edge count : ℕ) (dir : Dir) → edge < count → list_number edge dir < 2 * count
number_within edge count Up lt = omega (arith, lt)
number_within edge count Down lt = omega (arith, lt)

-- the ends of a hierarchy's edge rise, and are ranks
module _ (h : HierarchyValue) (sound : IsHierarchy h) (e : ℕ) (ends : Ends) (at : slice_get h.edges e ≡ Some ends) where
  pub ends_range : (ends.low < ends.high) × (ends.high < h.network.nodes)
  ends_range = all_at (λ (x : Ends). (x.low < x.high) × (x.high < h.network.nodes)) h.edges e ends sound.graph.in_range at

  pub ends_rise : ends.low < ends.high
  ends_rise = ends_range.0

-- an edge with a lower lower end has a lower number
pub number_below : (edges : List Ends) → IsRising edges → (j k : ℕ) (a b : Ends) → slice_get edges j ≡ Some a → slice_get edges k ≡ Some b → a.low < b.low → j < k
number_below edges rising j k a b at there lt =
    elim (cases_lt j k) [
      | inl less ↦ less
      | inr more ↦
          let one : get_or edges j a ≡ a = get_or_from_slice_get edges j a a at in
          let two : get_or edges k a ≡ b = get_or_from_slice_get edges k b a there in
          elim (cases_eq j k) [
            | inl same ↦
                let equal : a ≡ b = sym one ∙ ap (λ (i : ℕ). get_or edges i a) same ∙ two in
                let low : a.low ≡ b.low = ap (λ (e : Ends). e.low) equal in
                absurd (omega (arith, low, lt))
            | inr apart ↦
                let before : ComesBefore (get_or edges k a) (get_or edges j a) = rising k j a (omega (arith, more, apart)) (slice_get_within edges j a at) in
                let is : ComesBefore b a = subst (λ (x : Ends). ComesBefore x a) two (subst (λ (x : Ends). ComesBefore (get_or edges k a) x) one before) in
                elim is [ inl less ↦ absurd (omega (arith, less, lt)) | inr tie ↦ absurd (let e = tie.0 in omega (arith, e, lt)) ]
          ]
    ]
