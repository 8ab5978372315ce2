-- The upward labels after the calls of one rank after another.
use Rattle.std.proofs.Common.{◌≡◌, ◌≢◌, ◌<◌, ◌+◌, ◌^◌, ◌∙◌, ℕ, true, List, [], ◌∷◌, ◌++◌, Option, Some, None, refl, sym, ap, subst, arith, inl, inr, length, ltb}
use Rattle.std.specs.List.{Contains}
use Rattle.std.proofs.lemmas.Bool.{cases_eq}
use Rattle.cu_model.proofs.OptionLaws.{some_cases}
use Rattle.cu_chordal.specs.Graphs.{up_of}
use Rattle.cu_chordal.proofs.Members.{here, there, member_at, member_cases, none_in_nil, place_of}
use Rattle.cu_chordal.proofs.Tables.{edge_from_up_of, up_of_from_edge}
use Rattle.cu_interval.specs.declared.ways.Dir.TheVariants.{Up}
use Rattle.cu_interval.specs.Hierarchies.{HierarchyValue, IsHierarchy, number_from}
use Rattle.cu_interval.proofs.Lookups.{number_at, number_found}
use Rattle.cu_sweep.specs.Labels.{earlier_of, start_label}
use Rattle.cu_sweep.specs.Sweeps.{second_of}
use Rattle.cu_sweep.specs.Places.{AreKept, dir_between, second_at}
use Rattle.cu_sweep.specs.Swept.{IsPassed}
use Rattle.cu_sweep.specs.Steps.Made.{HoldsMade, Led, final_made, made_over, made_up_after, made_up_into, sweep_of, up_made}
use Rattle.cu_sweep.specs.Steps.Sweeping.{IfSecond, IsUpSwept, answer_in, links_after, seconds_after}
use Rattle.cu_sweep.proofs.Choosing.{after_more, earlier_none}
use Rattle.cu_sweep.proofs.Holding.{holds_after, holds_other}

-- after the calls from a rank to these of its higher neighbours
abbrev pub IsUpPart : HierarchyValue → Led → List ℕ → ℕ → List ℕ → List (Option ℕ) → List (Option (ℕ × ℕ)) → Type 0
IsUpPart h q done x part labels links = (y : ℕ) → IsPassed h (sweep_of q) y
    → (Contains part y → HoldsMade h q labels links y (made_up_after h q (done ++ (x ∷ [])) y)) × ((Contains part y → ⊥) → HoldsMade h q labels links y (made_up_after h q done y))

module _ (h : HierarchyValue) (q : Led) where
  pub up_begun : (done : List ℕ) (x : ℕ) (labels : List (Option ℕ)) (links : List (Option (ℕ × ℕ))) → IsUpSwept h q done labels links
      → IsUpPart h q done x [] labels links
  up_begun done x labels links f y p = (λ c. absurd (none_in_nil y c), λ c. f y p)

  -- the label after a call to a rank
  up_after_call : (done : List ℕ) (x y edge : ℕ) → number_from 0 h.edges x y ≡ Some edge
      → earlier_of (made_up_after h q done y) (made_over h (q.allows y) (Some edge) Up (up_made h q x)) ≡ made_up_after h q (done ++ (x ∷ [])) y
  up_after_call done x y edge e =
      ap (λ (n : Option ℕ). earlier_of (made_up_after h q done y) (made_over h (q.allows y) n Up (up_made h q x))) (sym e) ∙ sym
      (after_more (start_label q.from q.second y) (made_up_into h q y) done x)

  -- and where there is none
  pub up_after_none : (done : List ℕ) (x y : ℕ) → number_from 0 h.edges x y ≡ None → made_up_after h q (done ++ (x ∷ [])) y ≡ made_up_after h q done y
  up_after_none done x y e =
      after_more (start_label q.from q.second y) (made_up_into h q y) done x ∙ ap (λ (n : Option ℕ). earlier_of (made_up_after h q done y) (made_over h (q.allows y) n Up (up_made h q x))) e
      ∙ earlier_none (made_up_after h q done y)

  pub final_up : (x : ℕ) → x < h.network.nodes → final_made h q x ≡ up_made h q x
  final_up x lt = let first : ltb x h.network.nodes ≡ true = grind (arith, lt) in rw first refl

along_up : (n x y : ℕ) → y < n → dir_between n x y ≡ Some Up
along_up n x y lt = let first : ltb y n ≡ true = grind (arith, lt) in rw first refl

pub member_last : (part : List ℕ) (y : ℕ) → Contains (part ++ (y ∷ [])) y
member_last [] y = here y []
member_last (x ∷ part) y = there x (part ++ (y ∷ [])) y (member_last part y)

pub member_before : (part : List ℕ) (y z : ℕ) → Contains part z → Contains (part ++ (y ∷ [])) z
member_before [] y z c = absurd (none_in_nil z c)
member_before (x ∷ part) y z c =
    elim (member_cases x part z c) [
      | inl same ↦ subst (λ (w : ℕ). Contains (x ∷ (part ++ (y ∷ []))) w) same (here x (part ++ (y ∷ [])))
      | inr rest ↦ there x (part ++ (y ∷ [])) z (member_before part y z rest)
    ]

pub member_other : (part : List ℕ) (y z : ℕ) → z ≢ y → Contains (part ++ (y ∷ [])) z → Contains part z
member_other [] y z ne c =
    elim (member_cases y [] z c) [
      | inl same ↦ absurd (ne (sym same))
      | inr rest ↦ absurd (none_in_nil z rest)
    ]
member_other (x ∷ part) y z ne c =
    elim (member_cases x (part ++ (y ∷ [])) z c) [
      | inl same ↦ subst (λ (w : ℕ). Contains (x ∷ part) w) same (here x part)
      | inr rest ↦ there x part z (member_other part y z ne rest)
    ]

-- one call more
pub up_more : (h : HierarchyValue) (q : Led) (done : List ℕ) (x y edge : ℕ) (part : List ℕ) (labels : List (Option ℕ)) (links : List (Option (ℕ × ℕ))) → IsUpPart h q done x part labels links
    → (Contains part y → ⊥) → x < y → y < h.network.nodes → y < length labels → (AreKept links → y < length links) → number_from 0 h.edges x y ≡ Some edge → edge < length h.edges
    → second_at labels x ≡ second_of (up_made h q x) → IfSecond (second_at labels x) (λ at. at < 2 ^ 61)
    → IsPassed h (sweep_of q) x
    → IsUpPart h q done x (part ++ (y ∷ [])) (seconds_after labels y (answer_in h (q.allows y) edge Up (second_at labels x)))
    (links_after labels links x edge y (answer_in h (q.allows y) edge Up (second_at labels x)))
up_more h q done x y edge part labels links f new lt within la li number there_ source time start z p =
    let answer = answer_in h (q.allows y) edge Up (second_at labels x) in
    elim (cases_eq z y) [
      | inr other ↦ (
        λ c. holds_other h q labels links x edge y z answer (made_up_after h q (done ++ (x ∷ [])) z) other ((f z p).0 (member_other part y z other c)),
        λ c. holds_other h q labels links x edge y z answer (made_up_after h q done z) other ((f z p).1 (λ k. c (member_before part y z k))),
      )
      | inl same ↦
          let passed : IsPassed h (sweep_of q) y = subst (IsPassed h (sweep_of q)) same p in
          let old : HoldsMade h q labels links y (made_up_after h q done y) = (f y passed).1 new in
          let from = up_made h q x in
          let xs : x < h.network.nodes = omega (arith, lt, within) in
          let whole = holds_after h q labels links x edge y (q.allows y) Up from (made_up_after h q done y) la li (final_up h q x xs) (along_up h.network.nodes x y within) there_
          (subst (λ (o : Option ℕ). IfSecond o (λ at. at < 2 ^ 61)) source time)
          (inl start) old in
          let back = subst (λ (o : Option ℕ). HoldsMade h q (seconds_after labels y (answer_in h (q.allows y) edge Up o)) (links_after labels links x edge y (answer_in h (q.allows y) edge Up o)) y
          (earlier_of (made_up_after h q done y) (made_over h (q.allows y) (Some edge) Up from))) (sym source) whole in
          let at_y = subst (HoldsMade h q (seconds_after labels y answer) (links_after labels links x edge y answer) y) (up_after_call h q done x y edge number) back in (
            λ c. subst (λ (w : ℕ). HoldsMade h q (seconds_after labels y answer) (links_after labels links x edge y answer) w (made_up_after h q (done ++ (x ∷ [])) w)) (sym same) at_y,
            λ c. absurd (c (subst (Contains (part ++ (y ∷ []))) (sym same) (member_last part y))),
          )
    ]

-- after all calls from a rank
pub up_done : (h : HierarchyValue) → IsHierarchy h → (q : Led) (done : List ℕ) (x : ℕ) (labels : List (Option ℕ)) (links : List (Option (ℕ × ℕ)))
    → IsUpPart h q done x (up_of h.edges x) labels links → IsUpSwept h q (done ++ (x ∷ [])) labels links
up_done h sound q done x labels links f y p =
    elim (some_cases (number_from 0 h.edges x y)) [
      | inr k ↦
          let (j, is, at) = number_found 0 h.edges x y k.0 k.1 in
          (f y p).0 (up_of_from_edge h.edges x y (member_at h.edges (record { low = x; high = y }) j at))
      | inl none ↦
          let missing : Contains (up_of h.edges x) y → ⊥ = λ c.
          let (j, at) = place_of h.edges (record { low = x; high = y }) (edge_from_up_of h.edges x y c) in
          let some : number_from 0 h.edges x y ≡ Some (0 + j) = number_at 0 h.edges j x y sound.graph.rising at in
          absurd (cc (none, some)) in
          subst (HoldsMade h q labels links y) (sym (up_after_none h q done x y none)) ((f y p).1 missing)
    ]
