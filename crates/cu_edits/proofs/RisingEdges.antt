-- Touched edges by rising number: each comes behind the touched edges of its lower triangles.
use Rattle.std.proofs.Common.{◌≡◌, ◌<◌, ◌+◌, ◌∙◌, ℕ, suc, List, [], ◌∷◌, ◌++◌, Some, length, refl, subst, ap, arith, inl, inr}
use Rattle.std.specs.Prelude.{slice_get, slice_index}
use Rattle.std.specs.List.{Contains}
use Rattle.std.specs.List.Sorted.{IsStrictlyIncreasing}
use Rattle.cu_chordal.proofs.Decided.{member_decided}
use Rattle.cu_chordal.proofs.Members.{here, member_cases, none_in_nil, there}
use Rattle.cu_interval.specs.Hierarchies.{HierarchyValue, IsHierarchy}
use Rattle.cu_interval.proofs.EndsLaws.{number_below}
use Rattle.cu_edits.specs.Settling.{IsLowerSide, SettlingValue, numbers_of}
use Rattle.cu_edits.specs.Steps.Holding.{IsNext}
use Rattle.cu_resettled.specs.ResettlingAll.{NumbersTouchedBySome}

-- behind the first of rising numbers they still rise
pub tail_increasing : (x : ℕ) (xs : List ℕ) → IsStrictlyIncreasing (x ∷ xs) → IsStrictlyIncreasing xs
tail_increasing x xs rising = λ k lt.
    let e : suc k + 1 ≡ suc (k + 1) = omega arith in
    subst (λ (i : ℕ). slice_index (x ∷ xs) (suc k) < slice_index (x ∷ xs) i) e (rising (suc k) (omega (arith, lt)))

-- the first of them is less than all others
pub head_less : (x : ℕ) (xs : List ℕ) (y : ℕ) → IsStrictlyIncreasing (x ∷ xs) → Contains xs y → x < y
head_less x [] y rising c = absurd (none_in_nil y c)
head_less x (z ∷ xs) y rising c =
    let first : x < z = rising 0 (omega arith) in
    elim (member_cases z xs y c) [
      | inl same ↦ omega (arith, first, same)
      | inr rest ↦ let h = head_less z xs y (tail_increasing x (z ∷ xs) rising) rest in omega (arith, first, h)
    ]

-- what is less than one of rising numbers stands before it
pub low_in_front : (front : List ℕ) (edge : ℕ) (more : List ℕ) (side : ℕ) → IsStrictlyIncreasing (front ++ (edge ∷ more)) → Contains (front ++ (edge ∷ more)) side → side < edge → Contains front side
low_in_front [] edge more side rising c lt =
    elim (member_cases edge more side c) [
      | inl same ↦ absurd (omega (arith, same, lt))
      | inr rest ↦ absurd (let h = head_less edge more side rising rest in omega (arith, h, lt))
    ]
low_in_front (x ∷ front) edge more side rising c lt =
    elim (member_cases x (front ++ (edge ∷ more)) side c) [
      | inl same ↦ subst (Contains (x ∷ front)) same (here x front)
      | inr rest ↦ there x front side (low_in_front front edge more side (tail_increasing x (front ++ (edge ∷ more)) rising) rest lt)
    ]

among : (front : List ℕ) (edge : ℕ) (more : List ℕ) → Contains (front ++ (edge ∷ more)) edge
among [] edge more = here edge more
among (x ∷ front) edge more = there x (front ++ (edge ∷ more)) edge (among front edge more)

pub fresh_behind : (front : List ℕ) (edge : ℕ) (more : List ℕ) → IsStrictlyIncreasing (front ++ (edge ∷ more)) → Contains front edge → ⊥
fresh_behind [] edge more rising c = none_in_nil edge c
fresh_behind (x ∷ front) edge more rising c =
    elim (member_cases x front edge c) [
      | inl same ↦ absurd (let h = head_less x (front ++ (edge ∷ more)) edge rising (among front edge more) in omega (arith, same, h))
      | inr rest ↦ fresh_behind front edge more (tail_increasing x (front ++ (edge ∷ more)) rising) rest
    ]

-- a lower side of a lower triangle has a lower number
side_lower : (h : HierarchyValue) → IsHierarchy h → (edge side : ℕ) → IsLowerSide h.edges edge side → side < edge
side_lower h sound edge side (ends, rank, at, low, high, which) =
    let less = ((sound.edges.exact rank ends.low).0 low).0 in
    elim which [
      | inl one ↦ number_below h.edges sound.edges.sorted side edge (record { low = rank; high = ends.low }) ends one at less
      | inr one ↦ number_below h.edges sound.edges.sorted side edge (record { low = rank; high = ends.high }) ends one at less
    ]

-- where edges that an edit touches were settled by rising number, the next of them may be settled
pub next_of_rising : (s : SettlingValue) → IsHierarchy s.before → (edge : ℕ) (more : List ℕ) → NumbersTouchedBySome s.before s.edit (numbers_of s.settled ++ (edge ∷ more)) → IsNext s edge
next_of_rising s sound edge more touched =
    let front = numbers_of s.settled in
    record {
      touched = (touched.exact edge).0 (among front edge more);
      fresh = λ c. fresh_behind front edge more touched.rising c;
      sides = λ side lower. elim (member_decided front side) [
        | inl c ↦ inl c
        | inr n ↦ inr (λ is. n (low_in_front front edge more side touched.rising ((touched.exact side).1 is) (side_lower s.before sound edge side lower)))
      ];
    }

-- what stands behind the first of a list at its length is the next of the whole
pub split_at : (front rest : List ℕ) (edge : ℕ) → slice_get (front ++ rest) (length front) ≡ Some edge → (more : List ℕ) × (rest ≡ edge ∷ more)
split_at [] [] edge at = absurd (cc at)
split_at [] (x ∷ rest) edge at = (rest, (let e : x ≡ edge = cc at in ap (λ (y : ℕ). y ∷ rest) e))
split_at (x ∷ front) rest edge at = split_at front rest edge at

-- and a front as long as the whole is the whole
pub whole_front : (xs ys all : List ℕ) → xs ++ ys ≡ all → length xs ≡ length all → xs ≡ all
whole_front xs ys all parts same =
    let long = ap (λ (zs : List ℕ). length zs) parts in
    same_front xs ys (omega (arith, long, same)) ∙ parts
  where
    same_front : (xs ys : List ℕ) → length (xs ++ ys) ≡ length xs → xs ≡ xs ++ ys
    same_front [] [] same = refl
    same_front [] (y ∷ ys) same = absurd (omega (arith, same))
    same_front (x ∷ xs) ys same = ap (λ (zs : List ℕ). x ∷ zs) (same_front xs ys (omega (arith, same)))
