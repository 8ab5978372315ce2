-- The places of the ways of a list among its candidates.
use Rattle.std.proofs.Common.{◌≡◌, ◌≤◌, ◌<◌, ◌+◌, ◌-◌, ◌∙◌, ◌++◌, ℕ, zero, suc, List, [], ◌∷◌, Some, refl, ap, subst, arith, inl, inr, length, get_or, map}
use Rattle.std.specs.Prelude.{slice_get}
use Rattle.std.specs.List.Sorted.{IsStrictlyIncreasing}
use Rattle.std.proofs.lemmas.Bool.{cases_eq, cases_lt}
use Rattle.std.proofs.Math.ListN.{get_or-map as get_or_mapped}
use Rattle.std.proofs.lemmas.List.{get_or-append_right, length-map}
use Rattle.std.proofs.lemmas.List.Kept.{AllPairs-from_increasing}
use Rattle.std.proofs.lemmas.Option.{get_or_from_slice_get, slice_get-get_or, slice_get_within}
use Rattle.cu_interval.specs.declared.ways.Way.{Way}
use Rattle.cu_interval.specs.declared.ways.Way.TheVariants.{Road, Via}
use Rattle.cu_interval.specs.WayLists.{GoesFirst}
use Rattle.cu_customize.specs.declared.triangles.Triangle.{Triangle}
use Rattle.cu_customize.specs.Triangles.{middles_in}

-- the place of a road is its place among the roads
road_place : (xs ys : List ℕ) (i a : ℕ) → slice_get (map Road xs ++ map Via ys) i ≡ Some (Road a) → slice_get xs i ≡ Some a
road_place [] [] i a e = absurd (cc e)
road_place [] (y ∷ ys) zero a e = absurd (cc e)
road_place [] (y ∷ ys) (suc i) a e = absurd (let none = road_place [] ys i a e in cc none)
road_place (x ∷ xs) ys zero a e = let same : x ≡ a = cc e in ap Some same
road_place (x ∷ xs) ys (suc i) a e = road_place xs ys i a e

-- the ways behind the roads are those by the middles of triangles
pub way_middle : (arcs : List ℕ) (triangles : List Triangle) (number : ℕ) (none : Triangle) → length arcs ≤ number → number < length (map Road arcs ++ map Via (middles_in triangles))
    → slice_get (map Road arcs ++ map Via (middles_in triangles)) number ≡ Some (Via (get_or triangles (number - length arcs) none).middle)
way_middle arcs triangles number none behind inside =
    slice_get-get_or (map Road arcs ++ map Via (middles_in triangles)) number (Via none.middle) inside
    ∙ ap Some
    (get_or-append_right (map Road arcs) (map Via (middles_in triangles)) (length arcs) number (Via none.middle) (length-map arcs Road) behind
    ∙ get_or_mapped Via (middles_in triangles) (number - length arcs) none.middle
    ∙ ap Via (get_or_mapped (λ (t : Triangle). t.middle) triangles (number - length arcs) none))

-- and that of a middle is behind them
via_place : (xs ys : List ℕ) (i m : ℕ) → slice_get (map Road xs ++ map Via ys) i ≡ Some (Via m) → (k : ℕ) × (i ≡ length xs + k) × (slice_get ys k ≡ Some m)
via_place [] [] i m e = absurd (cc e)
via_place [] (y ∷ ys) zero m e = (0, refl, let same : y ≡ m = cc e in ap Some same)
via_place [] (y ∷ ys) (suc i) m e = let (k, is, there) = via_place [] ys i m e in (suc k, omega (arith, is), there)
via_place (x ∷ xs) ys zero m e = absurd (cc e)
via_place (x ∷ xs) ys (suc i) m e = let (k, is, there) = via_place xs ys i m e in (k, omega (arith, is), there)

pub road_at_place : (xs ys : List ℕ) (i a : ℕ) → slice_get xs i ≡ Some a → slice_get (map Road xs ++ map Via ys) i ≡ Some (Road a)
road_at_place [] ys i a e = absurd (cc e)
road_at_place (x ∷ xs) ys zero a e = let same : x ≡ a = cc e in ap (λ (y : ℕ). Some (Road y)) same
road_at_place (x ∷ xs) ys (suc i) a e = road_at_place xs ys i a e

via_alone : (ys : List ℕ) (k m : ℕ) → slice_get ys k ≡ Some m → slice_get (map Via ys) k ≡ Some (Via m)
via_alone [] k m e = absurd (cc e)
via_alone (y ∷ ys) zero m e = let same : y ≡ m = cc e in ap (λ (x : ℕ). Some (Via x)) same
via_alone (y ∷ ys) (suc k) m e = via_alone ys k m e

pub via_at_place : (xs ys : List ℕ) (i k m : ℕ) → i ≡ length xs + k → slice_get ys k ≡ Some m → slice_get (map Road xs ++ map Via ys) i ≡ Some (Via m)
via_at_place [] ys i k m is e = let same : k ≡ i = omega (arith, is) in subst (λ (n : ℕ). slice_get (map Via ys) n ≡ Some (Via m)) same (via_alone ys k m e)
via_at_place (x ∷ xs) ys zero k m is e = absurd (omega (arith, is))
via_at_place (x ∷ xs) ys (suc i) k m is e = via_at_place xs ys i k m (omega (arith, is)) e

-- a number stands at one place of a list that rises
one_place : (xs : List ℕ) (i j a : ℕ) → IsStrictlyIncreasing xs → slice_get xs i ≡ Some a → slice_get xs j ≡ Some a → i ≡ j
one_place xs i j a rising at there =
    let here = get_or_from_slice_get xs i a a at in
    let other = get_or_from_slice_get xs j a a there in
    elim (cases_lt i j) [
      | inl less ↦ let below = AllPairs-from_increasing xs rising i j a less (slice_get_within xs j a there) in absurd (omega (arith, here, other, below))
      | inr more ↦ elim (cases_eq i j) [
        | inl same ↦ same
        | inr apart ↦ let below = AllPairs-from_increasing xs rising j i a (omega (arith, more, apart)) (slice_get_within xs i a at) in absurd (omega (arith, here, other, below))
      ]
    ]

-- so does a way of the candidates
pub way_place : (xs ys : List ℕ) (i j : ℕ) (w : Way) → IsStrictlyIncreasing xs → IsStrictlyIncreasing ys → slice_get (map Road xs ++ map Via ys) i ≡ Some w
    → slice_get (map Road xs ++ map Via ys) j ≡ Some w → i ≡ j
way_place xs ys i j (Road a) roads middles at there = one_place xs i j a roads (road_place xs ys i a at) (road_place xs ys j a there)
way_place xs ys i j (Via m) roads middles at there =
    let (k, is, one) = via_place xs ys i m at in
    let (l, other, two) = via_place xs ys j m there in
    let same = one_place ys k l m middles one two in
    omega (arith, is, other, same)

-- a number in a list that rises is below those behind it
place_below : (xs : List ℕ) (i j a b : ℕ) → IsStrictlyIncreasing xs → slice_get xs i ≡ Some a → slice_get xs j ≡ Some b → i < j → a < b
place_below xs i j a b rising at there less =
    let here = get_or_from_slice_get xs i a a at in
    let other = get_or_from_slice_get xs j b a there in
    let below = AllPairs-from_increasing xs rising i j a less (slice_get_within xs j b there) in
    omega (arith, here, other, below)

-- a candidate goes first of one with a higher number
pub goes_by_place : (xs ys : List ℕ) (i j : ℕ) (v w : Way) → IsStrictlyIncreasing xs → IsStrictlyIncreasing ys → slice_get (map Road xs ++ map Via ys) i ≡ Some v
    → slice_get (map Road xs ++ map Via ys) j ≡ Some w → i < j → GoesFirst v w
goes_by_place xs ys i j (Road a) (Road b) roads middles at there less = place_below xs i j a b roads (road_place xs ys i a at) (road_place xs ys j b there) less
goes_by_place xs ys i j (Road a) (Via m) roads middles at there less = tt
goes_by_place xs ys i j (Via m) (Road b) roads middles at there less =
    let (k, is, here) = via_place xs ys i m at in
    let inside = slice_get_within xs j b (road_place xs ys j b there) in
    absurd (omega (arith, is, inside, less))
goes_by_place xs ys i j (Via m) (Via n) roads middles at there less =
    let (k, is, one) = via_place xs ys i m at in
    let (l, other, two) = via_place xs ys j n there in
    place_below ys k l m n middles one two (omega (arith, is, other, less))

-- and of all that that one goes first of
pub goes_before : (a b c : Way) → GoesFirst a b → GoesFirst b c → GoesFirst a c
goes_before (Road a) (Road b) (Road c) one two = omega (arith, one, two)
goes_before (Road a) (Via b) (Road c) one two = absurd two
goes_before (Road a) b (Via c) one two = tt
goes_before (Via a) (Road b) c one two = absurd one
goes_before (Via a) (Via b) (Road c) one two = absurd two
goes_before (Via a) (Via b) (Via c) one two = omega (arith, one, two)

-- the number of the middle of a triangle is its place behind the roads
pub middle_place : (arcs : List ℕ) (triangles : List Triangle) (number i : ℕ) (none : Triangle) → i < length triangles → number ≡ length arcs + i
    → slice_get (map Road arcs ++ map Via (middles_in triangles)) number ≡ Some (Via (get_or triangles i none).middle)
middle_place arcs triangles number i none inside is =
    let size = length-map triangles (λ (t : Triangle). t.middle) in
    via_at_place arcs (middles_in triangles) number i (get_or triangles i none).middle is
    (slice_get-get_or (middles_in triangles) i none.middle (omega (arith, inside, size)) ∙ ap Some (get_or_mapped (λ (t : Triangle). t.middle) triangles i none))
