-- Lists of which some are replaced: those of edges, two for each, by rising edge.
use Rattle.std.proofs.Common.{◌≡◌, ◌≢◌, ◌≤◌, ◌<◌, ◌+◌, ◌-◌, ◌*◌, ◌∙◌, ℕ, zero, suc, List, [], ◌∷◌, Some, length, take, drop, set, refl, ap, sym, subst, arith, inl, inr}
use Rattle.std.specs.Prelude.{All, slice_get, slice_range}
use Rattle.std.proofs.lemmas.Bool.{cases_lt}
use Rattle.std.proofs.lemmas.List.{length-drop, length-set}
use Rattle.std.proofs.lemmas.Option.{same_Some, slice_get_within}
use Rattle.cu_model.proofs.RoadLaws.{all_at}
use Rattle.cu_model.proofs.ListLaws.{get_here, get_other}
use Rattle.cu_interval.specs.declared.ways.Entry.{Entry}
use Rattle.cu_interval.specs.declared.ways.TouchedEdge.{TouchedEdge}
use Rattle.cu_interval.specs.Replacing.{replaced, replaced_by}
use Rattle.cu_interval.proofs.Replacing.{replaced_by_long, replaced_long}
use Rattle.cu_bounds.proofs.Renewed.{AreRising}

-- stretches with the same items are the same
take_same : {X : Type 0} (n : ℕ) (xs ys : List X) → length xs ≡ length ys → ((k : ℕ) → k < n → slice_get xs k ≡ slice_get ys k) → take n xs ≡ take n ys
take_same zero xs ys long same = refl
take_same (suc n) [] [] long same = refl
take_same (suc n) [] (y ∷ ys) long same = absurd (omega (arith, long))
take_same (suc n) (x ∷ xs) [] long same = absurd (omega (arith, long))
take_same {X} (suc n) (x ∷ xs) (y ∷ ys) long same =
    let first : Some x ≡ Some y = same 0 (omega arith) in
    let rest = take_same n xs ys (omega (arith, long)) (λ k lt. same (suc k) (omega (arith, lt))) in
    let one : x ≡ y = cc first in
    ap (λ (z : X). z ∷ take n xs) one ∙ ap (λ (zs : List X). y ∷ zs) rest

get_behind : {X : Type 0} (a k : ℕ) (xs : List X) → slice_get (drop a xs) k ≡ slice_get xs (a + k)
get_behind zero k xs = let same : k ≡ 0 + k = omega arith in ap (slice_get xs) same
get_behind (suc a) k [] = refl
get_behind (suc a) k (x ∷ xs) = let same : suc (a + k) ≡ suc a + k = omega arith in get_behind a k xs ∙ ap (slice_get (x ∷ xs)) same

pub stretch_same : {X : Type 0} (xs ys : List X) (a b : ℕ) → length xs ≡ length ys → ((k : ℕ) → a ≤ k → k < b → slice_get xs k ≡ slice_get ys k) → slice_range xs a b ≡ slice_range ys a b
stretch_same xs ys a b long same =
    let left_xs = length-drop a xs in
    let left_ys = length-drop a ys in
    take_same (b - a) (drop a xs) (drop a ys) (omega (arith, left_xs, left_ys, long)) (λ k lt. get_behind a k xs ∙ same (a + k) (omega arith) (omega (arith, lt)) ∙ sym (get_behind a k ys))

-- a number that is none of an edge's lists
abbrev pub IsApart : List TouchedEdge → ℕ → Type 0
IsApart touched k = (i : ℕ) (t : TouchedEdge) → slice_get touched i ≡ Some t → (k ≢ 2 * t.edge) × (k ≢ 2 * t.edge + 1)

-- the other lists stay
pub replaced_elsewhere : (lists : List (List Entry)) (touched : List TouchedEdge) (k : ℕ) → IsApart touched k → slice_get (replaced lists touched) k ≡ slice_get lists k
replaced_elsewhere lists [] k apart = refl
replaced_elsewhere lists (t ∷ touched) k apart =
    let here = apart 0 t refl in
    replaced_elsewhere (replaced_by lists t) touched k (λ i u there. apart (suc i) u there)
    ∙ get_other (set lists (2 * t.edge) t.up) (2 * t.edge + 1) k t.down (λ same. here.1 (sym same)) ∙ get_other lists (2 * t.edge) k t.up (λ same. here.0 (sym same))

-- both lists of an edge are its own
abbrev pub AreOwn : List (List Entry) → TouchedEdge → Type 0
AreOwn lists t = (slice_get lists (2 * t.edge) ≡ Some t.up) × (slice_get lists (2 * t.edge + 1) ≡ Some t.down)

own_first : (lists : List (List Entry)) (t : TouchedEdge) → 2 * t.edge + 1 < length lists → AreOwn (replaced_by lists t) t
own_first lists t inside =
    let set_up = set lists (2 * t.edge) t.up in
    let long = length-set lists (2 * t.edge) t.up in (
      get_other set_up (2 * t.edge + 1) (2 * t.edge) t.down (λ same. absurd (omega (arith, same))) ∙ get_here lists (2 * t.edge) t.up (omega (arith, inside)),
      get_here set_up (2 * t.edge + 1) t.down (omega (arith, inside, long)),
    )

own_kept : (lists : List (List Entry)) (touched : List TouchedEdge) (t : TouchedEdge)
    → ((i : ℕ) (u : TouchedEdge) → slice_get touched i ≡ Some u → t.edge < u.edge) → AreOwn lists t → AreOwn (replaced lists touched) t
own_kept lists touched t later own = (
  replaced_elsewhere lists touched (2 * t.edge) (λ i u there. let above = later i u there in ((λ same. absurd (omega (arith, same, above))), (λ same. absurd (omega (arith, same, above))))) ∙ own.0,
  replaced_elsewhere lists touched (2 * t.edge + 1)
      (λ i u there. let above = later i u there in ((λ same. absurd (omega (arith, same, above))), (λ same. absurd (omega (arith, same, above))))) ∙ own.1,
)

replaced_there : (lists : List (List Entry)) (touched : List TouchedEdge) (i : ℕ) (t : TouchedEdge) → AreRising touched → slice_get touched i ≡ Some t → 2 * t.edge + 1 < length lists
    → AreOwn (replaced lists touched) t
replaced_there lists [] i t rising there inside = absurd (cc there)
replaced_there lists (s ∷ touched) zero t rising there inside =
    let same : t ≡ s = same_Some t s (sym there) in
    let own = own_first lists t inside in
    let later : (j : ℕ) (u : TouchedEdge) → slice_get touched j ≡ Some u → t.edge < u.edge = λ j u at. rising 0 (suc j) t u (omega arith) there at in
    subst (λ (u : TouchedEdge). AreOwn (replaced (replaced_by lists u) touched) t) same (own_kept (replaced_by lists t) touched t later own)
replaced_there lists (s ∷ touched) (suc i) t rising there inside =
    replaced_there (replaced_by lists s) touched i t (λ j k u v less here at. rising (suc j) (suc k) u v (omega (arith, less)) here at) there (omega (arith, inside, replaced_by_long lists s))

-- so many edges are done, and so many lists, theirs and those before
pub record IsUpTo (touched : List TouchedEdge) (edges count next : ℕ) : Type 0 where
  pub inside : next ≤ 2 * edges
  pub done : (i : ℕ) (t : TouchedEdge) → i < count → slice_get touched i ≡ Some t → 2 * t.edge + 2 ≤ next
  pub left : (i : ℕ) (t : TouchedEdge) → count ≤ i → slice_get touched i ≡ Some t → next ≤ 2 * t.edge

pub up_to_none : (touched : List TouchedEdge) (edges : ℕ) → IsUpTo touched edges 0 0
up_to_none touched edges = record {
  inside = omega arith;
  done = λ i t less there. absurd (omega (arith, less));
  left = λ i t more there. omega arith;
}

module _ (lists : List (List Entry)) (touched : List TouchedEdge) (edges : ℕ) (long : length lists ≡ 2 * edges) (rising : AreRising touched)
    (below : All (λ (t : TouchedEdge). t.edge < edges) touched) where
  pub edge_inside : (i : ℕ) (t : TouchedEdge) → slice_get touched i ≡ Some t → t.edge < edges
  edge_inside i t there = all_at (λ (u : TouchedEdge). u.edge < edges) touched i t below there

  -- an edge's own lists
  pub own_there : (i : ℕ) (t : TouchedEdge) → slice_get touched i ≡ Some t → AreOwn (replaced lists touched) t
  own_there i t there = let inside = edge_inside i t there in replaced_there lists touched i t rising there (omega (arith, inside, long))

  module _ (count next : ℕ) (up_to : IsUpTo touched edges count next) where
    -- with the next edge too
    pub up_to_more : (t : TouchedEdge) → slice_get touched count ≡ Some t → IsUpTo touched edges (count + 1) (2 * t.edge + 2)
    up_to_more t there = record {
      inside = let inside = edge_inside count t there in omega (arith, inside);
      done = λ i u less at. elim (cases_lt i count) [
        | inl early ↦ let before = rising i count u t early at there in omega (arith, before)
        | inr late ↦
            let same : i ≡ count = omega (arith, less, late) in
            let is : u ≡ t = same_Some u t (sym at ∙ ap (slice_get touched) same ∙ there) in
            let edge = ap (λ (w : TouchedEdge). w.edge) is in
            omega (arith, edge)
      ];
      left = λ i u more at. let after = rising count i t u (omega (arith, more)) there at in omega (arith, after);
    }

    -- the lists up to the next edge stay
    pub gap_before : (t : TouchedEdge) (end : ℕ) → slice_get touched count ≡ Some t → end ≤ 2 * t.edge → slice_range (replaced lists touched) next end ≡ slice_range lists next end
    gap_before t end there most =
        stretch_same (replaced lists touched) lists next end (replaced_long lists touched) (λ k low high. replaced_elsewhere lists touched k (λ i u at.
        elim (cases_lt i count) [
          | inl early ↦ let before = up_to.done i u early at in ((λ same. absurd (omega (arith, same, before, low))), (λ same. absurd (omega (arith, same, before, low))))
          | inr late ↦
              elim (cases_lt count i) [
                | inl after ↦ let above = rising count i t u after there at in ((λ same. absurd (omega (arith, same, above, high, most))), (λ same. absurd (omega (arith, same, above, high, most))))
                | inr low_index ↦
                    let same_index : i ≡ count = omega (arith, low_index, late) in
                    let is : u ≡ t = same_Some u t (sym at ∙ ap (slice_get touched) same_index ∙ there) in
                    let edge = ap (λ (w : TouchedEdge). w.edge) is in
                    ((λ same. absurd (omega (arith, same, edge, high, most))), (λ same. absurd (omega (arith, same, edge, high, most))))
              ]
        ]))

    -- the lists behind the last edge stay
    pub gap_last : (end : ℕ) → length touched ≤ count → slice_range (replaced lists touched) next end ≡ slice_range lists next end
    gap_last end all =
        stretch_same (replaced lists touched) lists next end (replaced_long lists touched) (λ k low high. replaced_elsewhere lists touched k (λ i u at.
        let within = slice_get_within touched i u at in
        let before = up_to.done i u (omega (arith, within, all)) at in ((λ same. absurd (omega (arith, same, before, low))), (λ same. absurd (omega (arith, same, before, low))))))
