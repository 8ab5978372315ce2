-- What lies between the sides of a split: each road that leaves a side leads to a node further back in the order.
use Rattle.std.proofs.Common.{◌≡◌, ℕ, zero, suc, List, [], ◌++◌, Bool, true, not, cond, eqb, ◌&&◌, Some, length, get_or, sym, ◌∙◌, ap, subst, arith, append_assoc, append-nil, ◌<◌, inl, inr, ◌⊎◌}
use Rattle.std.specs.Prelude.{nat_le, slice_get}
use Rattle.std.specs.List.{Contains, range_with_len}
use Rattle.std.specs.List.Sorted.{IsPermutation}
use Rattle.std.proofs.lemmas.Bool.{and_from, cases_Bool, eq-eqb, or_left, or_right}
use Rattle.std.proofs.lemmas.List.Elements.{All-contains, Contains-append_left, Contains-append_right, Contains-append_cases}
use Rattle.std.proofs.lemmas.List.Folds.{list_any_at}
use Rattle.std.proofs.lemmas.List.FromFn.{get_or-range_with_len, length-range_with_len}
use Rattle.std.proofs.lemmas.List.Sorted.{Contains-permutation}
use Rattle.std.proofs.lemmas.Option.{get_or_from_slice_get, slice_get_within}
use Rattle.cu_chordal.proofs.Members.{member_at, member_cases, none_in_nil}
use Rattle.cu_model.specs.declared.roads.RoadArc.{RoadArc}
use Rattle.cu_model.specs.Networks.{IsArcInRange, IsNetwork, NetworkValue}
use Rattle.cu_model.specs.Roads.{Links}
use Rattle.cu_roads.specs.declared.places.Place.{Place}
use Rattle.cu_dissect.specs.Apart.{IsApart}
use Rattle.cu_dissect.specs.Dissection.{Dissected, SplitValue, around, dissected, dissected_by, has, is_left, joins, left_of, rest_of, right_of, separator_of, split_of, touches, unsplit}
use Rattle.cu_dissect.proofs.Kept.{is_kept, kept_member, kept_passes}
use Rattle.cu_dissect.proofs.Permuting.{dissected_permutes}

-- a road joins two nodes, in either direction
abbrev pub AreLinked : NetworkValue → ℕ → ℕ → Type 0
AreLinked g u v = (arc : ℕ) × (Links g arc u v ⊎ Links g arc v u)

-- roads from or to these nodes lead to one of them or to one further back
abbrev pub LeadsBack : NetworkValue → List ℕ → List ℕ → Type 0
LeadsBack g nodes back = (u v : ℕ) → Contains nodes u → AreLinked g u v → Contains nodes v ⊎ Contains back v

-- the order is the front and then the back; both sides are in the front, and roads that leave a side lead to the back
pub record IsBarred (g : NetworkValue) (order : List ℕ) (split : SplitValue) : Type 0 where
  pub front : List ℕ
  pub back : List ℕ
  pub whole : order ≡ front ++ back
  pub left_in : (v : ℕ) → Contains split.left v → Contains front v
  pub right_in : (v : ℕ) → Contains split.right v → Contains front v
  pub left_out : LeadsBack g split.left back
  pub right_out : LeadsBack g split.right back
  pub disjoint : (v : ℕ) → Contains split.left v → Contains split.right v → ⊥
  pub apart : IsApart g split

has_member : (nodes : List ℕ) (v : ℕ) → Contains nodes v → has nodes v ≡ true
has_member nodes v c = list_any_at (λ other. eqb other v) nodes c.0 v c.1 (eq-eqb (get_or nodes c.0 v) v c.2)

joined_here : (g : NetworkValue) (nodes : List ℕ) (v arc : ℕ) (road : RoadArc) → slice_get g.arcs arc ≡ Some road → joins nodes v road ≡ true → touches g nodes v ≡ true
joined_here g nodes v arc road at joined =
    list_any_at (joins nodes v) g.arcs arc road (slice_get_within g.arcs arc road at) (ap (joins nodes v) (get_or_from_slice_get g.arcs arc road road at) ∙ joined)

touched : (g : NetworkValue) (nodes : List ℕ) (u v : ℕ) → Contains nodes u → AreLinked g u v → touches g nodes v ≡ true
touched g nodes u v c (arc, inl road) =
    joined_here g nodes v arc road.0 road.1
    (or_right (eqb road.0.tail v && has nodes road.0.head) (eqb road.0.head v && has nodes road.0.tail)
    (and_from (eqb road.0.head v) (has nodes road.0.tail) (eq-eqb road.0.head v road.3) (subst (λ (k : ℕ). has nodes k ≡ true) (sym road.2) (has_member nodes u c))))
touched g nodes u v c (arc, inr road) =
    joined_here g nodes v arc road.0 road.1
    (or_left (eqb road.0.tail v && has nodes road.0.head) (eqb road.0.head v && has nodes road.0.tail)
    (and_from (eqb road.0.tail v) (has nodes road.0.head) (eq-eqb road.0.tail v road.2) (subst (λ (k : ℕ). has nodes k ≡ true) (sym road.3) (has_member nodes u c))))

linked_back : (g : NetworkValue) (u v : ℕ) → AreLinked g u v → AreLinked g v u
linked_back g u v (arc, inl road) = (arc, inr road)
linked_back g u v (arc, inr road) = (arc, inl road)

module _ (g : NetworkValue) (places : List Place) (part : List ℕ) where
  -- a node of the part is on the left, on the right or in the separator
  sides : (v : ℕ) → Contains part v → Contains (left_of places part) v ⊎ (Contains (right_of g places part) v ⊎ Contains (separator_of g places part) v)
  sides v c =
      let left : List ℕ = left_of places part in
      elim (cases_Bool (is_left places part v)) [
        | inl first ↦ inl (is_kept (is_left places part) part v c first)
        | inr other ↦
            let rest : Contains (rest_of places part) v = is_kept (λ node. not (is_left places part node)) part v c (ap not other) in
            elim (cases_Bool (touches g left v)) [
              | inl beside ↦ inr (inr (is_kept (touches g left) (rest_of places part) v rest beside))
              | inr off ↦ inr (inl (is_kept (λ node. not (touches g left node)) (rest_of places part) v rest (ap not off)))
            ]
      ]

  right_in_rest : (v : ℕ) → Contains (right_of g places part) v → Contains (rest_of places part) v
  right_in_rest v c = kept_member (λ node. not (touches g (left_of places part) node)) (rest_of places part) v c

  right_in_part : (v : ℕ) → Contains (right_of g places part) v → Contains part v
  right_in_part v c = kept_member (λ node. not (is_left places part node)) part v (right_in_rest v c)

  -- a node on the right has no road to or from the left
  pub right_untouched : (u v : ℕ) → Contains (left_of places part) u → Contains (right_of g places part) v → AreLinked g u v → ⊥
  right_untouched u v c d linked =
      let beside : touches g (left_of places part) v ≡ true = touched g (left_of places part) u v c linked in
      let off : not (touches g (left_of places part) v) ≡ true = kept_passes (λ node. not (touches g (left_of places part) node)) (rest_of places part) v d in
      let clash : not true ≡ true = subst (λ (b : Bool). not b ≡ true) beside off in
      cc (clash)

  left_not_right : (v : ℕ) → Contains (left_of places part) v → Contains (right_of g places part) v → ⊥
  left_not_right v c d =
      let first : is_left places part v ≡ true = kept_passes (is_left places part) part v c in
      let other : not (is_left places part v) ≡ true = kept_passes (λ node. not (is_left places part node)) part v (right_in_rest v d) in
      let clash : not true ≡ true = subst (λ (b : Bool). not b ≡ true) first other in
      cc (clash)

  -- roads that leave the left lead to the separator, or as those that leave the part
  left_leads : (back between : List ℕ) → LeadsBack g part back → LeadsBack g (left_of places part) (between ++ (separator_of g places part ++ back))
  left_leads back between f u v c linked =
      let separator : List ℕ = separator_of g places part in
      elim (f u v (kept_member (is_left places part) part u c) linked) [
        | inl within ↦ elim (sides v within) [
          | inl same ↦ inl same
          | inr other ↦ elim other [
            | inl right ↦ absurd (right_untouched u v c right linked)
            | inr bar ↦ inr (Contains-append_right between (separator ++ back) v (Contains-append_left separator back v bar))
          ]
        ]
        | inr outside ↦ inr (Contains-append_right between (separator ++ back) v (Contains-append_right separator back v outside))
      ]

  right_leads : (back : List ℕ) → LeadsBack g part back → LeadsBack g (right_of g places part) (separator_of g places part ++ back)
  right_leads back f u v c linked =
      let separator : List ℕ = separator_of g places part in
      elim (f u v (right_in_part u c) linked) [
        | inl within ↦ elim (sides v within) [
          | inl left ↦ absurd (right_untouched v u left c (linked_back g u v linked))
          | inr other ↦ elim other [
            | inl same ↦ inl same
            | inr bar ↦ inr (Contains-append_left separator back v bar)
          ]
        ]
        | inr outside ↦ inr (Contains-append_right separator back v outside)
      ]

  -- the split of a part, where the order is the part's with this before and behind it
  split_barred : (order before left right back : List ℕ) → LeadsBack g part back → order ≡ ((before ++ left) ++ right) ++ (separator_of g places part ++ back)
      → IsPermutation (left_of places part) left → IsPermutation (right_of g places part) right → IsBarred g order (split_of g places part)
  split_barred order before left right back f whole left_moved right_moved = record {
    front = (before ++ left) ++ right;
    back = separator_of g places part ++ back;
    whole = whole;
    left_in = λ v c. Contains-append_left (before ++ left) right v (Contains-append_right before left v (Contains-permutation (left_of places part) left v left_moved c));
    right_in = λ v c. Contains-append_right (before ++ left) right v (Contains-permutation (right_of g places part) right v right_moved c);
    left_out = left_leads back [] f;
    right_out = right_leads back f;
    disjoint = left_not_right;
    apart = λ arc u v c d linked. right_untouched u v c d (arc, linked);
  }

cut_left : (before left right separator back : List ℕ) → (before ++ ((left ++ right) ++ separator)) ++ back ≡ (before ++ left) ++ (right ++ (separator ++ back))
cut_left before left right separator back = simp append_assoc

cut_right : (before left right separator back : List ℕ) → (before ++ ((left ++ right) ++ separator)) ++ back ≡ ((before ++ left) ++ right) ++ (separator ++ back)
cut_right before left right separator back = simp append_assoc

pub all_barred : (g : NetworkValue) (places : List Place) (fuel : ℕ) (part order before back : List ℕ) → LeadsBack g part back → order ≡ (before ++ (dissected_by g places fuel part).order) ++ back
    → (split : SplitValue) → Contains (dissected_by g places fuel part).splits split → IsBarred g order split
all_barred g places zero part order before back f whole split c = absurd (none_in_nil split c)
all_barred g places (suc fuel) part order before back f whole split c =
    let small : Dissected = unsplit part in
    let left : Dissected = dissected_by g places fuel (left_of places part) in
    let right : Dissected = dissected_by g places fuel (right_of g places part) in
    let separator : List ℕ = separator_of g places part in
    let large : Dissected = around (split_of g places part) left right in
    elim (cases_Bool (nat_le (length part) 8)) [
      | inl few ↦ absurd (none_in_nil split (subst (λ (b : Bool). Contains (cond b small large).splits split) few c))
      | inr many ↦
          let here : order ≡ (before ++ ((left.order ++ right.order) ++ separator)) ++ back = subst (λ (b : Bool). order ≡ (before ++ (cond b small large).order) ++ back) many whole in
          let at_left : order ≡ (before ++ left.order) ++ (right.order ++ (separator ++ back)) = here ∙ cut_left before left.order right.order separator back in
          let at_right : order ≡ ((before ++ left.order) ++ right.order) ++ (separator ++ back) = here ∙ cut_right before left.order right.order separator back in
          elim (member_cases (split_of g places part) (left.splits ++ right.splits) split (subst (λ (b : Bool). Contains (cond b small large).splits split) many c)) [
            | inl same ↦ subst (IsBarred g order) same (split_barred g places part order before left.order right.order back f at_right
                (dissected_permutes g places fuel (left_of places part)) (dissected_permutes g places fuel (right_of g places part)))
            | inr inner ↦ elim (Contains-append_cases left.splits right.splits split inner) [
              | inl first ↦ all_barred g places fuel (left_of places part) order before (right.order ++ (separator ++ back)) (left_leads g places part back right.order f) at_left split first
              | inr second ↦ all_barred g places fuel (right_of g places part) order (before ++ left.order) (separator ++ back) (right_leads g places part back f) at_right split second
            ]
          ]
    ]

in_range : (n v : ℕ) → v < n → Contains (range_with_len 0 n) v
in_range n v below = let long = length-range_with_len 0 n in (v, omega (arith, below, long), get_or-range_with_len 0 n v v below ∙ omega arith)

road_range : (g : NetworkValue) → IsNetwork g → (arc : ℕ) (road : RoadArc) → slice_get g.arcs arc ≡ Some road → IsArcInRange g road
road_range g f arc road at = All-contains (IsArcInRange g) g.arcs road f.in_range (member_at g.arcs road arc at)

whole_leads : (g : NetworkValue) → IsNetwork g → LeadsBack g (range_with_len 0 g.nodes) []
whole_leads g f u v c (arc, inl road) = inl (in_range g.nodes v (subst (λ k. k < g.nodes) road.3 (road_range g f arc road.0 road.1).1))
whole_leads g f u v c (arc, inr road) = inl (in_range g.nodes v (subst (λ k. k < g.nodes) road.2 (road_range g f arc road.0 road.1).0))

-- each split of a network
pub splits_barred : (g : NetworkValue) (places : List Place) → IsNetwork g → (split : SplitValue) → Contains (dissected g places).splits split → IsBarred g (dissected g places).order split
splits_barred g places f split c =
    let order : List ℕ = (dissected g places).order in
    all_barred g places g.nodes (range_with_len 0 g.nodes) order [] [] (whole_leads g f) (sym (append-nil order)) split c
