-- Which ranks the roads link.
use Rattle.std.proofs.Common.{◌≡◌, ◌≤◌, ◌<◌, ◌+◌, ℕ, zero, suc, List, [], ◌∷◌, ◌++◌, Some, length, get_or, min, max, refl, sym, ◌∙◌, ap, subst, arith, inl, inr}
use Rattle.std.specs.Prelude.{All, slice_get, cond}
use Rattle.std.specs.List.{Contains}
use Rattle.std.proofs.lemmas.Bool.{cases_eq, cases_lt, eq-eqb}
use Rattle.std.proofs.lemmas.Bool.Decides.{eqb_tells}
use Rattle.std.proofs.lemmas.List.{get_or_push, get_or_append_left, length_push, get_or_default}
use Rattle.std.proofs.lemmas.Option.{slice_get_within, same_Some}
use Rattle.cu_model.specs.declared.roads.RoadArc.{RoadArc}
use Rattle.cu_model.specs.Networks.{NetworkValue}
use Rattle.cu_model.specs.Orders.{OrderValue, IsOrder}
use Rattle.cu_model.proofs.OptionLaws.{same_value}
use Rattle.cu_chordal.specs.Edges.{LinksRanks, Adjacent}
use Rattle.cu_chordal.specs.Groups.{AreGroups, group_of}
use Rattle.cu_chordal.specs.Steps.Links.{AreLinks, AreRankEnds, HoldsLinks}
use Rattle.cu_chordal.proofs.Members.{all_from_members, here, there, member_cases, none_in_nil}

-- the members of a group are the values with its key
pub group_member : (keys values : List ℕ) (key y : ℕ) → Contains (group_of keys values key) y → (i : ℕ) × (i < length keys) × (i < length values) × (get_or keys i 0 ≡ key) × (get_or values i 0 ≡ y)
group_member [] values key y c = absurd (none_in_nil y c)
group_member (k ∷ keys) [] key y c = absurd (none_in_nil y c)
group_member (k ∷ keys) (v ∷ values) key y c =
    elim (eqb_tells k key) [
      | inl at ↦
          elim (member_cases v (group_of keys values key) y (subst (λ b. Contains (cond b (v ∷ group_of keys values key) (group_of keys values key)) y) at.0 c)) [
            | inl same ↦ (zero, omega arith, omega arith, at.1, same)
            | inr rest ↦ let m = group_member keys values key y rest in (suc m.0, omega (arith, m.1), omega (arith, m.2), m.3, m.4)
          ]
      | inr off ↦
          let m = group_member keys values key y (subst (λ b. Contains (cond b (v ∷ group_of keys values key) (group_of keys values key)) y) off.0 c) in
          (suc m.0, omega (arith, m.1), omega (arith, m.2), m.3, m.4)
    ]

pub in_group : (keys values : List ℕ) (key y i : ℕ) → i < length keys → i < length values → get_or keys i 0 ≡ key → get_or values i 0 ≡ y → Contains (group_of keys values key) y
in_group [] values key y i h w e f = absurd (omega (arith, h))
in_group (k ∷ keys) [] key y i h w e f = absurd (omega (arith, w))
in_group (k ∷ keys) (v ∷ values) key y zero h w e f =
    subst (λ b. Contains (cond b (v ∷ group_of keys values key) (group_of keys values key)) y) (sym (eq-eqb k key e))
    (subst (λ z. Contains (z ∷ group_of keys values key) y) (sym f) (here y (group_of keys values key)))
in_group (k ∷ keys) (v ∷ values) key y (suc i) h w e f =
    let rest = in_group keys values key y i (omega (arith, h)) (omega (arith, w)) e f in
    elim (eqb_tells k key) [
      | inl at ↦ subst (λ b. Contains (cond b (v ∷ group_of keys values key) (group_of keys values key)) y) (sym at.0) (there v (group_of keys values key) y rest)
      | inr off ↦ subst (λ b. Contains (cond b (v ∷ group_of keys values key) (group_of keys values key)) y) (sym off.0) rest
    ]

-- the ends of a road are what they are
one_low : (g : NetworkValue) (o : OrderValue) (a x y v w : ℕ) → LinksRanks g o a x y → LinksRanks g o a v w → x ≡ v
one_low g o a x y v w p q =
    let arc : p.2.0 ≡ q.2.0 = same_value (slice_get g.arcs a) p.2.0 q.2.0 p.2.1 q.2.1 in
    let tail : p.0 ≡ q.0 = sym p.2.2 ∙ ap (λ (r : RoadArc). r.tail) arc ∙ q.2.2 in
    same_value (slice_get o.rank_of p.0) x v p.3 (ap (slice_get o.rank_of) tail ∙ q.3)

one_high : (g : NetworkValue) (o : OrderValue) (a x y v w : ℕ) → LinksRanks g o a x y → LinksRanks g o a v w → y ≡ w
one_high g o a x y v w p q =
    let arc : p.2.0 ≡ q.2.0 = same_value (slice_get g.arcs a) p.2.0 q.2.0 p.2.1 q.2.1 in
    let head : p.1 ≡ q.1 = sym p.2.3 ∙ ap (λ (r : RoadArc). r.head) arc ∙ q.2.3 in
    same_value (slice_get o.rank_of p.1) y w p.4 (ap (slice_get o.rank_of) head ∙ q.4)

pub road_within : (g : NetworkValue) (o : OrderValue) (a x y : ℕ) → LinksRanks g o a x y → a < length g.arcs
road_within g o a x y p = slice_get_within g.arcs a p.2.0 p.2.1

-- the ends of all roads, and what they link
module _ (g : NetworkValue) (o : OrderValue) (lows highs : List ℕ) (f : AreRankEnds g o (length g.arcs) lows highs) where
  link_at : (rank y a u v : ℕ) → a < length g.arcs → LinksRanks g o a u v → min u v ≡ rank → max u v ≡ y → Contains (group_of lows highs rank) y
  link_at rank y a u v below p low high =
      let e = f.each a below in
      let at_u : e.0 ≡ u = one_low g o a e.0 e.1 u v e.2 p in
      let at_v : e.1 ≡ v = one_high g o a e.0 e.1 u v e.2 p in
      in_group lows highs rank y a (omega (arith, below, f.lows_long)) (omega (arith, below, f.highs_long))
      (e.3 ∙ ap (λ k. min k e.1) at_u ∙ ap (min u) at_v ∙ low) (e.4 ∙ ap (λ k. max k e.1) at_u ∙ ap (max u) at_v ∙ high)

  link_there : (rank y : ℕ) → rank ≤ y → Adjacent g o rank y → Contains (group_of lows highs rank) y
  link_there rank y le (a, inl p) = link_at rank y a rank y (road_within g o a rank y p) p (omega (arith, le)) (omega (arith, le))
  link_there rank y le (a, inr p) = link_at rank y a y rank (road_within g o a y rank p) p (omega (arith, le)) (omega (arith, le))

  link_sound : (rank y : ℕ) → Contains (group_of lows highs rank) y → (rank ≤ y) × Adjacent g o rank y
  link_sound rank y c =
      let m = group_member lows highs rank y c in
      let e = f.each m.0 (omega (arith, m.1, f.lows_long)) in
      let low : min e.0 e.1 ≡ rank = sym e.3 ∙ m.3 in
      let high : max e.0 e.1 ≡ y = sym e.4 ∙ m.4 in
      elim (cases_lt e.1 e.0) [
        | inl down ↦
            let at : e.1 ≡ rank = omega (arith, low, down) in
            let to : e.0 ≡ y = omega (arith, high, down) in
            (omega (arith, at, to, down), (m.0, inr (subst (λ k. LinksRanks g o m.0 y k) at (subst (λ k. LinksRanks g o m.0 k e.1) to e.2))))
        | inr up ↦
            let at : e.0 ≡ rank = omega (arith, low, up) in
            let to : e.1 ≡ y = omega (arith, high, up) in
            (omega (arith, at, to, up), (m.0, inl (subst (λ k. LinksRanks g o m.0 k y) at (subst (λ k. LinksRanks g o m.0 e.0 k) to e.2))))
      ]

  link_below : (rank y : ℕ) → Contains (group_of lows highs rank) y → y < g.nodes
  link_below rank y c =
      let m = group_member lows highs rank y c in
      let e = f.each m.0 (omega (arith, m.1, f.lows_long)) in
      omega (arith, e.4, e.5, e.6, m.4)

  -- grouped, they are the links
  group_links : (rank : ℕ) → AreLinks g o rank (group_of lows highs rank)
  group_links rank = record {
    exact = λ y. (link_sound rank y, λ both. link_there rank y both.0 both.1);
    in_range = all_from_members (λ y. (rank ≤ y) × (y < g.nodes)) (group_of lows highs rank) (λ y c. ((link_sound rank y c).0, link_below rank y c));
  }

  -- what is asked where the roads are grouped
  pub ends_in_range : All (λ key. key < g.nodes) lows
  ends_in_range k d h =
      let e = f.each k (omega (arith, h, f.lows_long)) in
      let same = get_or_default lows k d 0 h in
      omega (arith, same, e.3, e.5, e.6)

pub links_from_ends : (g : NetworkValue) (o : OrderValue) (lows highs : List ℕ) (groups : List (List ℕ)) → AreRankEnds g o (length g.arcs) lows highs
    → AreGroups lows highs g.nodes groups → HoldsLinks g o groups
links_from_ends g o lows highs groups f h = record {
  long = h.long;
  each = λ rank part at.
      let within = slice_get_within groups rank part at in
      let same : group_of lows highs rank ≡ part = same_Some _ _ (sym (h.each rank (omega (arith, within, h.long))) ∙ at) in
      subst (AreLinks g o rank) same (group_links g o lows highs f rank);
}

-- the same with what is handed over
pub ends_given : (g : NetworkValue) (o : OrderValue) (lows highs given_lows given_highs : List ℕ) → given_lows ≡ lows → given_highs ≡ highs
    → AreRankEnds g o (length g.arcs) lows highs → AreRankEnds g o (length g.arcs) given_lows given_highs
ends_given g o lows highs given_lows given_highs lows_same highs_same f =
    subst (λ xs. AreRankEnds g o (length g.arcs) xs given_highs) (sym lows_same) (subst (AreRankEnds g o (length g.arcs) lows) (sym highs_same) f)

-- one more road
pub ends_more : (g : NetworkValue) (o : OrderValue) (a x y : ℕ) (arc : RoadArc) (lows highs lows_new highs_new : List ℕ) → AreRankEnds g o a lows highs
    → slice_get g.arcs a ≡ Some arc → slice_get o.rank_of arc.tail ≡ Some x → slice_get o.rank_of arc.head ≡ Some y → x < g.nodes → y < g.nodes
    → lows_new ≡ lows ++ (min x y ∷ []) → highs_new ≡ highs ++ (max x y ∷ []) → AreRankEnds g o (a + 1) lows_new highs_new
ends_more g o a x y arc lows highs lows_new highs_new f road tail head x_in y_in lows_is highs_is = record {
  lows_long = ap length lows_is ∙ length_push lows (min x y) ∙ ap (λ n. n + 1) f.lows_long;
  highs_long = ap length highs_is ∙ length_push highs (max x y) ∙ ap (λ n. n + 1) f.highs_long;
  each = λ b lt.
      elim (cases_eq b a) [
        | inl same ↦
            let low : get_or lows_new b 0 ≡ min x y = ap (λ xs. get_or xs b 0) lows_is ∙ get_or_push lows (min x y) 0 b (f.lows_long ∙ sym same) in
            let high : get_or highs_new b 0 ≡ max x y = ap (λ xs. get_or xs b 0) highs_is ∙ get_or_push highs (max x y) 0 b (f.highs_long ∙ sym same) in
            (x, y, (arc.tail, arc.head, (arc, subst (λ k. slice_get g.arcs k ≡ Some arc) (sym same) road, refl, refl), tail, head), low, high, x_in, y_in)
        | inr other ↦
            let before : b < a = omega (arith, lt, other) in
            let e = f.each b before in (
              e.0,
              e.1,
              e.2,
              ap (λ xs. get_or xs b 0) lows_is ∙ get_or_append_left lows (min x y ∷ []) 0 b (omega (arith, before, f.lows_long)) ∙ e.3,
              ap (λ xs. get_or xs b 0) highs_is ∙ get_or_append_left highs (max x y ∷ []) 0 b (omega (arith, before, f.highs_long)) ∙ e.4,
              e.5,
              e.6,
            )
      ];
}

rank_in_range : (o : OrderValue) → IsOrder o → (node rank : ℕ) → slice_get o.rank_of node ≡ Some rank → rank < length o.node_at
rank_in_range o f node rank e = slice_get_within o.node_at rank node (f.placed node rank e)

-- a rank that is joined to another is in range
pub adjacent_in_range : (g : NetworkValue) (o : OrderValue) (x y : ℕ) → IsOrder o → length o.node_at ≡ g.nodes → Adjacent g o x y → x < g.nodes
adjacent_in_range g o x y f long (a, inl p) = let below = rank_in_range o f p.0 x p.3 in omega (arith, below, long)
adjacent_in_range g o x y f long (a, inr p) = let below = rank_in_range o f p.1 x p.4 in omega (arith, below, long)
