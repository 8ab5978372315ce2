-- Touched edges and resettled lists, shown on small networks.
use Rattle.std.proofs.Common.{◌≡◌, ◌⊎◌, inl, inr, ℕ, [], ◌∷◌, Some, refl, arith, ap, subst, zero, suc}
use Rattle.std.specs.Prelude.{slice_get}
use Rattle.cu_model.specs.declared.profiles.Rule.TheVariants.{Travel}
use Rattle.cu_model.specs.declared.roads.Edit.{Edit}
use Rattle.cu_model.specs.declared.roads.Edit.TheVariants.{Set, Assign}
use Rattle.cu_model.specs.Edits.{edited}
use Rattle.cu_chordal.specs.declared.graph.Ends.{Ends}
use Rattle.cu_chordal.specs.Edges.{LinksRanks, IsEdge, Adjacent}
use Rattle.cu_interval.specs.declared.ways.Way.TheVariants.{Road, Via}
use Rattle.cu_interval.specs.Hierarchies.{HierarchyValue}
use Rattle.cu_interval.specs.Touching.{IsChanged, IsTouched, IsTouchedEdge, by_road, by_first, by_second}
use Rattle.cu_interval.specs.Resettling.{rebuilt, value_by}
use Rattle.cu_interval.proofs.Examples.{three_built, piece, forged, four_with, by}

abbrev pub slower : Edit
slower = Set 0 (piece 0 (Travel 200) ∷ [])

-- the changed road joins ranks 0 and 1
abbrev pub joined_0_1 : Adjacent three_built.network three_built.order 0 1
joined_0_1 = (0, inr (0, 1, (record { tail = 0; head = 1; profile = 0 }, refl, refl, refl), refl, refl))

abbrev pub joined_0_2 : Adjacent three_built.network three_built.order 0 2
joined_0_2 = (1, inl (1, 2, (record { tail = 1; head = 2; profile = 1 }, refl, refl, refl), refl, refl))

edge_0_1 : IsEdge three_built.network three_built.order 0 1
edge_0_1 = (λ e. omega (arith, e), ([], joined_0_1))

edge_0_2 : IsEdge three_built.network three_built.order 0 2
edge_0_2 = (λ e. omega (arith, e), ([], joined_0_2))

touched_0_1 : IsTouched three_built.network three_built.order slower 0 1
touched_0_1 = by_road 0 0 1 (record { tail = 0; head = 1; profile = 0 }, refl, refl) joined_0_1.1 (omega arith)

touched_1_2 : IsTouched three_built.network three_built.order slower 1 2
touched_1_2 = by_first 0 1 2 touched_0_1 (omega arith) (omega arith) edge_0_1 edge_0_2

edge_0 : IsTouchedEdge three_built slower 0
edge_0 = (record { low = 0; high = 1 }, refl, touched_0_1)

edge_2 : IsTouchedEdge three_built slower 2
edge_2 = (record { low = 1; high = 2 }, refl, touched_1_2)

-- edge 1 isn't touched
not_by_road : (a x y : ℕ) → IsChanged three_built.network slower a → LinksRanks three_built.network three_built.order a x y ⊎ LinksRanks three_built.network three_built.order a y x → x ≡ 0 → y ≡ 2 → ⊥
not_by_road zero x y c (inl l) ex ey =
    let (u, v, (arc, at, t, h), r, q) = l in
    let same : arc ≡ record { tail = 0; head = 1; profile = 0 } = cc at in
    let tail : u ≡ 0 = cc (same, t) in
    let rank : slice_get three_built.order.rank_of 0 ≡ Some x = subst (λ (n : ℕ). slice_get three_built.order.rank_of n ≡ Some x) tail r in
    let is : 1 ≡ x = cc rank in
    omega (arith, is, ex)
not_by_road zero x y c (inr l) ex ey =
    let (u, v, (arc, at, t, h), r, q) = l in
    let same : arc ≡ record { tail = 0; head = 1; profile = 0 } = cc at in
    let tail : u ≡ 0 = cc (same, t) in
    let rank : slice_get three_built.order.rank_of 0 ≡ Some y = subst (λ (n : ℕ). slice_get three_built.order.rank_of n ≡ Some y) tail r in
    let is : 1 ≡ y = cc rank in
    omega (arith, is, ey)
not_by_road (suc zero) x y c l ex ey = let (arc, at, p) = c in let is : ◌≡◌ {A = ℕ} 1 0 = cc (at, p) in omega (arith, is)
not_by_road (suc (suc zero)) x y c l ex ey = let (arc, at, p) = c in let is : ◌≡◌ {A = ℕ} 2 0 = cc (at, p) in omega (arith, is)
not_by_road (suc (suc (suc a))) x y c l ex ey = let (arc, at, p) = c in absurd (cc at)

not_touched : (x y : ℕ) → IsTouched three_built.network three_built.order slower x y → x ≡ 0 → y ≡ 2 → ⊥
not_touched _ _ (by_road a x y c l lt) ex ey = not_by_road a x y c l ex ey
not_touched _ _ (by_first m x y t low lt e f) ex ey = omega (arith, low, ex)
not_touched _ _ (by_second m x y t low lt e f) ex ey = omega (arith, low, ex)

not_edge_1 : IsTouchedEdge three_built slower 1 → ⊥
not_edge_1 k =
    let (e, at, t) = k in
    let same : e ≡ record { low = 0; high = 2 } = cc at in
    not_touched e.low e.high t (ap (λ (x : Ends). x.low) same) (ap (λ (x : Ends). x.high) same)

-- after road 8 of the forged hierarchy is given a profile anew: its own edge is resettled, the edge below keeps its middle
abbrev pub resettled : HierarchyValue
resettled = four_with (by (Via 0)) (by (Via 0)) (by (Road 8))

same_network : resettled.network ≡ edited forged.network (Assign 8 0)
same_network = refl

first_road : value_by resettled.network (rebuilt resettled) 2 3 0 (Road 8) ≡ Some 10
first_road = refl

over_0 : value_by resettled.network (rebuilt resettled) 2 3 0 (Via 0) ≡ Some 20
over_0 = refl

over_1 : value_by resettled.network (rebuilt resettled) 2 3 0 (Via 1) ≡ Some 40
over_1 = refl

kept_below : rebuilt resettled 2 1 0 ≡ Some 20
kept_below = refl

-- the edit's touched edge of the forged hierarchy
joined_2_3 : IsTouched forged.network forged.order (Assign 8 0) 2 3
joined_2_3 = by_road 8 2 3 refl (inl (2, 3, (record { tail = 2; head = 3; profile = 0 }, refl, refl, refl), refl, refl)) (omega arith)
