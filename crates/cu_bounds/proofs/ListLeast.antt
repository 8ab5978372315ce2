-- The least over the entries of a list, entry by entry.
use Rattle.std.proofs.Common.{◌≡◌, ◌≤◌, ◌<◌, ◌+◌, ◌∙◌, ℕ, List, ◌∷◌, Some, ap, arith, drop, get_or, length, min, refl, subst}
use Rattle.std.specs.Prelude.{slice_get}
use Rattle.std.proofs.lemmas.List.{drop_all, drop_more}
use Rattle.std.proofs.lemmas.Option.{get_or_from_slice_get, slice_get-get_or, slice_get_within}
use Rattle.cu_model.proofs.RoadLaws.{all_at}
use Rattle.cu_chordal.specs.declared.graph.Ends.{Ends}
use Rattle.cu_interval.specs.declared.shortcuts.Shortcut.{Shortcut}
use Rattle.cu_interval.specs.declared.ways.Way.{Way}
use Rattle.cu_interval.specs.declared.ways.Entry.{Entry}
use Rattle.cu_interval.specs.Hierarchies.{HierarchyValue, IsHierarchy, IsWellFormed, end_of, start_of}
use Rattle.cu_interval.specs.LeastBounds.{bound_from, far, least_bound, least_of, way_bound}
use Rattle.cu_interval.specs.LeastPieces.{road_pieces}
use Rattle.cu_interval.specs.Shortcuts.{ways_of}
use Rattle.cu_interval.proofs.BoundFuel.{least_of-far}
use Rattle.cu_interval.proofs.KeptBounds.{bound_from-kept}
use Rattle.cu_interval.proofs.Lookups.{list_from-edge}
use Rattle.cu_bounds.specs.Steps.InTurn.{IsFinderUpTo, IsWayOf}
use Rattle.cu_bounds.proofs.HalfBounds.{bound_at}

-- the bound of each way of an edge's list, by pieces and by the least bounds of its halves
abbrev pub bound_between : HierarchyValue → Ends → Shortcut → Way → ℕ
bound_between h ends shortcut = way_bound (road_pieces h.network) (bound_from h) (start_of ends shortcut.dir) (end_of ends shortcut.dir)

-- the least so far, and the least of what is left, are the least of all
pub record IsLeastSoFar (bound : Way → ℕ) (entries : List Entry) (done least : ℕ) : Type 0 where
  pub whole : min least (least_of bound (drop done entries)) ≡ least_of bound entries
  pub near : least ≤ far

pub so_far_none : (bound : Way → ℕ) (entries : List Entry) → IsLeastSoFar bound entries 0 far
so_far_none bound entries = let most = least_of-far bound entries in record { whole = omega (arith, most); near = omega arith }

pub so_far_more : (bound : Way → ℕ) (entries : List Entry) (i : ℕ) (entry : Entry) (least found less : ℕ) → slice_get entries i ≡ Some entry
    → found ≡ bound entry.way → less ≡ min least found → IsLeastSoFar bound entries i least → IsLeastSoFar bound entries (i + 1) less
so_far_more bound entries i entry least found less there finds is so_far =
    let lt = slice_get_within entries i entry there in
    let same = get_or_from_slice_get entries i entry entry there in
    let parts : drop i entries ≡ entry ∷ drop (i + 1) entries = drop_more entries i entry lt ∙ ap (λ (e : Entry). e ∷ drop (i + 1) entries) same in
    let rest : least_of bound (drop i entries) ≡ min (bound entry.way) (least_of bound (drop (i + 1) entries)) = ap (least_of bound) parts in
    let whole = so_far.whole in
    let near = so_far.near in
    record { whole = omega (arith, whole, rest, finds, is); near = omega (arith, near, is) }

pub so_far_all : (bound : Way → ℕ) (entries : List Entry) (i least : ℕ) → length entries ≤ i → IsLeastSoFar bound entries i least
    → least ≡ least_of bound entries
so_far_all bound entries i least le so_far =
    let none : least_of bound (drop i entries) ≡ far = ap (least_of bound) (drop_all i entries le) in
    let whole = so_far.whole in
    let near = so_far.near in
    omega (arith, none, whole, near)

module _ (h : HierarchyValue) (f : IsHierarchy h) (shortcut : Shortcut) (ends : Ends) (at : slice_get h.edges shortcut.edge ≡ Some ends) where
  -- the least bound of a list is the least over its entries
  pub least_bound-entries : least_bound h shortcut.edge shortcut.dir ≡ least_of (bound_between h ends shortcut) (ways_of h shortcut)
  least_bound-entries =
      bound_at h shortcut.edge shortcut.dir ends at
      ∙ bound_from-kept h f (bound_from h) (start_of ends shortcut.dir) (end_of ends shortcut.dir) (λ x y low some. refl)
      ∙ ap (least_of (bound_between h ends shortcut)) (list_from-edge h f shortcut.edge shortcut.dir ends at)

  -- each of its ways is well formed
  pub way_of_entry : (i : ℕ) (entry : Entry) → slice_get (ways_of h shortcut) i ≡ Some entry → IsWayOf h shortcut entry.way
  way_of_entry i entry there =
      let formed = f.formed shortcut.edge shortcut.dir ends at in
      let Formed : Entry → Type 0 = λ e. IsWellFormed h (start_of ends shortcut.dir) (end_of ends shortcut.dir) e.way in
      (ends, at, all_at Formed (ways_of h shortcut) i entry formed there)

-- the least so far, and the finder has come no further than to this edge
pub record IsBound (h : HierarchyValue) (shortcut : Shortcut) (index least : ℕ) (known : HierarchyValue) (reached : ℕ) : Type 0 where
  pub so_far : (ends : Ends) → slice_get h.edges shortcut.edge ≡ Some ends → IsLeastSoFar (bound_between h ends shortcut) (ways_of h shortcut) index least
  pub finder : IsFinderUpTo h shortcut.edge known reached

-- an entry of this slice is one of the same list
pub entry_there : (slice entries : List Entry) → slice ≡ entries → (i : ℕ) → i < length slice → (d : Entry) → slice_get entries i ≡ Some (get_or slice i d)
entry_there slice entries same i lt d = subst (λ (list : List Entry). slice_get list i ≡ Some (get_or slice i d)) same (slice_get-get_or slice i d lt)
