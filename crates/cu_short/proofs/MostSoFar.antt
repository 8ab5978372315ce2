-- The most over the entries of a list, entry by entry.
use Rattle.std.proofs.Common.{◌≡◌, ◌≤◌, ◌+◌, ◌∙◌, ℕ, List, ◌∷◌, Some, ap, arith, drop, length, max}
use Rattle.std.specs.Prelude.{slice_get}
use Rattle.std.proofs.lemmas.List.{drop_all, drop_more}
use Rattle.std.proofs.lemmas.Option.{get_or_from_slice_get, slice_get_within}
use Rattle.cu_chordal.specs.declared.graph.Ends.{Ends}
use Rattle.cu_interval.specs.declared.shortcuts.Shortcut.{Shortcut}
use Rattle.cu_interval.specs.declared.ways.Way.{Way}
use Rattle.cu_interval.specs.declared.ways.Entry.{Entry}
use Rattle.cu_interval.specs.Hierarchies.{HierarchyValue, IsHierarchy, end_of, start_of}
use Rattle.cu_interval.specs.Shortcuts.{ways_of}
use Rattle.cu_interval.proofs.Lookups.{list_from-edge}
use Rattle.cu_short.specs.Shortness.{most_of, most_roads, way_roads}
use Rattle.cu_short.proofs.MostLaws.{most_roads-ways}

-- the most roads of each way of an edge's list
abbrev pub roads_between : HierarchyValue → Ends → Shortcut → Way → ℕ
roads_between h ends shortcut = way_roads (most_roads h) (start_of ends shortcut.dir) (end_of ends shortcut.dir)

-- the most so far, and the most of what is left, are the most of all
abbrev pub IsMostSoFar : (Way → ℕ) → List Entry → ℕ → ℕ → Type 0
IsMostSoFar roads entries done most = max most (most_of roads (drop done entries)) ≡ most_of roads entries

pub so_far_none : (roads : Way → ℕ) (entries : List Entry) → IsMostSoFar roads entries 0 0
so_far_none roads entries = omega arith

pub so_far_more : (roads : Way → ℕ) (entries : List Entry) (i : ℕ) (entry : Entry) (most found more : ℕ) → slice_get entries i ≡ Some entry
    → found ≡ roads entry.way → more ≡ max most found → IsMostSoFar roads entries i most → IsMostSoFar roads entries (i + 1) more
so_far_more roads entries i entry most found more there finds is so_far =
    let lt = slice_get_within entries i entry there in
    let same = get_or_from_slice_get entries i entry entry there in
    let parts : drop i entries ≡ entry ∷ drop (i + 1) entries = drop_more entries i entry lt ∙ ap (λ (e : Entry). e ∷ drop (i + 1) entries) same in
    let rest : most_of roads (drop i entries) ≡ max (roads entry.way) (most_of roads (drop (i + 1) entries)) = ap (most_of roads) parts in
    omega (arith, so_far, rest, finds, is)

pub so_far_all : (roads : Way → ℕ) (entries : List Entry) (i most : ℕ) → length entries ≤ i → IsMostSoFar roads entries i most → most ≡ most_of roads entries
so_far_all roads entries i most le so_far =
    let none : most_of roads (drop i entries) ≡ 0 = ap (most_of roads) (drop_all i entries le) in
    omega (arith, none, so_far)

module _ (h : HierarchyValue) (f : IsHierarchy h) (shortcut : Shortcut) (ends : Ends) (at : slice_get h.edges shortcut.edge ≡ Some ends) where
  -- the most roads of a list are the most over its entries
  pub most_roads-entries : most_roads h (start_of ends shortcut.dir) (end_of ends shortcut.dir) ≡ most_of (roads_between h ends shortcut) (ways_of h shortcut)
  most_roads-entries =
      most_roads-ways h f (start_of ends shortcut.dir) (end_of ends shortcut.dir)
      ∙ ap (most_of (roads_between h ends shortcut)) (list_from-edge h f shortcut.edge shortcut.dir ends at)
