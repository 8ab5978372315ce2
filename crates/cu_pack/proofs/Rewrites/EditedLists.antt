-- The lists of a hierarchy of which some edges have new ones, found by their edge.
use Rattle.std.proofs.Common.{◌≡◌, ◌≢◌, ◌≤◌, ◌+◌, ◌-◌, ◌*◌, ◌∙◌, ℕ, zero, suc, List, Some, true, false, ap, All, arith, get_or, inl, inr, length, map, refl, sym}
use Rattle.std.specs.Prelude.{nat_le, slice_get}
use Rattle.std.specs.List.Sorted.{IsNonDecreasingBy, IsPartitionPoint, IsStrictlyIncreasing}
use Rattle.std.proofs.lemmas.Bool.{cases_lt}
use Rattle.std.proofs.lemmas.Bool.Decides.{nat_tests}
use Rattle.std.proofs.lemmas.List.Sorted.{IsNonDecreasingBy-from_all_adjacent}
use Rattle.std.proofs.lemmas.Option.{get_or_from_slice_get, same_Some, slice_get-get_or, slice_get_within}
use Rattle.cu_model.specs.Networks.{NetworkValue}
use Rattle.cu_interval.specs.declared.ways.Dir.{Dir}
use Rattle.cu_interval.specs.declared.ways.Dir.TheVariants.{Up, Down}
use Rattle.cu_interval.specs.declared.ways.Entry.{Entry}
use Rattle.cu_interval.specs.declared.ways.TouchedEdge.{TouchedEdge}
use Rattle.cu_interval.specs.Hierarchies.{HierarchyValue, entries_or_none, list_number, list_of}
use Rattle.cu_interval.specs.Replacing.{replaced}
use Rattle.cu_interval.proofs.Replacing.{replaced_long}
use Rattle.cu_bounds.specs.KeptBounds.{HasListsOf}
use Rattle.cu_bounds.proofs.Renewed.{AreRising, edges_rise, numbers_apart}
use Rattle.cu_pack.specs.Repacking.{with_roads}
use Rattle.cu_pack.specs.Steps.Replacing.{FitsLists, IsNewList, IsUntouched, list_after}
use Rattle.cu_pack.proofs.Rewrites.Replaced.{own_there, replaced_elsewhere}

-- one of some is the last
pub last_more : (n : ℕ) → n ≢ 0 → n - 1 + 1 ≡ n
last_more zero none = absurd (none refl)
last_more (suc n) none = omega arith

pub in_order : (lists : List TouchedEdge) → IsStrictlyIncreasing (map (λ (touched : TouchedEdge). touched.edge) lists) → IsNonDecreasingBy (λ (touched : TouchedEdge). touched.edge) lists
in_order lists increasing =
    let rising = edges_rise lists increasing in
    IsNonDecreasingBy-from_all_adjacent (λ (touched : TouchedEdge). touched.edge) lists (λ k d lt.
    let less = rising k (k + 1) _ _ (omega arith) (slice_get-get_or lists k d (omega (arith, lt))) (slice_get-get_or lists (k + 1) d lt) in
    omega (arith, less))

module _ (lists : List TouchedEdge) (edge count : ℕ)
    (point : IsPartitionPoint (λ (touched : TouchedEdge). nat_le touched.edge edge ≡ true) (λ (touched : TouchedEdge). nat_le touched.edge edge ≡ false) lists count) where
  -- those from the point on are above
  above : (i : ℕ) (t : TouchedEdge) → slice_get lists i ≡ Some t → count ≤ i → t.edge ≢ edge
  above i t there late same =
      let test = point.1 i t late (slice_get_within lists i t there) in
      let is = ap (λ (u : TouchedEdge). u.edge) (get_or_from_slice_get lists i t t there) in
      absurd (grind (arith, nat_tests, test, is, same))

  -- no edge is at most this one
  pub untouched_none : count ≡ 0 → IsUntouched lists edge
  untouched_none none i t there = above i t there (omega (arith, none))

  -- the last that is at most this one is another
  pub untouched_last : AreRising lists → (last : ℕ) (u : TouchedEdge) → last + 1 ≡ count → slice_get lists last ≡ Some u → u.edge ≢ edge → IsUntouched lists edge
  untouched_last rising last u next at other i t there = elim (cases_lt i count) [
    | inr late ↦ above i t there late
    | inl early ↦ elim (cases_lt i last) [
      | inl before ↦
          let less = rising i last t u before there at in
          let test = point.0 last u (omega arith) (omega (arith, next)) in
          let is = ap (λ (v : TouchedEdge). v.edge) (get_or_from_slice_get lists last u u at) in
          (λ same. absurd (grind (arith, nat_tests, test, is, less, same)))
      | inr here ↦
          let place : i ≡ last = omega (arith, early, here, next) in
          let is = ap (λ (v : TouchedEdge). v.edge) (same_Some t u (sym there ∙ ap (slice_get lists) place ∙ at)) in
          (λ same. other (sym is ∙ same))
    ]
  ]

-- each of these edges has its lists in a hierarchy
abbrev pub AreListsOf : HierarchyValue → List TouchedEdge → Type 0
AreListsOf h lists = All (HasListsOf h) lists

module _ (h : HierarchyValue) (g : NetworkValue) (lists : List TouchedEdge) (fits : FitsLists h g lists) where
  old_long : length h.lists ≡ 2 * length h.edges
  old_long = sym (replaced_long h.lists lists) ∙ fits.sound.lists

  -- the new list of an edge is its list then
  pub new_list : (edge : ℕ) (dir : Dir) (entries : List Entry) → IsNewList lists edge dir entries → list_of (with_roads h g lists) edge dir ≡ entries
  new_list edge Up entries new =
      let own = own_there h.lists lists (length h.edges) old_long (edges_rise lists fits.rising) fits.edges new.place new.touched new.there in
      ap (λ (n : ℕ). entries_or_none (slice_get (replaced h.lists lists) (2 * n))) (sym new.same) ∙ ap entries_or_none own.0 ∙ sym new.list
  new_list edge Down entries new =
      let own = own_there h.lists lists (length h.edges) old_long (edges_rise lists fits.rising) fits.edges new.place new.touched new.there in
      ap (λ (n : ℕ). entries_or_none (slice_get (replaced h.lists lists) (2 * n + 1))) (sym new.same) ∙ ap entries_or_none own.1 ∙ sym new.list

  -- and an edge with no new ones keeps its own
  pub old_list : (edge : ℕ) (dir : Dir) → IsUntouched lists edge → list_of (with_roads h g lists) edge dir ≡ list_of h edge dir
  old_list edge dir untouched =
      ap entries_or_none (replaced_elsewhere h.lists lists (list_number edge dir) (λ i t there.
      let other : edge ≢ t.edge = λ same. untouched i t there (sym same) in
      (numbers_apart edge t.edge dir Up other, numbers_apart edge t.edge dir Down other)))

  -- so the new lists of all edges are theirs then
  pub new_lists : AreListsOf (with_roads h g lists) lists
  new_lists i d lt =
      let touched = get_or lists i d in
      let there = slice_get-get_or lists i d lt in
      let new : (dir : Dir) → IsNewList lists touched.edge dir (list_after touched dir) =
      λ dir. record { place = i; touched = touched; there = there; same = refl; list = refl } in
      record {
        edge = fits.edges i d lt;
        up = sym (new_list touched.edge Up touched.up (new Up));
        down = sym (new_list touched.edge Down touched.down (new Down));
      }
