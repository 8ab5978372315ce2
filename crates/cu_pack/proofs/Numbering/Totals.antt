-- How many there are in all: parts of the sum, and its limits.
use Rattle.std.proofs.Common.{◌≡◌, ◌≤◌, ◌<◌, ◌+◌, ◌*◌, ◌∙◌, ℕ, List, [], Some, length, take, get_or, ap, sym, arith, mul-le-mul_right}
use Rattle.std.specs.Prelude.{All, slice_get}
use Rattle.std.proofs.lemmas.List.Sums.{sum_by-le, sum_by_more, sum_by_more_le}
use Rattle.std.proofs.lemmas.Option.{slice_get-get_or, get_or_from_slice_get, slice_get_within}
use Rattle.cu_model.specs.declared.limits.TheConstants.{DAY, MAX_PROFILES}
use Rattle.cu_model.specs.declared.profiles.Piece.{Piece}
use Rattle.cu_model.specs.Days.{day}
use Rattle.cu_model.specs.Profiles.{IsProfile}
use Rattle.cu_model.specs.Networks.{NetworkValue, IsNetwork}
use Rattle.cu_model.specs.Roads.{pieces_of, pieces_or_none}
use Rattle.cu_model.proofs.Begun.{few_items}
use Rattle.cu_model.proofs.FaultLaws.{piece_begins}
use Rattle.cu_chordal.specs.declared.graph.TheConstants.{MAX_EDGES}
use Rattle.cu_interval.specs.declared.ways.Dir.{Dir}
use Rattle.cu_interval.specs.declared.ways.Dir.TheVariants.{Up, Down}
use Rattle.cu_interval.specs.Hierarchies.{HierarchyValue, IsHierarchy, entries_or_none, list_number, list_of}
use Rattle.cu_interval.proofs.Spelled.{few_entries}
use Rattle.cu_interval.proofs.EndsLaws.{number_within}
use Rattle.cu_pack.specs.Layouts.{AreInLimits}
use Rattle.cu_pack.specs.declared.layout.Counts.{Counts}
use Rattle.cu_pack.specs.Spelling.{counts_of, total}

module _ {T : Type 0} (lists : List (List T)) (i : ℕ) (list : List T) (there : slice_get lists i ≡ Some list) where
  -- one list more
  pub total_more : total (take (i + 1) lists) ≡ total (take i lists) + length list
  total_more =
      let inside = slice_get_within lists i list there in
      let same = get_or_from_slice_get lists i list list there in
      sum_by_more length lists i list inside ∙ ap (λ (xs : List T). total (take i lists) + length xs) same

  -- up to this list there are no more than in all
  pub total_within : total (take i lists) + length list ≤ total lists
  total_within =
      let inside = slice_get_within lists i list there in
      let same = ap length (get_or_from_slice_get lists i list list there) in
      let within = sum_by_more_le length lists i list inside in
      omega (arith, same, within)

few_in_all : {T : Type 0} (lists : List (List T)) (most each : ℕ) → length lists ≤ most → All (λ (list : List T). length list ≤ each) lists → total lists ≤ most * each
few_in_all lists most each few all =
    let sum = sum_by-le length each lists all in
    let product : length lists * each ≤ most * each = mul-le-mul_right each few in
    omega (arith, sum, product)

-- a profile has no more pieces than a day has seconds
pub few_pieces : (pieces : List Piece) → IsProfile pieces → length pieces ≤ day
few_pieces pieces f = few_items (λ (p : Piece). p.from) day pieces f.rises (λ i d h. piece_begins (get_or pieces i d) (f.limits i d h))

-- a network has no more pieces than there may be
pub pieces_in_limit : (g : NetworkValue) → IsNetwork g → total g.profiles ≤ MAX_PROFILES * DAY
pieces_in_limit g f = few_in_all g.profiles MAX_PROFILES DAY f.few_profiles (λ k d h. few_pieces (get_or g.profiles k d) (f.valid k d h))

-- a hierarchy has no more entries than there may be
pub entries_in_limit : (h : HierarchyValue) → IsHierarchy h → total h.lists ≤ 2 * MAX_EDGES * DAY
entries_in_limit h f =
    let edges = f.graph.few_edges in
    let long = f.lists in
    few_in_all h.lists (2 * MAX_EDGES) DAY (omega (arith, edges, long)) (λ k d i. few_entries (get_or h.lists k d) (f.spelled k d i))

-- a hierarchy has no more of each than there may be
pub in_limits : (version : ℕ) (h : HierarchyValue) → IsHierarchy h → AreInLimits (counts_of version h)
in_limits version h f = record {
  nodes = f.network.few_nodes;
  arcs = f.network.few_arcs;
  profiles = f.network.few_profiles;
  edges = f.graph.few_edges;
  pieces = pieces_in_limit h.network f.network;
  entries = entries_in_limit h f;
}

-- counts that are the same one by one
pub same_counts : (a b : Counts) → a.version ≡ b.version → a.nodes ≡ b.nodes → a.arcs ≡ b.arcs → a.profiles ≡ b.profiles → a.edges ≡ b.edges → a.pieces ≡ b.pieces → a.entries ≡ b.entries → a ≡ b
same_counts a b version nodes arcs profiles edges pieces entries =
    let of : ℕ → ℕ → ℕ → ℕ → ℕ → ℕ → ℕ → Counts = λ v n m p e k l. record { version = v; nodes = n; arcs = m; profiles = p; edges = e; pieces = k; entries = l } in
    let whole : of a.version a.nodes a.arcs a.profiles a.edges a.pieces a.entries ≡ of b.version b.nodes b.arcs b.profiles b.edges b.pieces b.entries = cc in
    whole

-- the profile with a number
pub pieces_there : (g : NetworkValue) (profile : ℕ) → profile < length g.profiles → slice_get g.profiles profile ≡ Some (pieces_of g profile)
pieces_there g profile inside =
    let there = slice_get-get_or g.profiles profile [] inside in
    there ∙ ap Some (sym (ap pieces_or_none there))

-- the list of an edge in a direction
pub list_there : (h : HierarchyValue) (edge : ℕ) (dir : Dir) → IsHierarchy h → edge < length h.edges → slice_get h.lists (list_number edge dir) ≡ Some (list_of h edge dir)
list_there h edge dir f inside =
    let there = slice_get-get_or h.lists (list_number edge dir) [] (omega (arith, f.lists, number_within edge (length h.edges) dir inside)) in
    there ∙ ap Some (sym (ap entries_or_none there))

-- both lists of an edge
module _ (h : HierarchyValue) (f : IsHierarchy h) (edge : ℕ) (inside : edge < length h.edges) where
  -- up to the next edge
  pub lists_more : total (take (2 * (edge + 1)) h.lists) ≡ total (take (2 * edge) h.lists) + length (list_of h edge Up) + length (list_of h edge Down)
  lists_more =
      let up = total_more h.lists (2 * edge) (list_of h edge Up) (list_there h edge Up f inside) in
      let down = total_more h.lists (2 * edge + 1) (list_of h edge Down) (list_there h edge Down f inside) in
      let next : 2 * (edge + 1) ≡ 2 * edge + 1 + 1 = omega arith in
      ap (λ (n : ℕ). total (take n h.lists)) next ∙ down ∙ ap (λ (n : ℕ). n + length (list_of h edge Down)) up

  -- no more than in all
  pub lists_within : total (take (2 * edge) h.lists) + length (list_of h edge Up) + length (list_of h edge Down) ≤ total h.lists
  lists_within =
      let up = total_more h.lists (2 * edge) (list_of h edge Up) (list_there h edge Up f inside) in
      let down = total_within h.lists (2 * edge + 1) (list_of h edge Down) (list_there h edge Down f inside) in
      omega (arith, up, down)
