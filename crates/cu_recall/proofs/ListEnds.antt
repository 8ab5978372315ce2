-- Lists by their numbers, and the ranks from and to which they lead.
use Rattle.std.proofs.Common.{◌≡◌, ◌≢◌, ◌<◌, ◌+◌, ◌*◌, ◌/◌, ◌%◌, ◌∙◌, ℕ, [], Bool, true, false, Some, eqb, get_or, sym, ap, arith, subst, length, min, if◌then◌else◌}
use Rattle.std.specs.Prelude.{slice_get}
use Rattle.std.proofs.lemmas.Option.{slice_get-get_or, slice_get_within}
use Rattle.cu_chordal.specs.declared.graph.Ends.{Ends}
use Rattle.cu_interval.specs.declared.ways.Dir.{Dir}
use Rattle.cu_interval.specs.declared.ways.Dir.TheVariants.{Up, Down}
use Rattle.cu_interval.specs.declared.ways.Way.{Way}
use Rattle.cu_interval.specs.Hierarchies.{HierarchyValue, IsHierarchy, start_of, end_of, list_from, list_number, list_of, way_from}
use Rattle.cu_interval.proofs.Lookups.{list_from-edge}
use Rattle.cu_interval.proofs.EndsLaws.{each_number, ends_apart, ends_range, min_ends}
use Rattle.cu_unpack.proofs.Down.{some_list}
use Rattle.cu_recall.specs.Spans.{IsListFrom, dir_of, low_of, low_of_list}

pub number_edge : (edge : ℕ) (dir : Dir) → list_number edge dir / 2 ≡ edge
number_edge edge Up = omega arith
number_edge edge Down = omega arith

pub number_dir : (edge : ℕ) (dir : Dir) → dir_of (list_number edge dir) ≡ dir
number_dir edge Up = let even : eqb ((2 * edge) % 2) 0 ≡ true = let zero : (2 * edge) % 2 ≡ 0 = omega arith in grind (arith, zero) in ap (λ (b : Bool). if b then Up else Down) even
number_dir edge Down = let odd : eqb ((2 * edge + 1) % 2) 0 ≡ false = let one : (2 * edge + 1) % 2 ≡ 1 = omega arith in grind (arith, one) in ap (λ (b : Bool). if b then Up else Down) odd

-- a list has the number of its edge in its direction
pub number_back : (list : ℕ) → list ≡ list_number (list / 2) (dir_of list)
number_back list =
    let (edge, dir, is) = each_number list in
    let there : list_number (list_number edge dir / 2) (dir_of (list_number edge dir)) ≡ list_number edge dir =
    ap (λ (e : ℕ). list_number e (dir_of (list_number edge dir))) (number_edge edge dir) ∙ ap (list_number edge) (number_dir edge dir) in
    subst (λ (n : ℕ). n ≡ list_number (n / 2) (dir_of n)) is (sym there)

-- the list of an edge in a direction leads from its start to its end
pub list_of_edge : (h : HierarchyValue) (edge : ℕ) (dir : Dir) (ends : Ends) → slice_get h.edges edge ≡ Some ends → IsListFrom h (list_number edge dir) (start_of ends dir) (end_of ends dir)
list_of_edge h edge dir ends at =
    let back = sym (number_dir edge dir) in
    (ends, ap (slice_get h.edges) (number_edge edge dir) ∙ at, ap (start_of ends) back, ap (end_of ends) back)

-- and there is one for each edge in each direction
pub edge_list : (h : HierarchyValue) (edge : ℕ) (dir : Dir) → edge < length h.edges → (u v : ℕ) × IsListFrom h (list_number edge dir) u v
edge_list h edge dir lt =
    let ends : Ends = get_or h.edges edge (record { low = 0; high = 0 }) in
    (start_of ends dir, end_of ends dir, list_of_edge h edge dir ends (slice_get-get_or h.edges edge (record { low = 0; high = 0 }) lt))

-- no list leads from a rank to itself
pub list_apart : (h : HierarchyValue) → IsHierarchy h → (list u v : ℕ) → IsListFrom h list u v → u ≢ v
list_apart h f list u v (ends, at, from, to) =
    let range = ends_range h f (list / 2) ends at in
    λ same. ends_apart ends (dir_of list) range.0 (sym from ∙ same ∙ to)

-- there are two lists an edge
pub list_inside : (h : HierarchyValue) (list u v : ℕ) → IsListFrom h list u v → list < 2 * length h.edges
list_inside h list u v (ends, at, from, to) = let within = slice_get_within h.edges (list / 2) ends at in omega (arith, within)

-- the lower of both ranks is below all but one
pub list_room : (h : HierarchyValue) → IsHierarchy h → (list u v : ℕ) → IsListFrom h list u v → min u v + 2 < h.network.nodes + 1
list_room h f list u v (ends, at, from, to) =
    let range = ends_range h f (list / 2) ends at in
    let low = min_ends ends (dir_of list) range.0 in
    let same : min u v ≡ min (start_of ends (dir_of list)) (end_of ends (dir_of list)) = ap (λ (x : ℕ). min x v) from ∙ ap (λ (y : ℕ). min (start_of ends (dir_of list)) y) to in
    omega (arith, range.0, range.1, low, same)

-- a list leads from one rank to one rank
pub same_start : (h : HierarchyValue) (list u v x y : ℕ) → IsListFrom h list u v → IsListFrom h list x y → u ≡ x
same_start h list u v x y (ends, at, from, to) (other, there, start, stop) =
    let same : ends ≡ other = cc (at, there) in
    from ∙ ap (λ (e : Ends). start_of e (dir_of list)) same ∙ sym start

pub same_end : (h : HierarchyValue) (list u v x y : ℕ) → IsListFrom h list u v → IsListFrom h list x y → v ≡ y
same_end h list u v x y (ends, at, from, to) (other, there, start, stop) =
    let same : ends ≡ other = cc (at, there) in
    to ∙ ap (λ (e : Ends). end_of e (dir_of list)) same ∙ sym stop

-- the entries that are found by both ranks are the list's
pub list_entries : (h : HierarchyValue) → IsHierarchy h → (list u v : ℕ) → IsListFrom h list u v → list_from h u v ≡ list_of h (list / 2) (dir_of list)
list_entries h f list u v (ends, at, from, to) =
    ap (λ (x : ℕ). list_from h x v) from ∙ ap (λ (y : ℕ). list_from h (start_of ends (dir_of list)) y) to ∙ list_from-edge h f (list / 2) (dir_of list) ends at

-- those of an edge's list in a direction are the edge's in that direction
pub edge_entries : (h : HierarchyValue) → IsHierarchy h → (edge : ℕ) (dir : Dir) (u v : ℕ) → IsListFrom h (list_number edge dir) u v → list_from h u v ≡ list_of h edge dir
edge_entries h f edge dir u v is =
    list_entries h f (list_number edge dir) u v is ∙ ap (λ (e : ℕ). list_of h e (dir_of (list_number edge dir))) (number_edge edge dir) ∙ ap (list_of h edge) (number_dir edge dir)

-- where a way is in force there is one
pub way_some : (h : HierarchyValue) (u v t : ℕ) (taken : Way) → way_from h u v t ≡ Some taken → list_from h u v ≢ []
way_some h u v t taken e = some_list (list_from h u v) t taken e

-- the lower end of a list's edge is the lower of both ranks
pub list_low : (h : HierarchyValue) → IsHierarchy h → (list u v : ℕ) → IsListFrom h list u v → low_of_list h list ≡ min u v
list_low h f list u v (ends, at, from, to) =
    let range = ends_range h f (list / 2) ends at in
    let low = min_ends ends (dir_of list) range.0 in
    let same : min u v ≡ min (start_of ends (dir_of list)) (end_of ends (dir_of list)) = ap (λ (x : ℕ). min x v) from ∙ ap (λ (y : ℕ). min (start_of ends (dir_of list)) y) to in
    let here : low_of_list h list ≡ ends.low = ap low_of at in
    omega (arith, low, same, here)
