-- Bounds that are found anew edge by edge, by rising edge.
use Rattle.std.proofs.Common.{◌≡◌, ◌≢◌, ◌≤◌, ◌<◌, ◌+◌, ◌*◌, ◌∙◌, ℕ, List, Some, ap, arith, inl, inr, length, map, refl, subst, sym}
use Rattle.std.specs.Prelude.{Contains, slice_get, slice_index, slice_set}
use Rattle.std.specs.List.Sorted.{IsStrictlyIncreasing}
use Rattle.std.specs.Option.{option_map}
use Rattle.std.proofs.lemmas.Bool.{cases_eq, cases_lt}
use Rattle.std.proofs.lemmas.List.{get_or-set_other, get_or-set_same, length-map, length-set}
use Rattle.std.proofs.lemmas.List.Kept.{AllPairs-from_increasing}
use Rattle.std.proofs.lemmas.Option.{get_or_from_slice_get, slice_get-map, slice_get_within}
use Rattle.cu_model.proofs.ListLaws.{item_there}
use Rattle.cu_model.proofs.OptionLaws.{same_value}
use Rattle.cu_chordal.proofs.Members.{place_of}
use Rattle.cu_interval.specs.declared.ways.Dir.{Dir}
use Rattle.cu_interval.specs.declared.ways.Dir.TheVariants.{Up, Down}
use Rattle.cu_interval.specs.declared.ways.TouchedEdge.{TouchedEdge}
use Rattle.cu_interval.specs.Hierarchies.{HierarchyValue, list_number}
use Rattle.cu_interval.specs.LeastBounds.{least_bound}
use Rattle.cu_interval.proofs.EndsLaws.{number_parts, number_within}
use Rattle.cu_bounds.specs.KeptBounds.{AreRightBelow, AreRightBut, bounds_of}
use Rattle.cu_bounds.proofs.Turns.{first_all, right_more}

-- by rising edge
abbrev pub AreRising : List TouchedEdge → Type 0
AreRising touched = (i j : ℕ) (s t : TouchedEdge) → i < j → slice_get touched i ≡ Some s → slice_get touched j ≡ Some t → s.edge < t.edge

pub edges_rise : (touched : List TouchedEdge) → IsStrictlyIncreasing (map (λ (t : TouchedEdge). t.edge) touched) → AreRising touched
edges_rise touched rising i j s t less here there =
    let edges = map (λ (u : TouchedEdge). u.edge) touched in
    let edge : (k : ℕ) (u : TouchedEdge) → slice_get touched k ≡ Some u → slice_get edges k ≡ Some u.edge =
    λ k u at. slice_get-map (λ (w : TouchedEdge). w.edge) touched k ∙ ap (option_map (λ (w : TouchedEdge). w.edge)) at in
    let inside = slice_get_within edges j t.edge (edge j t there) in
    let below = AllPairs-from_increasing edges rising i j 0 less inside in
    omega (arith, below, get_or_from_slice_get edges i s.edge 0 (edge i s here), get_or_from_slice_get edges j t.edge 0 (edge j t there))

-- this edge is none of these from one on
abbrev pub IsNoneFrom : List TouchedEdge → ℕ → ℕ → Type 0
IsNoneFrom touched i edge = (k : ℕ) (t : TouchedEdge) → i ≤ k → slice_get touched k ≡ Some t → t.edge ≢ edge

-- all bounds are right but for those of these edges from one on
pub record AreRenewed (h : HierarchyValue) (touched : List TouchedEdge) (i : ℕ) (bounds : List ℕ) : Type 0 where
  pub long : length bounds ≡ 2 * length h.edges
  pub right : (edge : ℕ) (dir : Dir) → edge < length h.edges → IsNoneFrom touched i edge → slice_index bounds (list_number edge dir) ≡ least_bound h edge dir

pub lower_edge : (e f : ℕ) (d : Dir) → list_number e d < list_number f Up → e < f
lower_edge e f Up lt = omega (arith, lt)
lower_edge e f Down lt = omega (arith, lt)

-- an edge that is none of these isn't among their numbers
pub none_among : (touched : List TouchedEdge) (edge : ℕ) → IsNoneFrom touched 0 edge → Contains (map (λ (t : TouchedEdge). t.edge) touched) edge → ⊥
none_among touched edge none among =
    let number : TouchedEdge → ℕ = λ t. t.edge in
    let (k, at) = place_of (map number touched) edge among in
    let lt = slice_get_within (map number touched) k edge at in
    let (t, there) = item_there touched k (omega (arith, lt, length-map touched number)) in
    let same : Some t.edge ≡ Some edge = sym (ap (option_map number) there) ∙ sym (slice_get-map number touched k) ∙ at in
    none k t (omega arith) there (cc same)

-- behind the last of these there is none
pub none_left : (touched : List TouchedEdge) (i edge : ℕ) → length touched ≤ i → IsNoneFrom touched i edge
none_left touched i edge all k t le there = absurd (let within = slice_get_within touched k t there in omega (arith, within, all, le))

-- an edge that is neither the next of these nor one behind it is none of both
pub none_more : (touched : List TouchedEdge) (i : ℕ) (t : TouchedEdge) → slice_get touched i ≡ Some t → (edge : ℕ) → edge ≢ t.edge → IsNoneFrom touched (i + 1) edge
    → IsNoneFrom touched i edge
none_more touched i t at edge apart none k u le there = elim (cases_lt i k) [
  | inl behind ↦ none k u (omega (arith, behind)) there
  | inr here ↦
      let place : k ≡ i = omega (arith, le, here) in
      let one : u ≡ t = same_value (slice_get touched k) u t there (ap (slice_get touched) place ∙ at) in
      λ is. apart (sym is ∙ ap (λ (w : TouchedEdge). w.edge) one)
]

pub renewed_none : (h : HierarchyValue) (touched : List TouchedEdge) (bounds : List ℕ) → length bounds ≡ 2 * length h.edges
    → AreRightBut h (slice_index bounds) (map (λ (t : TouchedEdge). t.edge) touched) → AreRenewed h touched 0 bounds
renewed_none h touched bounds long kept = record {
  long = long;
  right = λ edge dir inside none. kept edge dir inside (none_among touched edge none);
}

module _ (touched : List TouchedEdge) (rising : AreRising touched) (i : ℕ) (t : TouchedEdge) (at : slice_get touched i ≡ Some t) where
  -- no edge below the next one is left
  pub none_below : (e : ℕ) → e < t.edge → IsNoneFrom touched i e
  none_below e lt k u le there same =
      elim (cases_lt i k) [
        | inl before ↦ let less = rising i k t u before at there in omega (arith, lt, less, same)
        | inr here ↦
            let place : k ≡ i = omega (arith, le, here) in
            let one : u ≡ t = same_value (slice_get touched k) u t there (ap (slice_get touched) place ∙ at) in
            let edge = ap (λ (w : TouchedEdge). w.edge) one in
            omega (arith, lt, same, edge)
      ]

-- so all lists before those of the next edge have their bounds
pub right_before : (h : HierarchyValue) (touched : List TouchedEdge) → AreRising touched → (i : ℕ) (t : TouchedEdge) → slice_get touched i ≡ Some t
    → (bounds : List ℕ) → AreRenewed h touched i bounds → AreRightBelow h (slice_index bounds) (list_number t.edge Up)
right_before h touched rising i t at bounds renewed e d inside lt = renewed.right e d inside (none_below touched rising i t at e (lower_edge e t.edge d lt))

-- one more bound is found anew
pub right_set : (h : HierarchyValue) (old new : List ℕ) (edge : ℕ) (dir : Dir) → edge < length h.edges → length old ≡ 2 * length h.edges
    → new ≡ slice_set old (list_number edge dir) (least_bound h edge dir) → AreRightBelow h (slice_index old) (list_number edge dir)
    → AreRightBelow h (slice_index new) (list_number edge dir + 1)
right_set h old new edge dir inside long is right =
    let number = list_number edge dir in
    let within : number < 2 * length h.edges = number_within edge (length h.edges) dir inside in
    let before : AreRightBelow h (slice_index new) number =
    λ e d there lt. ap (λ (xs : List ℕ). slice_index xs (list_number e d)) is
    ∙ get_or-set_other old number (list_number e d) (least_bound h edge dir) 0 (λ same. omega (arith, lt, same)) ∙ right e d there lt in
    let here = ap (λ (xs : List ℕ). slice_index xs number) is ∙ get_or-set_same old number (least_bound h edge dir) 0 (omega (arith, within, long)) in
    right_more h (slice_index new) edge dir before here

-- both of an edge
pub record AreBothSet (h : HierarchyValue) (old new : List ℕ) (edge : ℕ) : Type 0 where
  pub middle : List ℕ
  pub up : middle ≡ slice_set old (list_number edge Up) (least_bound h edge Up)
  pub down : new ≡ slice_set middle (list_number edge Down) (least_bound h edge Down)

module _ (h : HierarchyValue) (old new : List ℕ) (edge : ℕ) (set : AreBothSet h old new edge) where
  set_long : length new ≡ length old
  set_long =
      ap length set.down ∙ length-set set.middle (list_number edge Down) (least_bound h edge Down)
      ∙ ap length set.up ∙ length-set old (list_number edge Up) (least_bound h edge Up)

  set_other : (number : ℕ) → number ≢ list_number edge Up → number ≢ list_number edge Down → slice_index new number ≡ slice_index old number
  set_other number up down =
      ap (λ (xs : List ℕ). slice_index xs number) set.down ∙ get_or-set_other set.middle (list_number edge Down) number (least_bound h edge Down) 0 down
      ∙ ap (λ (xs : List ℕ). slice_index xs number) set.up ∙ get_or-set_other old (list_number edge Up) number (least_bound h edge Up) 0 up

  set_here : (dir : Dir) → 2 * edge + 1 < length old → slice_index new (list_number edge dir) ≡ least_bound h edge dir
  set_here Up lt =
      ap (λ (xs : List ℕ). slice_index xs (2 * edge)) set.down
      ∙ get_or-set_other set.middle (list_number edge Down) (2 * edge) (least_bound h edge Down) 0 (λ same. omega (arith, same))
      ∙ ap (λ (xs : List ℕ). slice_index xs (2 * edge)) set.up ∙ get_or-set_same old (2 * edge) (least_bound h edge Up) 0 (omega (arith, lt))
  set_here Down lt =
      let long = ap length set.up ∙ length-set old (list_number edge Up) (least_bound h edge Up) in
      ap (λ (xs : List ℕ). slice_index xs (2 * edge + 1)) set.down ∙ get_or-set_same set.middle (2 * edge + 1) (least_bound h edge Down) 0 (omega (arith, lt, long))

pub numbers_apart : (e f : ℕ) (d k : Dir) → e ≢ f → list_number e d ≢ list_number f k
numbers_apart e f d k apart same = apart (number_parts e f d k same).0

-- one more edge
pub renewed_more : (h : HierarchyValue) (touched : List TouchedEdge) (i : ℕ) (t : TouchedEdge) (old new : List ℕ) → slice_get touched i ≡ Some t
    → t.edge < length h.edges → AreBothSet h old new t.edge → AreRenewed h touched i old → AreRenewed h touched (i + 1) new
renewed_more h touched i t old new at inside set renewed =
    let long = renewed.long in record {
      long = set_long h old new t.edge set ∙ long;
      right = λ edge dir lt none. elim (cases_eq edge t.edge) [
        | inl same ↦
            let here = set_here h old new t.edge set dir (omega (arith, inside, long)) in
            subst (λ (e : ℕ). slice_index new (list_number e dir) ≡ least_bound h e dir) (sym same) here
        | inr apart ↦
            set_other h old new t.edge set (list_number edge dir) (numbers_apart edge t.edge dir Up apart) (numbers_apart edge t.edge dir Down apart)
            ∙ renewed.right edge dir lt (none_more touched i t at edge apart none)
      ];
    }

-- all of them
pub renewed_all : (h : HierarchyValue) (touched : List TouchedEdge) (i : ℕ) (bounds : List ℕ) → length touched ≤ i → AreRenewed h touched i bounds → bounds ≡ bounds_of h
renewed_all h touched i bounds all renewed =
    first_all h bounds (2 * length h.edges) refl (record { long = renewed.long; right = λ e d inside lt. renewed.right e d inside (none_left touched i e all) })

-- all bounds are right but for those of these edges from one on, and a finder of halves has come no further than to any of these
pub record IsRenewing (h : HierarchyValue) (touched : List TouchedEdge) (i : ℕ) (bounds : List ℕ) (known : HierarchyValue) (reached : ℕ) : Type 0 where
  pub renewed : AreRenewed h touched i bounds
  pub same : known ≡ h
  pub turn : (k : ℕ) (t : TouchedEdge) → i ≤ k → slice_get touched k ≡ Some t → reached ≤ t.edge

-- so it is behind one of them
pub turn_behind : (touched : List TouchedEdge) → AreRising touched → (i : ℕ) (t : TouchedEdge) → slice_get touched i ≡ Some t → (reached : ℕ) → reached ≤ t.edge
    → (k : ℕ) (u : TouchedEdge) → i + 1 ≤ k → slice_get touched k ≡ Some u → reached ≤ u.edge
turn_behind touched rising i t at reached turn k u le there = let less = rising i k t u (omega (arith, le)) at there in omega (arith, less, turn)
