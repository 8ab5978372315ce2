-- What a list's entry in force says of its walks.
use Rattle.std.proofs.Common.{◌≡◌, ◌<◌, ◌+◌, ◌-◌, ◌*◌, ◌/◌, ◌∙◌, ◌↔◌, ℕ, List, [], Option, None, Some, refl, sym, ap, subst, arith, length}
use Rattle.std.specs.Prelude.{IfSome, IsSome, slice_get}
use Rattle.cu_chordal.specs.declared.graph.Ends.{Ends}
use Rattle.cu_chordal.specs.Graphs.{ChordalValue, HasEdge, IsChordal}
use Rattle.cu_chordal.proofs.Members.{place_of}
use Rattle.cu_chordal.proofs.Tables.{edge_within}
use Rattle.cu_interval.specs.declared.ways.Dir.{Dir}
use Rattle.cu_interval.specs.declared.ways.Dir.TheVariants.{Up, Down}
use Rattle.cu_interval.specs.declared.ways.Entry.{Entry}
use Rattle.cu_interval.specs.declared.ways.Way.{Way}
use Rattle.cu_interval.specs.declared.ways.Way.TheVariants as way
use Rattle.cu_interval.specs.WayLists.{way_at}
use Rattle.cu_interval.specs.Hierarchies.{HierarchyValue, IsHierarchy, start_of, end_of, list_from, list_of, way_from}
use Rattle.cu_interval.specs.Shortcuts.{AreHalfEdges, IsMiddle}
use Rattle.cu_interval.proofs.Lookups.{well_formed}
use Rattle.cu_model.proofs.RoadLaws.{leads_within}
use Rattle.cu_model.proofs.OptionLaws.{same_value}
use Rattle.cu_pack.specs.declared.way_slices.in_force.WayInForce.{WayInForce}
use Rattle.cu_pack.specs.InForce.{FindsWayInForce}
use Rattle.cu_recall.specs.declared.pending.Asked.{Asked}
use Rattle.cu_recall.specs.declared.spans.Driven.{Driven}
use Rattle.cu_recall.specs.declared.spans.Met.{Met}
use Rattle.cu_recall.specs.declared.spans.Parts.{Parts}
use Rattle.cu_recall.specs.declared.spans.Parts.TheVariants as part
use Rattle.cu_recall.specs.declared.spans.Row.{Row}
use Rattle.cu_recall.specs.Spans.{AreHalvesAt, HasMoment, HasWayOver, HoldsMet, HoldsParts, IsListFrom, Knows, dir_of, met_of}
use Rattle.cu_recall.specs.Windows.{HoldsDriven}
use Rattle.cu_recall.specs.Steps.Drives.{DrivesRoad}
use Rattle.cu_recall.specs.Steps.Looks.{HoldsParted, HoldsPartsOf, IsAsked, IsMetAt}
use Rattle.cu_recall.proofs.RoadDrives.{road_driven}
use Rattle.cu_recall.proofs.ListEnds.{list_entries, list_inside, list_of_edge}

pub asked_inside : (h : HierarchyValue) (asked : Asked) → IsAsked h asked → asked.list < 2 * length h.edges
asked_inside h asked (u, v, is, some, lt) = list_inside h asked.list u v is

module _ (h : HierarchyValue) (f : IsHierarchy h) where
  -- the way that the list's entry in force has is that between its ranks
  pub way_over : (asked : Asked) (dir : Dir) (entries : List Entry) (found : WayInForce) (taken : Way)
      → entries ≡ list_of h (asked.list / 2) dir → dir ≡ dir_of asked.list → FindsWayInForce entries asked.second (Some found) → found.way ≡ taken
      → (u v : ℕ) → IsListFrom h asked.list u v → HasWayOver h u v found.from found.until taken
  way_over asked dir entries found taken e d force same u v is t low high =
      let lists : list_from h u v ≡ entries = list_entries h f asked.list u v is ∙ ap (list_of h (asked.list / 2)) (sym d) ∙ sym e in
      ap (λ (es : List Entry). way_at es t) lists ∙ force.1 t low high ∙ ap Some same

  -- a list that is asked has entries
  pub asked_some : (asked : Asked) (dir : Dir) (entries : List Entry) → IsAsked h asked → entries ≡ list_of h (asked.list / 2) dir → dir ≡ dir_of asked.list
      → entries ≡ [] → ⊥
  asked_some asked dir entries (u, v, is, some, lt) e d none = some (list_entries h f asked.list u v is ∙ ap (list_of h (asked.list / 2)) (sym d) ∙ sym e ∙ none)

  -- its middle is joined to both ranks
  pub middle_there : (asked : Asked) (dir : Dir) (m t : ℕ) → IsAsked h asked → dir ≡ dir_of asked.list
      → ((u v : ℕ) → IsListFrom h asked.list u v → way_from h u v t ≡ Some (way.Via m)) → IsMiddle h (asked.list / 2) dir m
  middle_there asked dir m t (u, v, is, some, lt) d taken =
      let (ends, at, from, to) = is in
      let w = well_formed h f u v t (way.Via m) (taken u v is) in (
        ends,
        at,
        subst (λ (x : ℕ). HasEdge h.edges m x) (from ∙ ap (start_of ends) (sym d)) w.2,
        subst (λ (x : ℕ). HasEdge h.edges m x) (to ∙ ap (end_of ends) (sym d)) w.3,
      )

pub parts_over : (h : HierarchyValue) (list : ℕ) (dir : Dir) (m : ℕ) (parts : Parts) (u v from until : ℕ) → HoldsPartsOf h (list / 2) dir m parts → dir ≡ dir_of list
    → IsListFrom h list u v → HasWayOver h u v from until (way.Via m) → HoldsParts h u v from until parts
parts_over h list dir m (part.Road road) u v from until parts d is taken = absurd parts
parts_over h list dir m (part.Halves first second) u v from until parts d (ends, at, start, stop) taken =
    let both = parts ends at in
    let u_is : start_of ends dir ≡ u = ap (start_of ends) d ∙ sym start in
    let v_is : end_of ends dir ≡ v = ap (end_of ends) d ∙ sym stop in
    (m, subst (λ (y : ℕ). AreHalvesAt h u y first second m) v_is (subst (λ (x : ℕ). AreHalvesAt h x (end_of ends dir) first second m) u_is both), taken)

-- a middle is a rank
pub middle_rank : (graph : ChordalValue) → IsChordal graph → (h : HierarchyValue) → h.edges ≡ graph.edges → (edge : ℕ) (dir : Dir) (m : ℕ)
    → IsMiddle h edge dir m → m < graph.ranks
middle_rank graph sound h same edge dir m (ends, at, to, on) =
    let range = edge_within graph sound m (start_of ends dir) (subst (λ (edges : List Ends). HasEdge edges m (start_of ends dir)) same to) in
    omega (arith, range.0, range.1)

-- and its halves are there
pub middle_halves : (edges : List Ends) (h : HierarchyValue) → h.edges ≡ edges → (edge : ℕ) (dir : Dir) (m : ℕ) (ends : Ends)
    → IsMiddle h edge dir m → slice_get edges edge ≡ Some ends → (first second : ℕ) × AreHalfEdges edges ends dir m first second
middle_halves edges h same edge dir m ends (other, there, to, on) at =
    let is : other ≡ ends = same_value (slice_get edges edge) other ends (ap (λ (es : List Ends). slice_get es edge) (sym same) ∙ there) at in
    let low : HasEdge edges m (start_of ends dir) =
    subst (λ (e : Ends). HasEdge edges m (start_of e dir)) is (subst (λ (es : List Ends). HasEdge es m (start_of other dir)) same to) in
    let high : HasEdge edges m (end_of ends dir) =
    subst (λ (e : Ends). HasEdge edges m (end_of e dir)) is (subst (λ (es : List Ends). HasEdge es m (end_of other dir)) same on) in
    let (first, first_at) = place_of edges (record { low = m; high = start_of ends dir }) low in
    let (second, second_at) = place_of edges (record { low = m; high = end_of ends dir }) high in
    (first, second, record { to = first_at; on = second_at })

-- by the numbers of their lists
pub halves_at : (h : HierarchyValue) (edge m first second : ℕ) (dir : Dir) (ends : Ends) → slice_get h.edges edge ≡ Some ends
    → AreHalfEdges h.edges ends dir m first second → HoldsPartsOf h edge dir m (part.Halves (2 * first + 1) (2 * second))
halves_at h edge m first second dir ends at found = λ other there.
    let same : ends ≡ other = same_value (slice_get h.edges edge) ends other at there in
    let low = list_of_edge h first Down (record { low = m; high = start_of ends dir }) found.to in
    let high = list_of_edge h second Up (record { low = m; high = end_of ends dir }) found.on in (
      subst (λ (e : Ends). IsListFrom h (2 * first + 1) (start_of e dir) m) same low,
      subst (λ (e : Ends). IsListFrom h (2 * second) m (end_of e dir)) same high,
    )

-- the road of an entry in force is one
pub met_road : (h : HierarchyValue) → IsHierarchy h → (asked : Asked) (met : Met) (road : ℕ) → IsAsked h asked → IsMetAt h asked met → met.parts ≡ part.Road road
    → (road < length h.network.arcs) × ((u v : ℕ) → IsListFrom h asked.list u v → HasWayOver h u v met.from met.until (way.Road road))
met_road h f asked met road (u, v, is, some, lt) (holds, low, high) parts =
    let each : (x y : ℕ) → IsListFrom h asked.list x y → HasWayOver h x y met.from met.until (way.Road road) =
    λ x y at. subst (λ (p : Parts). HoldsParts h x y met.from met.until p) parts (holds.1 x y at (omega (arith, low, high))) in
    let l = well_formed h f u v asked.second (way.Road road) (each u v is asked.second low high) in
    (leads_within h.network road l.0 l.1 l.2, each)

-- and what driving it takes is what driving the list does
pub met_driven : (h : HierarchyValue) → IsHierarchy h → (asked : Asked) (met : Met) (road : ℕ) (driven : Driven) → IsAsked h asked → IsMetAt h asked met → met.parts ≡ part.Road road
    → DrivesRoad h.network road asked.second (asked.second - met.from) (met.until - asked.second) driven → HoldsDriven h asked.list asked.second driven
met_driven h f asked met road driven is_asked is_met parts drives u v is =
    let each = (met_road h f asked met road is_asked is_met parts).1 in
    let first = is_met.1 in
    let last = is_met.2 in
    road_driven h f u v road asked.second (asked.second - met.from) (met.until - asked.second) driven drives
    (λ t near. let low = near.0 in let high = near.1 in each u v is t (omega (arith, low, first)) (omega (arith, high, last)))

-- the halves of an entry in force, near the second
pub met_parted : (h : HierarchyValue) (asked : Asked) (met : Met) (first second : ℕ) → IsMetAt h asked met → met.parts ≡ part.Halves first second
    → HoldsParted h asked (record { back = asked.second - met.from; ahead = met.until - asked.second; first = first; rest = second })
met_parted h asked met first second (holds, low, high) parts =
    let until = holds.0 in (
      (omega arith, omega (arith, high), omega (arith, high, until)),
      λ u v is.
          let (m, both, taken) = subst (λ (p : Parts). HoldsParts h u v met.from met.until p) parts (holds.1 u v is (omega (arith, low, high))) in
          (m, both, λ t near. let behind = near.0 in let before = near.1 in taken t (omega (arith, behind, low)) (omega (arith, before, high))),
    )

-- the entry that a row keeps is the list's, where it has the second
pub met_kept : (h : HierarchyValue) (rows : List Row) (asked : Asked) (row : Row) → slice_get rows asked.list ≡ Some row → Knows h rows → (found : Option Met)
    → (IsSome found ↔ HasMoment (met_of row.met) asked.second) → IfSome found (λ (met : Met). met ≡ met_of row.met) → IfSome found (λ (met : Met). IsMetAt h asked met)
met_kept h rows asked row at knows None there same = same
met_kept h rows asked row at knows (Some met) there same =
    let back = sym same in
    let moment = subst (λ (m : Met). HasMoment m asked.second) back (there.0 refl) in
    (subst (HoldsMet h asked.list) back (knows asked.list row at).met, moment.0, moment.1)
