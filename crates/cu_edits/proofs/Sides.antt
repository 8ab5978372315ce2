-- The lists between two ranks and the lower sides of an edge's triangles.
use Rattle.std.proofs.Common.{◌≡◌, ◌≢◌, ◌<◌, ◌∙◌, ℕ, Bool, List, [], Option, Some, None, refl, ap, sym, subst, arith, inl, inr, ltb, true, false, if◌then◌else◌}
use Rattle.std.specs.Prelude.{slice_get}
use Rattle.cu_model.specs.declared.roads.Edit.{Edit}
use Rattle.cu_chordal.specs.declared.graph.Ends.{Ends}
use Rattle.cu_chordal.specs.Graphs.{HasEdge, IsRising}
use Rattle.cu_chordal.proofs.Members.{member_at, place_of}
use Rattle.cu_interval.specs.declared.ways.Dir.{Dir}
use Rattle.cu_interval.specs.declared.ways.Dir.TheVariants.{Up, Down}
use Rattle.cu_interval.specs.Hierarchies.{HierarchyValue, IsHierarchy, end_of, list_from, list_of, list_of_some, number_from, start_of}
use Rattle.cu_interval.proofs.Lookups.{number_finds, number_found}
use Rattle.cu_interval.proofs.EndsLaws.{ends_rise}
use Rattle.cu_edits.specs.Settling.{IsLowerSide}
use Rattle.cu_edits.specs.Steps.Frames.{LeadsOver, PairOf}
use Rattle.cu_resettled.specs.ResettlingAll.{IsTouchedBySome, IsTouchedEdgeBySome}
use Rattle.cu_resettled.proofs.TouchedBySome.{covered}

pub over : (edges : List Ends) (edge : ℕ) (dir : Dir) (ends : Ends) → slice_get edges edge ≡ Some ends → LeadsOver edges edge dir (start_of ends dir) (end_of ends dir)
over edges edge dir ends at = record { ends = ends; at = at; from = refl; to = refl }

-- the list that leads from one end of an edge to the other is the edge's, in whatever has these edges
list_at_ends : (h : HierarchyValue) → IsRising h.edges → (edge : ℕ) (dir : Dir) (ends : Ends) → ends.low < ends.high → slice_get h.edges edge ≡ Some ends
    → list_from h (start_of ends dir) (end_of ends dir) ≡ list_of h edge dir
list_at_ends h rising edge Up ends less e =
    let lt : ltb ends.low ends.high ≡ true = grind (arith, less) in
    let at : number_from 0 h.edges ends.low ends.high ≡ Some edge = number_finds h.edges rising ends.low ends.high (Some edge) e in
    rw (lt, at) refl
list_at_ends h rising edge Down ends less e =
    let ge : ltb ends.high ends.low ≡ false = grind (arith, less) in
    let at : number_from 0 h.edges ends.low ends.high ≡ Some edge = number_finds h.edges rising ends.low ends.high (Some edge) e in
    rw (ge, at) refl

pub list_at : (before h : HierarchyValue) → IsHierarchy before → h.edges ≡ before.edges → (edge : ℕ) (dir : Dir) (u v : ℕ) → LeadsOver before.edges edge dir u v
    → list_from h u v ≡ list_of h edge dir
list_at before h sound same edge dir u v leads =
    let rising : IsRising h.edges = subst IsRising (sym same) sound.graph.rising in
    let at : slice_get h.edges edge ≡ Some leads.ends = ap (λ (es : List Ends). slice_get es edge) same ∙ leads.at in
    subst (λ (x : ℕ). list_from h x v ≡ list_of h edge dir) leads.from
    (subst (λ (y : ℕ). list_from h (start_of leads.ends dir) y ≡ list_of h edge dir) leads.to
    (list_at_ends h rising edge dir leads.ends (ends_rise before sound edge leads.ends leads.at) at))

-- where a list isn't empty there is an edge
found_edge : (h : HierarchyValue) (low high : ℕ) (dir : Dir) (found : Option ℕ) → number_from 0 h.edges low high ≡ found → list_of_some h found dir ≢ [] → HasEdge h.edges low high
found_edge h low high dir None e some = absurd (some refl)
found_edge h low high dir (Some edge) e some =
    let (j, is, at) = number_found 0 h.edges low high edge e in
    member_at h.edges (record { low = low; high = high }) j at

pub edge_up : (h : HierarchyValue) (m v : ℕ) → m < v → list_from h m v ≢ [] → HasEdge h.edges m v
edge_up h m v less some =
    let lt : ltb m v ≡ true = grind (arith, less) in
    found_edge h m v Up (number_from 0 h.edges m v) refl
    (subst (λ (b : Bool). (if b then list_of_some h (number_from 0 h.edges m v) Up else list_of_some h (number_from 0 h.edges v m) Down) ≢ []) lt some)

pub edge_down : (h : HierarchyValue) (u m : ℕ) → m < u → list_from h u m ≢ [] → HasEdge h.edges m u
edge_down h u m less some =
    let ge : ltb u m ≡ false = grind (arith, less) in
    found_edge h m u Down (number_from 0 h.edges m u) refl
    (subst (λ (b : Bool). (if b then list_of_some h (number_from 0 h.edges u m) Up else list_of_some h (number_from 0 h.edges m u) Down) ≢ []) ge some)

-- the halves of a way by a rank joined to both ends are lower sides of the edge
pub record HasHalves (edges : List Ends) (edge u v m : ℕ) : Type 0 where
  pub first : ℕ
  pub second : ℕ
  pub to : slice_get edges first ≡ Some (record { low = m; high = u })
  pub on : slice_get edges second ≡ Some (record { low = m; high = v })
  pub first_side : IsLowerSide edges edge first
  pub second_side : IsLowerSide edges edge second

halves_of : (edges : List Ends) (edge : ℕ) (dir : Dir) (ends : Ends) (m : ℕ) → slice_get edges edge ≡ Some ends → HasEdge edges m (start_of ends dir) → HasEdge edges m (end_of ends dir)
    → HasHalves edges edge (start_of ends dir) (end_of ends dir) m
halves_of edges edge Up ends m at low high =
    let (i, first) = place_of edges (record { low = m; high = ends.low }) low in
    let (j, second) = place_of edges (record { low = m; high = ends.high }) high in
    record { first = i; second = j; to = first; on = second; first_side = (ends, m, at, low, high, inl first); second_side = (ends, m, at, low, high, inr second) }
halves_of edges edge Down ends m at high low =
    let (i, first) = place_of edges (record { low = m; high = ends.high }) high in
    let (j, second) = place_of edges (record { low = m; high = ends.low }) low in
    record { first = i; second = j; to = first; on = second; first_side = (ends, m, at, low, high, inr first); second_side = (ends, m, at, low, high, inl second) }

pub halves_at : (edges : List Ends) (edge : ℕ) (dir : Dir) (u v m : ℕ) → LeadsOver edges edge dir u v → HasEdge edges m u → HasEdge edges m v → HasHalves edges edge u v m
halves_at edges edge dir u v m leads to on =
    subst (λ (x : ℕ). HasHalves edges edge x v m) leads.from
    (subst (λ (y : ℕ). HasHalves edges edge (start_of leads.ends dir) y m) leads.to
    (halves_of edges edge dir leads.ends m leads.at (subst (λ (x : ℕ). HasEdge edges m x) (sym leads.from) to) (subst (λ (y : ℕ). HasEdge edges m y) (sym leads.to) on)))

-- so where all lower sides are such edges, both halves are such pairs
pub halves_good : (edges : List Ends) (Good : ℕ → Type 0) (edge : ℕ) (dir : Dir) (u v m : ℕ) → LeadsOver edges edge dir u v → ((side : ℕ) → IsLowerSide edges edge side → Good side)
    → HasEdge edges m u → HasEdge edges m v → PairOf edges Good u m × PairOf edges Good m v
halves_good edges Good edge dir u v m leads sides to on =
    let halves = halves_at edges edge dir u v m leads to on in (
      (halves.first, Down, over edges halves.first Down (record { low = m; high = u }) halves.to, sides halves.first halves.first_side),
      (halves.second, Up, over edges halves.second Up (record { low = m; high = v }) halves.on, sides halves.second halves.second_side),
    )

-- an edge with a touched lower side is touched
pub side_touched : (h : HierarchyValue) → IsHierarchy h → (edit : List Edit) (edge side : ℕ) → IsLowerSide h.edges edge side → IsTouchedEdgeBySome h edit side → IsTouchedEdgeBySome h edit edge
side_touched h sound edit edge side (ends, m, at, low, high, which) (given, there, touched) =
    let (below, first) = (sound.edges.exact m ends.low).0 low in
    let (lower, second) = (sound.edges.exact m ends.high).0 high in
    let rise = ends_rise h sound edge ends at in (
      ends,
      at,
      elim which [
        | inl to_low ↦
            let is : given ≡ record { low = m; high = ends.low } = cc (there, to_low) in
            (covered h.network h.order edit).first m ends.low ends.high (subst (λ (x : Ends). IsTouchedBySome h.network h.order edit x.low x.high) is touched) below rise first second
        | inr to_high ↦
            let is : given ≡ record { low = m; high = ends.high } = cc (there, to_high) in
            (covered h.network h.order edit).second m ends.low ends.high (subst (λ (x : Ends). IsTouchedBySome h.network h.order edit x.low x.high) is touched) below rise first second
      ],
    )
