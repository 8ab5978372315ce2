-- A built hierarchy that is resettled by edits at once is the built one of the network that they leave.
use Rattle.std.proofs.Common.{◌≡◌, ◌≢◌, ◌<◌, ◌∙◌, ℕ, zero, suc, List, [], ◌∷◌, Some, refl, sym, ap, subst, arith, inl, inr, min}
use Rattle.std.specs.Prelude.{slice_get}
use Rattle.std.proofs.lemmas.Bool.{cases_lt}
use Rattle.std.proofs.lemmas.Option.{same_Some}
use Rattle.cu_model.specs.declared.roads.Edit.{Edit}
use Rattle.cu_model.specs.Edits.{IsEditInRange}
use Rattle.cu_model.specs.Networks.{NetworkValue}
use Rattle.cu_model.specs.Orders.{OrderValue}
use Rattle.cu_model.specs.Roads.{drive}
use Rattle.cu_model.proofs.RoadLaws.{all_at}
use Rattle.cu_chordal.specs.declared.graph.Ends.{Ends}
use Rattle.cu_chordal.specs.Edges.{IsEdge, LinksRanks, ListsEdges}
use Rattle.cu_chordal.specs.Graphs.{HasEdge}
use Rattle.cu_chordal.proofs.Members.{place_of}
use Rattle.cu_interval.specs.declared.ways.Dir.{Dir}
use Rattle.cu_interval.specs.declared.ways.Dir.TheVariants.{Up, Down}
use Rattle.cu_interval.specs.declared.ways.Entry.{Entry}
use Rattle.cu_interval.specs.FirstWays.{IsBuiltList}
use Rattle.cu_interval.specs.Hierarchies.{HierarchyValue, IsBuilt, IsHierarchy, end_of, list_from, list_of, start_of}
use Rattle.cu_interval.specs.Low.{HasLowWalk}
use Rattle.cu_interval.specs.Resettling.{IsResettled}
use Rattle.cu_resettled.specs.ResettlingAll.{IsResettledAll, IsTouchedBySome, edited_all}
use Rattle.cu_interval.specs.Unpacking.{unpacked_walk}
use Rattle.cu_interval.proofs.BuiltWalks.{built_least}
use Rattle.cu_interval.proofs.Lookups.{list_from-edge}
use Rattle.cu_interval.proofs.EndsLaws.{ends_apart}
use Rattle.cu_interval.proofs.LowLists.{HasLeastBelow, low_edge, low_edge_back}
use Rattle.cu_resettled.proofs.ResettledLows.{KeepsLow, KeepsWays, built_kept, lows_kept}
use Rattle.cu_resettled.proofs.ResettledPairs.{IsTouchedPair, edge_of_pair, pair_of_edge, road_off, sides_off}
use Rattle.cu_resettled.proofs.ResettledRoads.{same_back}
use Rattle.cu_resettled.proofs.ResettledValues.{IsRebuilt, built_rebuilt, has_least_below, resettled_list_built}
use Rattle.cu_resettled.proofs.TouchedBySome.{all_links_kept, all_of_one, covered}

-- the edge under a low walk
walk_edge : (g : NetworkValue) (o : OrderValue) (edges : List Ends) → ListsEdges g o edges → (u v : ℕ) → HasLowWalk g o u v
    → (edge : ℕ) × (dir : Dir) × (ends : Ends) × (slice_get edges edge ≡ Some ends) × (start_of ends dir ≡ u) × (end_of ends dir ≡ v)
walk_edge g o edges listed u v walk =
    elim (cases_lt u v) [
      | inl lt ↦
          let (edge, at) = place_of edges (record { low = u; high = v }) (low_edge g o edges listed u v walk lt) in
          (edge, Up, record { low = u; high = v }, at, refl, refl)
      | inr ge ↦
          let apart = walk.1.0 in
          let (edge, at) = place_of edges (record { low = v; high = u }) (low_edge_back g o edges listed u v walk (omega (arith, ge, apart))) in
          (edge, Down, record { low = v; high = u }, at, refl, refl)
    ]

-- the list of an edge that isn't touched is kept
pub kept_list : (old new : HierarchyValue) (edits : List Edit) → IsResettledAll old edits new → (edge : ℕ) (dir : Dir) (ends : Ends)
    → slice_get old.edges edge ≡ Some ends
    → (IsTouchedBySome old.network old.order edits ends.low ends.high → ⊥) → list_of new edge dir ≡ list_of old edge dir
kept_list old new edits settled edge dir ends at off =
    settled.kept edge dir (λ t.
    let same : t.0 ≡ ends = same_Some t.0 ends (sym t.1 ∙ at) in
    off (subst (λ (x : Ends). IsTouchedBySome old.network old.order edits x.low x.high) same t.2))

keeps_if : (g h : NetworkValue) (o : OrderValue) (u v : ℕ) → (HasLowWalk g o u v → KeepsLow g h o u v) → KeepsLow g h o u v
keeps_if g h o u v keeps = record {
  walks = λ walk. (keeps walk).walks walk;
  drives = λ t a least. let (w, l, e) = least.reached in (keeps (w, l)).drives t a least;
}

-- the edits keep the low walks from u to v and their least drives, and bring no others
abbrev pub KeepsBoth : HierarchyValue → List Edit → ℕ → ℕ → Type 0
KeepsBoth old edits u v = KeepsLow old.network (edited_all old.network edits) old.order u v × KeepsLow (edited_all old.network edits) old.network old.order u v

-- the hierarchy with its network edited and these lists
abbrev pub after : HierarchyValue → List Edit → List (List Entry) → HierarchyValue
after old edits lists = record old { network = edited_all old.network edits; lists = lists }

-- two ranks of the hierarchy after edits: their rebuilt value is right, and where they aren't touched their low walks keep their drives
pub record IsSettledPair (old : HierarchyValue) (edits : List Edit) (lists : List (List Entry)) (u v : ℕ) : Type 0 where
  pub right : IsRebuilt (after old edits lists) u v
  pub kept : (IsTouchedPair old.network old.order edits u v → ⊥) → KeepsBoth old edits u v

abbrev pub AreSettledBelow : HierarchyValue → List Edit → List (List Entry) → ℕ → Type 0
AreSettledBelow old edits lists m = (x y : ℕ) → min x y < m → IsSettledPair old edits lists x y

module _ (old : HierarchyValue) (edits : List Edit) (lists : List (List Entry)) (built : IsBuilt old) (sound : IsHierarchy (after old edits lists))
    (settled : IsResettledAll old edits (after old edits lists)) where
  edge_there : (x y : ℕ) → HasEdge old.edges x y → IsEdge old.network old.order x y
  edge_there x y has = ((built.sound.edges.exact x y).0 has).1

  -- the halves of ways between two ranks that aren't touched keep their drives, where both have a low walk in one of the networks
  halves_kept : (g : NetworkValue) → ListsEdges g old.order old.edges → (u v : ℕ) → u ≢ v → AreSettledBelow old edits lists (min u v)
      → (IsTouchedPair old.network old.order edits u v → ⊥)
      → (m : ℕ) → m < u → m < v → HasLowWalk g old.order u m → HasLowWalk g old.order m v
      → KeepsBoth old edits u m × KeepsBoth old edits m v
  halves_kept g listed u v apart lower off m mu mv one two =
      let first = edge_there m u (low_edge_back g old.order old.edges listed u m one mu) in
      let second = edge_there m v (low_edge g old.order old.edges listed m v two mv) in
      let none = sides_off old.network old.order edits m u v apart mu mv first second off in
      ((lower u m (omega (arith, mu, mv))).kept none.0, (lower m v (omega (arith, mu, mv))).kept none.1)

  ways_there : (u v : ℕ) → u ≢ v → AreSettledBelow old edits lists (min u v) → (IsTouchedPair old.network old.order edits u v → ⊥)
      → KeepsWays old.network (edited_all old.network edits) old.order u v
  ways_there u v apart lower off = record {
    roads = λ a leads.
        let links : LinksRanks old.network old.order a u v = (leads.0, leads.1, leads.2.0, leads.3, leads.4) in
        road_off old.network old.order edits a u v apart links off;
    halves = λ m mu mv one two. let (first, second) = halves_kept old.network built.sound.edges u v apart lower off m mu mv one two in (first.0, second.0);
  }

  ways_back : (u v : ℕ) → u ≢ v → AreSettledBelow old edits lists (min u v) → (IsTouchedPair old.network old.order edits u v → ⊥)
      → KeepsWays (edited_all old.network edits) old.network old.order u v
  ways_back u v apart lower off = record {
    roads = λ a leads.
        let links : LinksRanks old.network old.order a u v = (leads.0, leads.1, all_links_kept old.network edits a leads.0 leads.1 leads.2.0, leads.3, leads.4) in
        same_back old.network (edited_all old.network edits) a
        (road_off old.network old.order edits a u v apart links off);
    halves = λ m mu mv one two. let (first, second) = halves_kept (edited_all old.network edits) sound.edges u v apart lower off m mu mv one two in
        (first.1, second.1);
  }

  rises : (edge : ℕ) (ends : Ends) → slice_get old.edges edge ≡ Some ends → ends.low < ends.high
  rises edge ends at = (all_at (λ (x : Ends). (x.low < x.high) × (x.high < old.network.nodes)) old.edges edge ends built.sound.graph.in_range at).0

  -- a list that is kept was built in the old network
  kept_built : (edge : ℕ) (dir : Dir) (ends : Ends) → slice_get old.edges edge ≡ Some ends → (IsTouchedBySome old.network old.order edits ends.low ends.high → ⊥)
      → IsBuiltList old.network old.order (start_of ends dir) (end_of ends dir) (list_of (after old edits lists) edge dir)
  kept_built edge dir ends at off =
      subst (IsBuiltList old.network old.order (start_of ends dir) (end_of ends dir))
      (sym (kept_list old (after old edits lists) edits settled edge dir ends at off)) (built.built edge dir ends at)

  -- each list is the built one of the edited network
  list_built : (edge : ℕ) (dir : Dir) (ends : Ends) → slice_get old.edges edge ≡ Some ends
      → AreSettledBelow old edits lists (min (start_of ends dir) (end_of ends dir))
      → IsBuiltList (edited_all old.network edits) old.order (start_of ends dir) (end_of ends dir) (list_of (after old edits lists) edge dir)
  list_built edge dir ends at lower =
      let u = start_of ends dir in
      let v = end_of ends dir in
      let list = list_of (after old edits lists) edge dir in
      elim ((covered old.network old.order edits).decided ends.low ends.high) [
        | inl touched ↦ resettled_list_built (after old edits lists) sound u v (λ x y lt. (lower x y lt).right) list
            (settled.resettled edge dir ends at (ends, at, touched))
        | inr off ↦
            let lt = rises edge ends at in
            let apart = ends_apart ends dir lt in
            let none : IsTouchedPair old.network old.order edits u v → ⊥ = λ t. off (edge_of_pair old.network old.order edits ends dir lt t) in
            built_kept old.network (edited_all old.network edits) old.order u v (ways_there u v apart lower none) (ways_back u v apart lower none) list
            (kept_built edge dir ends at off)
      ]

  old_least : (m : ℕ) → HasLeastBelow old.network old.order m
  old_least m x y t w lt low = (drive old.network (unpacked_walk old x y t) t, (built_least old built x y (w, low)).1 t)

  -- the drives between the ends of an edge that isn't touched are kept
  edge_kept : (edge : ℕ) (dir : Dir) (ends : Ends) → slice_get old.edges edge ≡ Some ends
      → AreSettledBelow old edits lists (min (start_of ends dir) (end_of ends dir))
      → (IsTouchedPair old.network old.order edits (start_of ends dir) (end_of ends dir) → ⊥)
      → KeepsBoth old edits (start_of ends dir) (end_of ends dir)
  edge_kept edge dir ends at lower none =
      let g = old.network in
      let h = edited_all old.network edits in
      let u = start_of ends dir in
      let v = end_of ends dir in
      let list = list_of (after old edits lists) edge dir in
      let apart = ends_apart ends dir (rises edge ends at) in
      let one = kept_built edge dir ends at (λ t. none (pair_of_edge g old.order edits ends dir t)) in
      let two = list_built edge dir ends at lower in
      let has = old_least (min u v) in
      let more = has_least_below (after old edits lists) (min u v) (λ x y lt. (lower x y lt).right) in (
        lows_kept g h old.order built.sound.network sound.network u v apart has more (ways_there u v apart lower none) list one two,
        lows_kept h g old.order sound.network built.sound.network u v apart more has (ways_back u v apart lower none) list two one,
      )

  walk_kept : (g : NetworkValue) → ListsEdges g old.order old.edges → (u v : ℕ) → AreSettledBelow old edits lists (min u v)
      → (IsTouchedPair old.network old.order edits u v → ⊥) → HasLowWalk g old.order u v
      → KeepsBoth old edits u v
  walk_kept g listed u v lower none walk =
      let (edge, dir, ends, at, from, to) = walk_edge g old.order old.edges listed u v walk in
      let off : IsTouchedPair old.network old.order edits (start_of ends dir) (end_of ends dir) → ⊥ = λ t.
      none (subst (λ x. IsTouchedPair old.network old.order edits x v) from
      (subst (λ y. IsTouchedPair old.network old.order edits (start_of ends dir) y) to t)) in
      let here = edge_kept edge dir ends at (λ x y lt. lower x y (omega (arith, lt, from, to))) off in
      subst (λ x. KeepsBoth old edits x v) from (subst (λ y. KeepsBoth old edits (start_of ends dir) y) to here)

  walk_built : (u v : ℕ) → AreSettledBelow old edits lists (min u v) → HasLowWalk (edited_all old.network edits) old.order u v
      → IsBuiltList (edited_all old.network edits) old.order u v (list_from (after old edits lists) u v)
  walk_built u v lower walk =
      let new = after old edits lists in
      let (edge, dir, ends, at, from, to) = walk_edge (edited_all old.network edits) old.order old.edges sound.edges u v walk in
      let here = list_built edge dir ends at (λ x y lt. lower x y (omega (arith, lt, from, to))) in
      let same = list_from-edge new sound edge dir ends at in
      let found = subst (IsBuiltList new.network new.order (start_of ends dir) (end_of ends dir)) (sym same) here in
      subst (λ x. IsBuiltList new.network new.order x v (list_from new x v)) from
      (subst (λ y. IsBuiltList new.network new.order (start_of ends dir) y (list_from new (start_of ends dir) y)) to found)

  settled_pair : (u v : ℕ) → AreSettledBelow old edits lists (min u v) → IsSettledPair old edits lists u v
  settled_pair u v lower = record {
    right = built_rebuilt (after old edits lists) sound u v (λ x y lt. (lower x y lt).right) (walk_built u v lower);
    kept = λ none. (
      keeps_if old.network (edited_all old.network edits) old.order u v (λ walk. (walk_kept old.network built.sound.edges u v lower none walk).0),
      keeps_if (edited_all old.network edits) old.network old.order u v (λ walk. (walk_kept (edited_all old.network edits) sound.edges u v lower none walk).1),
    );
  }

  settled_below : (m : ℕ) → AreSettledBelow old edits lists m
  settled_below zero x y lt = absurd (omega (arith, lt))
  settled_below (suc m) x y lt = settled_pair x y (λ p q less. settled_below m p q (omega (arith, less, lt)))

  pub after_built : IsBuilt (after old edits lists)
  after_built = record {
    sound = sound;
    built = λ edge dir ends at. list_built edge dir ends at (settled_below (min (start_of ends dir) (end_of ends dir)));
  }

-- a hierarchy resettled by edits has the network that they leave, and all but its lists as before
pub resettled_after : (old new : HierarchyValue) (edits : List Edit) → IsResettledAll old edits new → new ≡ after old edits new.lists
resettled_after old new edits settled =
    ap (λ (g : NetworkValue). record new { network = g }) settled.network
    ∙ ap (λ (o : OrderValue). record { network = edited_all old.network edits; order = o; edges = new.edges; lists = new.lists }) settled.order
    ∙ ap (λ (es : List Ends). record { network = edited_all old.network edits; order = old.order; edges = es; lists = new.lists }) settled.edges

-- so it is of edits made at once
pub all_built : (old new : HierarchyValue) (edits : List Edit) → IsBuilt old → IsHierarchy new → IsResettledAll old edits new → IsBuilt new
all_built old new edits built sound settled =
    let same = resettled_after old new edits settled in
    subst IsBuilt (sym same) (after_built old edits new.lists built (subst IsHierarchy same sound) (subst (IsResettledAll old edits) same settled))

-- and of one edit
pub resettled_built : (old new : HierarchyValue) (edit : Edit) → IsBuilt old → IsEditInRange old.network edit → IsHierarchy new
    → IsResettled old edit new → IsBuilt new
resettled_built old new edit built range sound settled = all_built old new (edit ∷ []) built sound (all_of_one old new edit settled)
