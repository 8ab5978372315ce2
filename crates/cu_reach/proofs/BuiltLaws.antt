-- What a built hierarchy replies to reaches and tables is right over all walks of its network.
use Rattle.std.proofs.Common.{◌≡◌, ◌<◌, ◌∙◌, ◌++◌, ℕ, List, [], ◌∷◌, Option, Some, None, get_or, refl, sym, ap, subst, arith}
use Rattle.std.specs.Prelude.{All, codes, flat_map, slice_get}
use Rattle.std.specs.List.{range_with_len}
use Rattle.std.proofs.lemmas.List.Elements.{All-head, All-tail}
use Rattle.std.proofs.lemmas.List.FromFn.{get_or-map-range_with_len, length-map-range_with_len}
use Rattle.std.proofs.lemmas.Option.{slice_get-get_or, slice_get_within}
use Rattle.cu_model.specs.Days.{day}
use Rattle.cu_interval.specs.Hierarchies.{HierarchyValue, IsBuilt, IsHierarchy}
use Rattle.cu_sweep.specs.ToAll.{IsTime}
use Rattle.cu_sweep.proofs.Answering.{label_time, reach_short}
use Rattle.cu_reach.specs.declared.lines.ReachAsked.{ReachAsked}
use Rattle.cu_reach.specs.declared.reaching.Reached.{Reached}
use Rattle.cu_reach.specs.declared.reaching.Reached.TheVariants.{Done}
use Rattle.cu_reach.specs.NodeFields.{TableValue}
use Rattle.cu_reach.specs.ReachAnswers.{AreRowTimes, AreRows, IsReachAnswer, IsTableAnswer}
use Rattle.cu_reach.specs.Reaching.{reached, reached_by}
use Rattle.cu_reach.specs.ReachTexts.{reach_from, reach_reply, reach_text, row_from, row_then, rows_unless_none, table_reply, table_rows, time_at, times_at, times_text}

-- a node of the network has a rank, at which it stands
record HasRank (h : HierarchyValue) (node : ℕ) : Type 0 where
  rank : ℕ
  ranked : slice_get h.order.rank_of node ≡ Some rank
  placed : slice_get h.order.node_at rank ≡ Some node
  low : rank < h.network.nodes

rank_there : (h : HierarchyValue) → IsHierarchy h → (node : ℕ) → node < h.network.nodes → HasRank h node
rank_there h sound node lt =
    let ranked = slice_get-get_or h.order.rank_of node 0 (omega (arith, lt, sound.same, sound.order.same)) in
    let placed = sound.order.placed node (get_or h.order.rank_of node 0) ranked in
    record { rank = get_or h.order.rank_of node 0; ranked = ranked; placed = placed; low = omega (arith, slice_get_within h.order.node_at (get_or h.order.rank_of node 0) node placed, sound.same) }

module _ (h : HierarchyValue) (built : IsBuilt h) (second : ℕ) (early : second < day) where
  -- when the reach from a rank comes to a node is the least arrival there
  node_time : (from source node : ℕ) → slice_get h.order.node_at from ≡ Some source → from < h.network.nodes → node < h.network.nodes
      → IsTime h.network source node second (time_at h from second (slice_get h.order.rank_of node))
  node_time from source node start below lt =
      let there = rank_there h built.sound node lt in
      subst (λ (rank : Option ℕ). IsTime h.network source node second (time_at h from second rank)) (sym there.ranked)
      (label_time h built from there.rank second below there.low early source node start there.placed)

  done : (from : ℕ) → reached h from second ≡ Done
  done from = ap reached_by (reach_short h built from second)

  all_times : (from source node : ℕ) (time : Option ℕ) → slice_get h.order.node_at from ≡ Some source → from < h.network.nodes
      → slice_get (times_at h from second (range_with_len 0 h.network.nodes)) node ≡ Some time → IsTime h.network source node second time
  all_times from source node time start below at =
      let count = length-map-range_with_len (λ v. time_at h from second (slice_get h.order.rank_of v)) 0 h.network.nodes in
      let lt : node < h.network.nodes = omega (arith, slice_get_within (times_at h from second (range_with_len 0 h.network.nodes)) node time at, count) in
      let got = slice_get-get_or (times_at h from second (range_with_len 0 h.network.nodes)) node None (omega (arith, lt, count)) in
      let is = get_or-map-range_with_len (λ v. time_at h from second (slice_get h.order.rank_of v)) 0 h.network.nodes node node None lt (omega arith) in
      let same : time_at h from second (slice_get h.order.rank_of node) ≡ time = cc (got, at, is) in
      subst (IsTime h.network source node second) same (node_time from source node start below lt)

  row_times : (from source : ℕ) → slice_get h.order.node_at from ≡ Some source → from < h.network.nodes → (targets : List ℕ) → All (λ node. node < h.network.nodes) targets
      → AreRowTimes (λ v time. IsTime h.network source v second time) targets (times_at h from second targets)
  row_times from source start below [] low = refl
  row_times from source start below (target ∷ targets) low = (
    time_at h from second (slice_get h.order.rank_of target),
    times_at h from second targets,
    refl,
    node_time from source target start below (All-head (λ node. node < h.network.nodes) target targets low),
    row_times from source start below targets (All-tail (λ node. node < h.network.nodes) target targets low),
  )

  rows_right : (targets : List ℕ) → All (λ node. node < h.network.nodes) targets → (sources : List ℕ) → All (λ node. node < h.network.nodes) sources
      → (rows : List (List (Option ℕ))) × AreRows (λ u v time. IsTime h.network u v second time) targets sources rows
      × (table_rows h second targets sources ≡ flat_map times_text rows)
  rows_right targets ends [] begins = ([], refl, refl)
  rows_right targets ends (source ∷ sources) begins =
      let there = rank_there h built.sound source (All-head (λ node. node < h.network.nodes) source sources begins) in
      let (rows, are, said) = rows_right targets ends sources (All-tail (λ node. node < h.network.nodes) source sources begins) in
      let row = times_at h there.rank second targets in
      let rest = table_rows h second targets sources in (
        row ∷ rows,
        (row, rows, refl, row_times there.rank source there.placed there.low targets ends, are),
        ap (λ (rank : Option ℕ). row_from h second targets rank rest) there.ranked
            ∙ ap (λ (answer : Reached). row_then h there.rank second targets answer rest) (done there.rank)
            ∙ ap (λ (text : List ℕ). times_text row ++ text) said,
      )

  -- without targets there are no times
  no_rows : (sources : List ℕ) → (rows : List (List (Option ℕ))) × AreRows (λ u v time. IsTime h.network u v second time) [] sources rows
      × ([] ≡ flat_map times_text rows)
  no_rows [] = ([], refl, refl)
  no_rows (source ∷ sources) = let (rows, are, said) = no_rows sources in ([] ∷ rows, ([], rows, refl, refl, are), said)

  rows_told : (targets : List ℕ) → All (λ node. node < h.network.nodes) targets → (sources : List ℕ) → All (λ node. node < h.network.nodes) sources
      → (rows : List (List (Option ℕ))) × AreRows (λ u v time. IsTime h.network u v second time) targets sources rows
      × (rows_unless_none h second sources targets ≡ flat_map times_text rows)
  rows_told [] ends sources begins = no_rows sources
  rows_told (target ∷ targets) ends sources begins = rows_right (target ∷ targets) ends sources begins

pub reach_right : (h : HierarchyValue) → IsBuilt h → (asked : ReachAsked) → asked.from < h.network.nodes → asked.second < day
    → IsReachAnswer h.network asked (reach_reply h asked)
reach_right h built asked lt early =
    let there = rank_there h built.sound asked.from lt in
    let times = times_at h there.rank asked.second (range_with_len 0 h.network.nodes) in (
      times,
      length-map-range_with_len (λ v. time_at h there.rank asked.second (slice_get h.order.rank_of v)) 0 h.network.nodes,
      (λ v time at. all_times h built asked.second early there.rank asked.from v time there.placed there.low at),
      ap (reach_from h asked.second) there.ranked ∙ ap (reach_text h there.rank asked.second) (done h built asked.second early there.rank),
    )

pub table_right : (h : HierarchyValue) → IsBuilt h → (asked : TableValue) → All (λ node. node < h.network.nodes) asked.sources
    → All (λ node. node < h.network.nodes) asked.targets → asked.second < day → IsTableAnswer h.network asked (table_reply h asked)
table_right h built asked begins ends early =
    let (rows, are, said) = rows_told h built asked.second early asked.targets ends asked.sources begins in
    (rows, are, ap (λ (text : List ℕ). codes "table" ++ text) said)
