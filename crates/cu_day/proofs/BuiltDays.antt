-- Over a built hierarchy the end's label is the least arrival over all walks.
use Rattle.std.proofs.Common.{◌≡◌, ◌≢◌, ◌≤◌, ◌<◌, ◌+◌, ◌-◌, ◌*◌, ◌∙◌, ◌^◌, ◌++◌, ℕ, suc, List, [], ◌∷◌, Option, Some, None, length, refl, sym, ap, subst, arith, min}
use Rattle.std.specs.Prelude.{slice_get}
use Rattle.std.specs.List.{Contains}
use Rattle.std.proofs.Math.Nat.{min-eq_left, min-eq_right}
use Rattle.std.proofs.lemmas.Option.{same_Some}
use Rattle.cu_model.specs.declared.limits.TheConstants.{MAX_NODES, MAX_UNTIL}
use Rattle.cu_model.specs.Days.{day}
use Rattle.cu_model.specs.Roads.{HasNoWalk, IsLeastArrival, IsWalk, drive}
use Rattle.cu_model.proofs.RoadLaws.{drive-append}
use Rattle.cu_chordal.specs.Edges.{JoinedBelow}
use Rattle.cu_chordal.specs.Graphs.{HasEdge}
use Rattle.cu_chordal.proofs.Joined.{joined_back}
use Rattle.cu_chordal.proofs.Tables.{edge_within}
use Rattle.cu_elimtree.specs.SweepArcs.{ancestors_in}
use Rattle.cu_interval.specs.Hierarchies.{HierarchyValue, IsBuilt, graph_of, list_from}
use Rattle.cu_interval.specs.Low.{HasLowWalk, IsLowWalk, WalkBelow}
use Rattle.cu_interval.proofs.BuiltWalks.{built_least, walk_path}
use Rattle.cu_interval.proofs.Near.{least_near}
use Rattle.cu_unpack.proofs.LeastValues.{right_values, some_walk}
use Rattle.cu_sweep.proofs.Ancestry.{ancestors_upwards, own_ancestor}
use Rattle.cu_sweep.proofs.Peaks.{IsRankWalk}
use Rattle.cu_sweep.proofs.RankWalks.{below_walk, ranks_append, ranks_of_walk, walk_of_ranks}
use Rattle.cu_sweep.proofs.Reaching.{IsReachedBy, sweeps_reach}
use Rattle.cu_day.specs.DayChains.{GoesDown, GoesUp, IsLeastChain, Passes, list_drive, second_behind, within_limit}
use Rattle.cu_day.specs.Steps.Sweeping.{Always, BeginsAs, BeginsAt, IsSwept}
use Rattle.cu_day.proofs.LeastChains.{all_counted, both_parts, least_chain}

-- a walk below its lower end is a low walk, and joins the ends of an edge
pub record IsUnder (h : HierarchyValue) (x y u : ℕ) (walk : List ℕ) (v : ℕ) : Type 0 where
  pub low : IsLowWalk h.network h.order u walk v
  pub has : HasEdge h.edges x y

-- the second behind a chain is that of a walk, and isn't late
record IsDriven (h : HierarchyValue) (x y s : ℕ) (ranks : List ℕ) (latest : ℕ) : Type 0 where
  walk : List ℕ
  leads : IsRankWalk h.network h.order x walk y
  drives : drive h.network walk s ≡ second_behind (list_drive h) x ranks s
  near : second_behind (list_drive h) x ranks s ≤ latest

-- the most that the lists of so many ranks take
abbrev most : ℕ → ℕ
most ranks = ranks * ((MAX_NODES + 1) * MAX_UNTIL)

module _ (h : HierarchyValue) (f : IsBuilt h) where
  under_by : (x y : ℕ) → x < y → JoinedBelow h.network h.order x x y → HasEdge h.edges x y
  under_by x y lt joined =
      let least : min x y ≡ x = min-eq_left (omega (arith, lt)) in
      let low = subst (λ (m : ℕ). JoinedBelow h.network h.order m x y) (sym least) joined in
      (f.sound.edges.exact x y).1 (lt, ((λ same. absurd (omega (arith, lt, same))), low))

  pub up_under : (x y : ℕ) (walk : List ℕ) → x < y → WalkBelow h.network h.order x x walk y → IsUnder h x y x walk y
  up_under x y walk lt w =
      let least : min x y ≡ x = min-eq_left (omega (arith, lt)) in
      let low = subst (λ (m : ℕ). WalkBelow h.network h.order m x walk y) (sym least) w in
      record {
        low = ((λ same. absurd (omega (arith, lt, same))), low);
        has = under_by x y lt (walk_path h.network h.order x x walk y w);
      }

  pub down_under : (x y : ℕ) (walk : List ℕ) → x < y → WalkBelow h.network h.order x y walk x → IsUnder h x y y walk x
  down_under x y walk lt w =
      let least : min y x ≡ x = min-eq_right (omega (arith, lt)) in
      let low = subst (λ (m : ℕ). WalkBelow h.network h.order m y walk x) (sym least) w in
      let path = walk_path h.network h.order x y walk x w in
      record {
        low = ((λ same. absurd (omega (arith, lt, same))), low);
        has = under_by x y lt (joined_back h.network h.order x y path.0 x path.1);
      }

  -- where a low walk leads, the list isn't empty, and it arrives no later
  pub list_there : (u v : ℕ) (walk : List ℕ) → IsLowWalk h.network h.order u walk v → list_from h u v ≢ []
  list_there u v walk low = (built_least h f u v (walk, low)).0

  pub no_later_than : (u v : ℕ) (walk : List ℕ) → IsLowWalk h.network h.order u walk v → (s : ℕ) → list_drive h u v s ≤ drive h.network walk s
  no_later_than u v walk low s =
      let (b, is, least) = right_values h f (suc (min u v)) u v (omega arith) (walk, low) s in
      let d : list_drive h u v s ≡ min b (2 ^ 62) = ap within_limit is in
      let less = least.least walk low in
      omega (arith, d, less)

  module _ (Goes : ℕ → ℕ → Type 0) (turn : ℕ → ℕ) (rises : (x y : ℕ) → Goes x y → turn x < turn y)
      (within : (x y : ℕ) → Goes x y → turn y ≤ h.network.nodes)
      (below : (x y : ℕ) → Goes x y → min x y < h.network.nodes) (some : (x y : ℕ) → Goes x y → HasLowWalk h.network h.order x y) where
    -- a chain has no more lists than there are turns
    passes_few : (x y : ℕ) (ranks : List ℕ) → Passes Goes x ranks y → turn x ≤ h.network.nodes → turn x + length ranks ≤ h.network.nodes
    passes_few x y [] path le = omega (arith, le)
    passes_few x y (z ∷ ranks) path le =
        let rest = passes_few z y ranks path.1 (within x z path.0) in
        let lt = rises x z path.0 in
        omega (arith, rest, lt)

    -- a chain that begins early enough is driven by a walk, and each of its lists takes some days at most
    chain_walk : (x y s : ℕ) (ranks : List ℕ) → Passes Goes x ranks y → s + most (length ranks) ≤ 2 ^ 62
        → IsDriven h x y s ranks (s + most (length ranks))
    chain_walk x y s [] path early = record { walk = []; leads = path; drives = refl; near = omega arith }
    chain_walk x y s (z ∷ ranks) path early =
        let (b, is, least) = right_values h f (suc (min x z)) x z (omega arith) (some x z path.0) s in
        let (first, low, arrives) = least.reached in
        let near = least_near h.network h.order f.sound.network x z s b least in
        let few = f.sound.network.few_nodes in
        let lower = below x z path.0 in
        let soon : b ≤ s + (MAX_NODES + 1) * MAX_UNTIL = omega (arith, near, few, lower) in
        let same : list_drive h x z s ≡ b = ap within_limit is ∙ min-eq_left (omega (arith, soon, early)) in
        let rest = chain_walk z y (list_drive h x z s) ranks path.1 (omega (arith, same, soon, early)) in
        let later = rest.near in
        record {
          walk = first ++ rest.walk;
          leads = ranks_append h.network h.order x z y first rest.walk (below_walk h.network h.order (min x z) x first z low.1) rest.leads;
          drives = drive-append h.network first rest.walk s ∙ ap (drive h.network rest.walk) (arrives ∙ sym same) ∙ rest.drives;
          near = omega (arith, later, same, soon);
        }

    -- so is each whose ranks take turns
    part_walk : (x y s latest : ℕ) (ranks : List ℕ) → Passes Goes x ranks y → turn x ≤ h.network.nodes → s ≤ latest
        → latest + most MAX_NODES ≤ 2 ^ 62
        → IsDriven h x y s ranks (latest + most MAX_NODES)
    part_walk x y s latest ranks path le soon early =
        let turns = passes_few x y ranks path le in
        let few = f.sound.network.few_nodes in
        let driven = chain_walk x y s ranks path (omega (arith, turns, few, soon, early)) in
        let near = driven.near in
        record { walk = driven.walk; leads = driven.leads; drives = driven.drives; near = omega (arith, near, turns, few, soon) }

  -- a sweep arc leads from its lower rank to its higher one, and low walks lead along it where its list isn't empty
  edge_ranks : (low high : ℕ) → HasEdge h.edges low high → (low < high) × (high < h.network.nodes)
  edge_ranks low high has = edge_within (graph_of h) f.sound.graph low high has

  up_part : (from x y s : ℕ) (ranks : List ℕ) → Passes (GoesUp h from) x ranks y → x < h.network.nodes → s < day
      → IsDriven h x y s ranks (day + most MAX_NODES)
  up_part from x y s ranks path there_ early =
      part_walk (GoesUp h from) (λ x. x) (λ x y goes. (edge_ranks x y goes.0.1).0)
      (λ x y goes. let e = edge_ranks x y goes.0.1 in omega (arith, e.1))
      (λ x y goes. let e = edge_ranks x y goes.0.1 in omega (arith, e.0, e.1))
      (λ x y goes. let e = edge_ranks x y goes.0.1 in some_walk h f x y (λ same. absurd (omega (arith, e.0, same))) goes.1)
      x y s day ranks path (omega (arith, there_)) (omega (arith, early)) (omega arith)

  down_part : (to x y s : ℕ) (ranks : List ℕ) → Passes (GoesDown h to) x ranks y → s ≤ day + most MAX_NODES
      → IsDriven h x y s ranks (day + most MAX_NODES + most MAX_NODES)
  down_part to x y s ranks path early =
      part_walk (GoesDown h to) (λ x. h.network.nodes - x) (λ x y goes. let e = edge_ranks y x goes.0.1 in omega (arith, e.0, e.1))
      (λ x y goes. omega arith)
      (λ x y goes. let e = edge_ranks y x goes.0.1 in omega (arith, e.0, e.1))
      (λ x y goes. let e = edge_ranks y x goes.0.1 in some_walk h f x y (λ same. absurd (omega (arith, e.0, same))) goes.1)
      x y s (day + most MAX_NODES) ranks path (omega arith) early (omega arith)

  -- the least that a day chain gives is when a walk arrives
  chain_arrival : (from to t a : ℕ) → from < h.network.nodes → t < day → IsLeastChain h from to t a
      → (walk : List ℕ) × IsRankWalk h.network h.order from walk to × (drive h.network walk t ≡ a)
  chain_arrival from to t a from_there early least =
      let (ups, downs, chain, is) = least.reached in
      let first = up_part from from chain.top t ups chain.up from_there early in
      let last = down_part to chain.top to (second_behind (list_drive h) from ups t) downs chain.down first.near in (
        first.walk ++ last.walk,
        ranks_append h.network h.order from chain.top to first.walk last.walk first.leads last.leads,
        drive-append h.network first.walk last.walk t ∙ ap (drive h.network last.walk) first.drives ∙ last.drives
            ∙ sym (both_parts h (GoesUp h from) from chain.top ups downs t chain.up) ∙ is,
      )

  -- so it is the least arrival between their nodes, where no walk is earlier
  pub least_of_walks : (from to t a u v : ℕ) → slice_get h.order.node_at from ≡ Some u → slice_get h.order.node_at to ≡ Some v
      → from < h.network.nodes → t < day → IsLeastChain h from to t a
      → ((walk : List ℕ) → IsRankWalk h.network h.order from walk to → a ≤ drive h.network walk t) → IsLeastArrival h.network u v t a
  least_of_walks from to t a u v at_from at_to from_there early least none_earlier =
      let (walk, w, arrives) = chain_arrival from to t a from_there early least in
      record {
        reached = (walk, walk_of_ranks h.network h.order f.sound.order from to u walk v at_from at_to w, arrives);
        least = λ other o. none_earlier other
            (ranks_of_walk h.network h.order f.sound.network f.sound.order f.sound.same from to u other v at_from at_to o);
      }

  module _ (from to t : ℕ) (rises falls : ℕ → ℕ) (up down : ℕ → Option ℕ)
      (swept_up : IsSwept (Always t) (GoesUp h from) (list_drive h) rises (BeginsAt from t) up)
      (swept_down : IsSwept (Always t) (GoesDown h to) (list_drive h) falls (BeginsAs up) down) (from_there : from < h.network.nodes)
      (to_there : to < h.network.nodes) where
    -- the end's label is no later than any walk between the ranks
    no_walk_earlier : (walk : List ℕ) → IsRankWalk h.network h.order from walk to → IsReachedBy (down to) (drive h.network walk t)
    no_walk_earlier walk w =
        sweeps_reach h.network h.order f.sound.network (Contains (ancestors_in (graph_of h) from)) (Contains (ancestors_in (graph_of h) to)) up down
        (record {
          climb = λ x y s part c lt below e.
              let under = up_under x y part lt below in
              let led = swept_up.led x y s s e ((c, under.has), list_there x y part under.low) (omega arith) tt in
              let soon = no_later_than x y part under.low s in
              (ancestors_upwards (graph_of h) f.sound.graph from x y c under.has, (led.0, led.1, omega (arith, led.2, soon)));
          fall = λ y z s part c lt below e.
              let under = down_under y z part lt below in
              let led = swept_down.led z y s s e ((c, under.has), list_there z y part under.low) (omega arith) tt in
              let soon = no_later_than z y part under.low s in
              (led.0, led.1, omega (arith, led.2, soon));
          goes_up = λ y z part c lt below. ancestors_upwards (graph_of h) f.sound.graph to y z c (down_under y z part lt below).has;
          turn = λ x s e. swept_down.begun x s e;
        })
        from to t walk (own_ancestor (graph_of h) from from_there) (own_ancestor (graph_of h) to to_there) (swept_up.begun from t (refl, refl)) w

    module _ (u v : ℕ) (at_from : slice_get h.order.node_at from ≡ Some u) (at_to : slice_get h.order.node_at to ≡ Some v) where
      walk_reached : (walk : List ℕ) → IsWalk h.network u walk v → IsReachedBy (down to) (drive h.network walk t)
      walk_reached walk w = no_walk_earlier walk
          (ranks_of_walk h.network h.order f.sound.network f.sound.order f.sound.same from to u walk v at_from at_to w)

      -- so it is the least arrival between their nodes
      pub least_arrival : t < day → (a : ℕ) → down to ≡ Some a → IsLeastArrival h.network u v t a
      least_arrival early a e = least_of_walks from to t a u v at_from at_to from_there early
          (least_chain h from to t (Always t) (Always t) (all_counted h from to t) rises falls up down swept_up swept_down a e tt)
          (λ walk w.
          let (s, at, le) = no_walk_earlier walk w in
          let same : s ≡ a = same_Some s a (sym at ∙ e) in
          omega (arith, same, le))

      -- and without a label there is no walk
      pub no_walk : down to ≡ None → HasNoWalk h.network u v
      no_walk none walk w = let (s, at, le) = walk_reached walk w in let is = sym none ∙ at in absurd (cc is)
