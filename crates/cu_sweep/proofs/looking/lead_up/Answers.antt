use Rattle.std.proofs.Common.{◌≡◌, ◌≤◌, ◌<◌, ◌+◌, ◌∙◌, ℕ, length, length-set, List, sym, ap, subst, arith, inl, inr, get_or}
use Rattle.std.specs.Prelude.{All, slice_set}
use Rattle.std.proofs.lemmas.Bool.{cases_lt}
use Rattle.cu_chordal.specs.Graphs.{first_edge_of, up_of}
use Rattle.cu_interval.specs.declared.ways.Dir.TheVariants.{Down}
use Rattle.cu_sweep.specs.Outlooks.{ahead_at}
use Rattle.cu_sweep.proofs.Lowering.{lowered_here, lowered_less, lowered_near, lowered_other}
use Rattle.cu_sweep.proofs.Neighbours.{edge_place, edges_within, neighbour_at, neighbours_within, row_edge}
use Rattle.cu_sweep.proofs.looking.lead_up.Goals as goal

pub next_nearer-place-requires-clause-edges : goal.next_nearer-place-requires-clause-edges
next_nearer-place-requires-clause-edges g c =
    let graph = c.args.graph.now in
    let first : c.first_edge-first.result ≡ first_edge_of graph.edges c.args.rank = c.first_edge-first.ensures.count in
    let all : c.up-highers.result.now ≡ up_of graph.edges c.args.rank = c.up-highers.ensures.exact in
    let count = c.requires.edges in
    λ k lt. let within = edges_within graph c.requires.graph c.args.rank c.up-highers.result.now all k lt in omega (arith, count, first, within)

pub next_nearer-place-requires-clause-places : goal.next_nearer-place-requires-clause-places
next_nearer-place-requires-clause-places g c =
    let graph = c.args.graph.now in
    let all : c.up-highers.result.now ≡ up_of graph.edges c.args.rank = c.up-highers.ensures.exact in
    subst (λ (n : ℕ). All (λ y. y < n) c.up-highers.result.now) (sym c.requires.places)
    (neighbours_within graph c.requires.graph c.args.rank c.up-highers.result.now all)

pub bound-requires : goal.bound-requires
bound-requires g c =
    let graph = c.args.graph.now in
    let first : c.first_edge-first.result ≡ first_edge_of graph.edges c.args.rank = c.first_edge-first.ensures.count in
    let all : c.up-highers.result.now ≡ up_of graph.edges c.args.rank = c.up-highers.ensures.exact in
    let within = edges_within graph c.requires.graph c.args.rank c.up-highers.result.now all c.edges.place (omega arith) in
    let count = c.requires.edges in
    record { edge = omega (arith, count, first, within) }

pub next_nearer-place-requires-in-edges-clause-edges : goal.next_nearer-place-requires-in-edges-clause-edges
next_nearer-place-requires-in-edges-clause-edges g c =
    let graph = c.args.graph.now in
    let first : c.first_edge-first.result ≡ first_edge_of graph.edges c.args.rank = c.first_edge-first.ensures.count in
    let all : c.up-highers.result.now ≡ up_of graph.edges c.args.rank = c.up-highers.ensures.exact in
    let count = c.requires.edges in
    λ k lt. let within = edges_within graph c.requires.graph c.args.rank c.up-highers.result.now all k lt in omega (arith, count, first, within)

pub next_nearer-place-requires-in-edges-clause-places : goal.next_nearer-place-requires-in-edges-clause-places
next_nearer-place-requires-in-edges-clause-places g c =
    let graph = c.args.graph.now in
    let all : c.up-highers.result.now ≡ up_of graph.edges c.args.rank = c.up-highers.ensures.exact in
    let y = get_or c.up-highers.result.now c.edges.place 0 in
    let long : length (slice_set c.edges.ahead y (ahead_at c.args.ahead.now c.args.rank + c.bound.result)) ≡ graph.ranks =
    length-set c.edges.ahead y (ahead_at c.args.ahead.now c.args.rank + c.bound.result) ∙ c.edges.invariant.places ∙ c.requires.places in
    subst (λ (n : ℕ). All (λ y. y < n) c.up-highers.result.now) (sym long)
    (neighbours_within graph c.requires.graph c.args.rank c.up-highers.result.now all)

pub edges-preserved : goal.edges-preserved
edges-preserved g c =
    let graph = c.args.graph.now in
    let i = c.edges.invariant in
    let k = c.edges.place in
    let x = c.args.rank in
    let highers = c.up-highers.result.now in
    let first = first_edge_of graph.edges x in
    let e : c.first_edge-first.result ≡ first = c.first_edge-first.ensures.count in
    let all : highers ≡ up_of graph.edges x = c.up-highers.ensures.exact in
    let lt : k < length highers = omega arith in
    let y = get_or highers k 0 in
    let facts = row_edge graph c.requires.graph x k y (neighbour_at graph c.requires.graph x highers all k 0 lt) in
    let up = facts.2 in
    let within = facts.3 in
    let places = c.requires.places in
    let long = i.places in
    let ahead = c.edges.ahead in
    let inside : y < length ahead = omega (arith, within, places, long) in
    let own = ahead_at c.args.ahead.now x in
    let bound = g.B.Bounds.bounds c.args.bounds.now in
    let over = own + c.bound.result in
    let is : c.bound.result ≡ bound (first + k) Down = c.bound.ensures.bound ∙ ap (λ (m : ℕ). bound (m + k) Down) e in
    let nearer = i.nearer lt in
    let le : over ≤ ahead_at ahead y = omega (arith, nearer, is) in
    let new = slice_set ahead y over in
    let call = c.next_nearer-place-in-edges.ensures in
    let last = c.next_nearer-place-in-edges.result in
    record {
      within = call.within;
      places = length-set ahead y over ∙ i.places;
      nexts = length-set c.edges.next y _ ∙ i.nexts;
      near = lowered_near ahead y over le inside i.near;
      less = λ z. let a = lowered_less ahead y over le inside z in let b = i.less z in omega (arith, a, b);
      kept = λ z low. lowered_other ahead y over le inside z (λ is. absurd (omega (arith, is, low, up))) ∙ i.kept z low;
      each = λ j less.
          elim (cases_lt j k) [
            | inl before ↦
                let a = lowered_less ahead y over le inside (get_or highers j 0) in
                let b = i.each j before in
                omega (arith, a, b)
            | inr from ↦
                elim (cases_lt k j) [
                  | inl behind ↦
                      let a = call.passed j (omega (arith, behind)) less in
                      let b : bound (c.first_edge-first.result + j) Down ≡ bound (first + j) Down = ap (λ (m : ℕ). bound (m + j) Down) e in
                      omega (arith, a, b)
                  | inr to ↦
                      let last_is : j ≡ k = omega (arith, from, to) in
                      let here = lowered_here ahead y over le inside in
                      subst (λ (m : ℕ). ahead_at new (get_or highers m 0) ≤ bound (first + m) Down + own) (sym last_is) (omega (arith, here, is))
                ]
          ];
      nearer = λ less.
          let a = call.nearer less in
          let b : bound (c.first_edge-first.result + last) Down ≡ bound (first + last) Down = ap (λ (m : ℕ). bound (m + last) Down) e in
          omega (arith, a, b);
    }

pub returns-clause-each : goal.returns-clause-each
returns-clause-each g c =
    let graph = c.args.graph.now in
    let i = c.edges.invariant in
    let highers = c.up-highers.result.now in
    let x = c.args.rank in
    let all : highers ≡ up_of graph.edges x = c.up-highers.ensures.exact in
    let own = i.kept x (omega arith) in
    let bound = g.B.Bounds.bounds c.args.bounds.now in
    λ y edge e.
    let (k, lt, at, is, up) = edge_place graph c.requires.graph x y edge e in
    let inside : k < length highers = subst (λ (xs : List ℕ). k < length xs) (sym all) lt in
    let le = i.each k (omega (arith, inside)) in
    let there : get_or highers k 0 ≡ y = ap (λ (xs : List ℕ). get_or xs k 0) all ∙ at in
    subst (λ (m : ℕ). ahead_at c.edges.ahead y ≤ bound m Down + ahead_at c.edges.ahead x) (sym is)
    (subst (λ (z : ℕ). ahead_at c.edges.ahead z ≤ bound (first_edge_of graph.edges x + k) Down + ahead_at c.edges.ahead x) there (omega (arith, le, own)))
