use Rattle.std.proofs.Common.{◌≡◌, ◌≤◌, ◌<◌, ◌+◌, ◌∙◌, ℕ, Some, length, min, List, sym, ap, subst, arith, inl, inr, get_or}
use Rattle.std.specs.Prelude.{slice_get}
use Rattle.std.proofs.lemmas.Bool.{cases_lt}
use Rattle.std.proofs.lemmas.Option.{slice_get-get_or}
use Rattle.cu_chordal.specs.declared.graph.TheConstants.{MAX_EDGES}
use Rattle.cu_chordal.specs.Graphs.{first_edge_of, up_of}
use Rattle.cu_interval.specs.declared.ways.Dir.TheVariants.{Up}
use Rattle.cu_sweep.specs.Outlooks.{ahead_at}
use Rattle.cu_sweep.proofs.Neighbours.{edge_place, row_edge}
use Rattle.cu_sweep.proofs.looking.least_ahead.Goals as goal

pub edges-init : goal.edges-init
edges-init g c =
    let graph = c.args.graph.now in
    record {
      highers = c.up-highers.ensures.exact;
      edge = let e = c.first_edge-edge.ensures.count in omega (arith, e);
      less = omega arith;
      each = λ k lt. absurd (omega (arith, lt));
    }

pub bound-requires : goal.bound-requires
bound-requires g c =
    let graph = c.args.graph.now in
    let i = c.edges.invariant in
    let k = c.edges.higher-index in
    let highers = c.up-highers.result.now in
    let lt : k < length highers = omega arith in
    let y = get_or highers k 0 in
    let at : slice_get (up_of graph.edges c.args.rank) k ≡ Some y = subst (λ (xs : List ℕ). slice_get xs k ≡ Some y) i.highers (slice_get-get_or highers k 0 lt) in
    let facts = row_edge graph c.requires.graph c.args.rank k y at in
    let count = c.requires.edges in
    let at_edge = i.edge in
    let within = facts.1 in
    record { edge = omega (arith, count, at_edge, within) }

pub bounds-ahead-higher : goal.bounds-ahead-higher
bounds-ahead-higher g c =
    let graph = c.args.graph.now in
    let i = c.edges.invariant in
    let k = c.edges.higher-index in
    let highers = c.up-highers.result.now in
    let lt : k < length highers = omega arith in
    let y = get_or highers k 0 in
    let at : slice_get (up_of graph.edges c.args.rank) k ≡ Some y = subst (λ (xs : List ℕ). slice_get xs k ≡ Some y) i.highers (slice_get-get_or highers k 0 lt) in
    let facts = row_edge graph c.requires.graph c.args.rank k y at in
    let within = facts.3 in
    let places = c.requires.places in
    omega (arith, within, places)

pub overflow_add-edge : goal.overflow_add-edge
overflow_add-edge g c =
    let graph = c.args.graph.now in
    let i = c.edges.invariant in
    let k = c.edges.higher-index in
    let highers = c.up-highers.result.now in
    let lt : k < length highers = omega arith in
    let y = get_or highers k 0 in
    let at : slice_get (up_of graph.edges c.args.rank) k ≡ Some y = subst (λ (xs : List ℕ). slice_get xs k ≡ Some y) i.highers (slice_get-get_or highers k 0 lt) in
    let there_ = (row_edge graph c.requires.graph c.args.rank k y at).1 in
    let few : length graph.edges ≤ MAX_EDGES = c.requires.graph.few_edges in
    let e = i.edge in
    omega (arith, few, there_, e)

pub edges-preserved : goal.edges-preserved
edges-preserved g c =
    let graph = c.args.graph.now in
    let bound = g.B.Bounds.bounds c.args.bounds.now in
    let i = c.edges.invariant in
    let k = c.edges.higher-index in
    let x = c.args.rank in
    let highers = c.up-highers.result.now in
    let y = get_or highers k 0 in
    let first = first_edge_of graph.edges x in
    let e = i.edge in
    let is : c.bound.result ≡ bound (first + k) Up = c.bound.ensures.bound ∙ ap (λ (m : ℕ). bound m Up) e in
    let best : c.lesser_of-best.result.0 ≡ min c.edges.best.0 (c.bound.result + ahead_at c.args.ahead.now y) = c.lesser_of-best.ensures.least in
    record {
      highers = i.highers;
      edge = omega (arith, e);
      less = let le = i.less in omega (arith, le, best);
      each = λ j lt.
          elim (cases_lt j k) [
            | inl before ↦ let le = i.each j before in omega (arith, le, best)
            | inr last ↦
                let same : j ≡ k = omega (arith, lt, last) in
                subst (λ (m : ℕ). c.lesser_of-best.result.0 ≤ bound (first + m) Up + ahead_at c.args.ahead.now (get_or highers m 0)) (sym same) (omega (arith, best, is))
          ];
    }

pub returns-clause-less : goal.returns-clause-less
returns-clause-less g c = c.edges.invariant.less

pub returns-clause-each : goal.returns-clause-each
returns-clause-each g c =
    let graph = c.args.graph.now in
    let bound = g.B.Bounds.bounds c.args.bounds.now in
    let i = c.edges.invariant in
    let highers = c.up-highers.result.now in
    λ y edge e.
    let (k, lt, at, is, up) = edge_place graph c.requires.graph c.args.rank y edge e in
    let inside : k < length highers = subst (λ (xs : List ℕ). k < length xs) (sym i.highers) lt in
    let le = i.each k (omega (arith, inside)) in
    let there : get_or highers k 0 ≡ y = ap (λ (xs : List ℕ). get_or xs k 0) i.highers ∙ at in
    subst (λ (m : ℕ). c.edges.best.0 ≤ bound m Up + ahead_at c.args.ahead.now y) (sym is)
    (subst (λ (z : ℕ). c.edges.best.0 ≤ bound (first_edge_of graph.edges c.args.rank + k) Up + ahead_at c.args.ahead.now z) there le)
