use Rattle.std.proofs.Common.{◌∷◌, ◌∙◌, [], ℕ, List, false, refl, sym, subst, arith}
use Rattle.cu_edits.proofs.ClimbLaws.{AreClimbing, climbed_all, climbing_next, climbing_none, empty_of, few_more, full_of, heads_sides, next_higher}
use Rattle.cu_edits.proofs.climbing.climb_from.Goals as goal

pub ranks-init : goal.ranks-init
ranks-init c =
    let graph = c.args.graph.now in
    let (high, is, at) = c.requires.edge in (
      c.requires.low,
      (
        [],
        subst (λ (xs : List ℕ). AreClimbing graph c.args.edge c.args.marks.now c.args.low xs [] c.args.edges.now.items false) (sym is)
            (subst (λ (some : List ℕ). AreClimbing graph c.args.edge c.args.marks.now c.args.low (high ∷ []) [] some false) (sym c.requires.none)
            (climbing_none graph c.requires.sound c.args.edge c.args.marks.now c.args.low high at)),
        refl,
      ),
    )

pub up-ups-requires : goal.up-ups-requires
up-ups-requires c = c.ranks.invariant.0

pub add_unless-requires-clause-rank : goal.add_unless-requires-clause-rank
add_unless-requires-clause-rank c = c.ranks.invariant.0

pub add_unless-requires-clause-some : goal.add_unless-requires-clause-some
add_unless-requires-clause-some c = full_of c.ranks.heads.now (sym c.is_empty.ensures ∙ c.ranks-test.true)

pub behind-heads-requires-clause-some : goal.behind-heads-requires-clause-some
behind-heads-requires-clause-some c =
    let (inside, (found, so, counted)) = c.ranks.invariant in
    heads_sides c.args.graph.now c.requires.sound c.args.edge c.args.marks.now c.ranks.rank c.ranks.heads.now found c.ranks.edges.items c.ranks.is_known so
    (full_of c.ranks.heads.now (sym c.is_empty.ensures ∙ c.ranks-test.true)) c.up-ups.result.now c.up-ups.ensures.exact

pub behind-heads-requires-clause-heads : goal.behind-heads-requires-clause-heads
behind-heads-requires-clause-heads c = full_of c.ranks.heads.now (sym c.is_empty.ensures ∙ c.ranks-test.true)

pub overflow_cast-count : goal.overflow_cast-count
overflow_cast-count c =
    let (inside, (found, so, counted)) = c.ranks.invariant in
    let few = few_more c.args.graph.now c.requires.sound c.args.edge c.args.marks.now c.ranks.rank c.ranks.heads.now found c.ranks.edges.items c.ranks.is_known so in
    let most = c.requires.sound.few_edges in
    omega (arith, few, most)

pub overflow_add-count : goal.overflow_add-count
overflow_add-count c =
    let (inside, (found, so, counted)) = c.ranks.invariant in
    let few = few_more c.args.graph.now c.requires.sound c.args.edge c.args.marks.now c.ranks.rank c.ranks.heads.now found c.ranks.edges.items c.ranks.is_known so in
    let most = c.requires.sound.few_edges in
    omega (arith, few, most, counted)

pub bounds-ups-0 : goal.bounds-ups-0
bounds-ups-0 c =
    let (inside, (found, so, counted)) = c.ranks.invariant in
    let higher = next_higher c.args.graph.now c.requires.sound c.args.edge c.args.marks.now c.ranks.rank c.ranks.heads.now found c.ranks.edges.items c.ranks.is_known so
    (full_of c.ranks.heads.now (sym c.is_empty.ensures ∙ c.ranks-test.true)) c.up-ups.result.now c.up-ups.ensures.exact in
    higher.2

pub ranks-smaller : goal.ranks-smaller
ranks-smaller c =
    let (inside, (found, so, counted)) = c.ranks.invariant in
    let higher = next_higher c.args.graph.now c.requires.sound c.args.edge c.args.marks.now c.ranks.rank c.ranks.heads.now found c.ranks.edges.items c.ranks.is_known so
    (full_of c.ranks.heads.now (sym c.is_empty.ensures ∙ c.ranks-test.true)) c.up-ups.result.now c.up-ups.ensures.exact in
    omega (arith, higher.0, higher.1)

pub ranks-preserved : goal.ranks-preserved
ranks-preserved c =
    let (inside, (found, so, counted)) = c.ranks.invariant in
    climbing_next c.args.graph.now c.requires.sound c.args.edge c.args.marks.now c.ranks.rank c.ranks.heads.now found c.ranks.edges.items c.ranks.is_known c.ranks.count so
    (full_of c.ranks.heads.now (sym c.is_empty.ensures ∙ c.ranks-test.true)) c.up-ups.result.now c.up-ups.ensures.exact c.add_unless.new.edges.items c.in_ok-is_known.is_known
    c.behind-heads.result.now c.behind-heads.ensures c.in_ok-is_known.ensures.added c.in_ok-is_known.ensures.known counted

pub returns : goal.returns
returns c =
    let (inside, (found, so, counted)) = c.ranks.invariant in
    let none = empty_of c.ranks.heads.now (sym c.is_empty.ensures ∙ c.ranks-test.false) in
    climbed_all c.args.graph.now c.args.edge c.args.marks.now c.ranks.rank found c.ranks.edges.items c.ranks.is_known c.ranks.count
    (subst (λ (xs : List ℕ). AreClimbing c.args.graph.now c.args.edge c.args.marks.now c.ranks.rank xs found c.ranks.edges.items c.ranks.is_known) none so) counted
