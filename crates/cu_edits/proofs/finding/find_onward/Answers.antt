use Rattle.std.proofs.Common.{◌≡◌, ◌∙◌, List, Some, ℕ, ap, arith, get_or, length, refl, subst}
use Rattle.std.specs.Prelude.{slice_get}
use Rattle.std.proofs.lemmas.Option.{slice_get-get_or}
use Rattle.cu_edits.proofs.Reached.{found_few, reached_all, reached_more, reached_none}
use Rattle.cu_edits.proofs.finding.find_onward.Goals as goal

pub edges-init : goal.edges-init
edges-init c = record { edges = refl; reached = reached_none c.args.graph.now.edges c.args.found.now.found }

pub edges-smaller : goal.edges-smaller
edges-smaller c =
    let found = c.found.result.now in
    let few = found_few c.edges.found.edges found c.found.ensures.once c.found.ensures.within in
    let count = c.edges.invariant.edges in
    let all = c.requires.edges in
    let lt = c.edges-test.true in
    omega (arith, few, count, all, lt)

pub edges-preserved : goal.edges-preserved
edges-preserved c =
    let found = c.found-in-edges.result.now in
    let same = ap length c.found.ensures.same in
    let again = ap length c.found-in-edges.ensures.same in
    let lt = c.edges-test.true in
    let there : slice_get found c.edges.next ≡ Some (get_or found c.edges.next 0) = slice_get-get_or found c.edges.next 0 (omega (arith, same, again, lt)) in
    let at : slice_get c.edges.found.found c.edges.next ≡ Some (get_or found c.edges.next 0) =
    subst (λ (xs : List ℕ). slice_get xs c.edges.next ≡ Some (get_or found c.edges.next 0)) c.found-in-edges.ensures.same there in
    record {
      edges = c.in_ok-find_next.ensures.edges ∙ c.edges.invariant.edges;
      reached = reached_more c.args.graph.now.edges c.args.found.now.found c.edges.found.found c.find_next.new.found.found c.edges.next _ at c.edges.invariant.reached
          c.in_ok-find_next.ensures.added;
    }

pub returns-clause-reached : goal.returns-clause-reached
returns-clause-reached c =
    let same = ap length c.found.ensures.same in
    let past = c.edges-test.false in
    reached_all c.args.graph.now.edges c.args.found.now.found c.edges.found.found c.edges.next (omega (arith, same, past)) c.edges.invariant.reached
