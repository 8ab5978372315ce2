use Rattle.std.proofs.Common.{◌≡◌, ◌≢◌, ◌∙◌, List, ℕ, ap, arith, length, subst}
use Rattle.std.specs.List.{AllPairs}
use Rattle.std.specs.List.Sorted.{IsPermutation}
use Rattle.std.proofs.lemmas.List.Sorted.{length_permutation}
use Rattle.cu_chordal.specs.Graphs.{ChordalValue}
use Rattle.cu_edits.specs.Steps.Found.{FoundValue, IsOfSome, Reaches}
use Rattle.cu_edits.proofs.FoundLaws.{begun_from}
use Rattle.cu_edits.proofs.Reached.{found_few, touched_from}
use Rattle.cu_edits.proofs.finding.plan_roads.Goals as goal

pub returns-clause-touched : goal.returns-clause-touched
returns-clause-touched g c =
    let h = g.W.Ways.hierarchy c.args.ways.now in
    let starts = c.find_roads.new.found.found in
    let found = c.find_onward.new.found.found in
    let sorted = c.sort_unstable.new.self.items in
    let begun = begun_from (IsOfSome h c.args.arcs.now) c.clear.new.self.found starts (ap (λ (v : FoundValue). v.found) c.clear.ensures) c.in_ok-find_roads.ensures.added in
    let reaches = subst (λ (k : ChordalValue). Reaches k.edges starts found) c.requires.graph.0 c.in_ok-find_onward.ensures.reached in
    let once = subst (AllPairs (λ x y. x ≢ y)) c.found.ensures.same c.found.ensures.once in
    let items : c.in_ok-edges.edges.items ≡ found = c.in_ok-edges.ensures.items ∙ c.found.ensures.same in
    let moved = subst (λ (xs : List ℕ). IsPermutation xs sorted) items c.sort_unstable.ensures.permutation in
    touched_from h c.requires.graph.1 c.args.arcs.now starts found sorted begun reaches once moved c.sort_unstable.ensures.sorted

pub returns-clause-few : goal.returns-clause-few
returns-clause-few g c =
    let few = found_few c.find_onward.new.found.edges c.found.result.now c.found.ensures.once c.found.ensures.within in
    let one : c.clear.new.self.edges ≡ c.args.found.now.edges = ap (λ (v : FoundValue). v.edges) c.clear.ensures in
    let two = c.in_ok-find_roads.ensures.edges in
    let three = c.in_ok-find_onward.ensures.edges in
    let count = c.requires.edges in
    let same : length c.args.graph.now.edges ≡ length (g.W.Ways.hierarchy c.args.ways.now).edges = ap (λ (k : ChordalValue). length k.edges) c.requires.graph.0 in
    let most = c.requires.graph.1.graph.few_edges in
    let items = ap length c.in_ok-edges.ensures.items in
    let long = length_permutation c.in_ok-edges.edges.items c.sort_unstable.new.self.items c.sort_unstable.ensures.permutation in
    omega (arith, few, one, two, three, count, same, most, items, long)
