use Rattle.std.proofs.Common.{◌≡◌, ◌≤◌, ◌<◌, ◌+◌, ◌*◌, ◌∙◌, ℕ, suc, List, ap, subst, sym, arith, inl, inr}
use Rattle.std.proofs.lemmas.Bool.{cases_lt}
use Rattle.cu_pack.specs.declared.layout.Counts.{Counts}
use Rattle.cu_pack.specs.Checks.{IsFirstWrong, IsGraph, IsWrongList}
use Rattle.cu_pack.specs.Reading.{counts_in, edge_start, way_start}
use Rattle.cu_pack.specs.Steps.Ways.{AreBothRight}
use Rattle.cu_pack.proofs.Numbering.Cursors.{cursors_more}
use Rattle.cu_pack.proofs.Read.EdgesRead.{next_edge, starts_within}
use Rattle.cu_pack.proofs.Read.FirstList.{all_edges, entries_left, first_list, no_edge_before, no_list}
use Rattle.cu_pack.proofs.checks.ways.first_wrong_list.Goals as goal

pub loop-low-init : goal.loop-low-init
loop-low-init c =
    let bytes = c.args.sections.now in
    record {
      right = λ edge less. let none = no_edge_before bytes c.requires.graph in absurd (omega (arith, less, none));
      follow = c.requires.places;
    }

pub loop-low-preserved : goal.loop-low-preserved
loop-low-preserved c =
    let bytes = c.args.sections.now in
    let next = next_edge bytes c.requires.graph c.loop-low.low in
    record {
      right = λ edge less.
          elim (cases_lt edge (edge_start bytes c.loop-low.low)) [
            | inl before ↦ c.loop-low.invariant.right edge before
            | inr from ↦ c.in_default.ensures.first edge from (omega (arith, less, next))
          ];
      follow = cursors_more bytes c.loop-low.low (c.loop-low.low + 1) _ (omega arith) c.in_default.ensures.places;
    }

pub returns-in-Some : goal.returns-in-Some
returns-in-Some c =
    let bytes = c.args.sections.now in
    let first : way_start bytes 0 ≡ 0 = sym c.way_start.ensures.start ∙ c.if-way_start-ne0.false in
    let found = c.in-Some.ensures.first in
    let rank : c.loop-low.low < (counts_in bytes).nodes = let less = c.loop-low-test.true in
    let nodes = ap (λ (counts : Counts). counts.nodes) c.counts-counts.ensures.counts in omega (arith, less, nodes) in
    let within = starts_within bytes c.requires.graph c.loop-low.low rank in
    record {
      first = first_list bytes first c.in-Some.found.0 c.in-Some.found.1 (let less = found.1 in omega (arith, within, less)) (λ e less.
          elim (cases_lt e (edge_start bytes c.loop-low.low)) [
            | inl before ↦ c.loop-low.invariant.right e before
            | inr from ↦ found.3 e from less
          ]) found.2;
    }

-- all lists are right behind the last rank
all_right : (bytes : List ℕ) (counts : Counts) (low : ℕ) → IsGraph bytes → counts ≡ counts_in bytes → low ≤ counts.nodes → counts.nodes ≤ low
    → ((edge : ℕ) → edge < edge_start bytes low → AreBothRight bytes edge) → (edge : ℕ) → edge < (counts_in bytes).edges → AreBothRight bytes edge
all_right bytes counts low f same most least right edge less =
    let nodes = ap (λ (c : Counts). c.nodes) same in
    let last : low ≡ (counts_in bytes).nodes = omega (arith, nodes, most, least) in
    let all : edge_start bytes low ≡ (counts_in bytes).edges = ap (edge_start bytes) last ∙ all_edges bytes f in
    right edge (omega (arith, less, all))

pub returns-then-way_start-counts : goal.returns-then-way_start-counts
returns-then-way_start-counts c =
    let bytes = c.args.sections.now in
    let counts = c.counts-counts.result in
    let first : way_start bytes 0 ≡ 0 = sym c.way_start.ensures.start ∙ c.if-way_start-ne0.false in
    let right = all_right bytes counts c.loop-low.low c.requires.graph c.counts-counts.ensures.counts c.loop-low.auto.low-end c.loop-low-test.false c.loop-low.invariant.right in
    let edges : counts.edges ≡ (counts_in bytes).edges = ap (λ (k : Counts). k.edges) c.counts-counts.ensures.counts in
    let entries = ap (λ (k : Counts). k.entries) c.counts-counts.ensures.counts in
    let last = c.way_start-2.ensures.start ∙ ap (λ (k : ℕ). way_start bytes (2 * k)) edges in
    record {
      first = subst (λ (k : ℕ). IsFirstWrong (IsWrongList bytes) (suc (2 * (counts_in bytes).edges)) (2 * k)) (sym edges)
          (entries_left bytes first right (λ same. c.if-way_start-counts.true (last ∙ same ∙ sym entries)));
    }

pub returns : goal.returns
returns c =
    let bytes = c.args.sections.now in
    let counts = c.counts-counts.result in
    let first : way_start bytes 0 ≡ 0 = sym c.way_start.ensures.start ∙ c.if-way_start-ne0.false in
    let right = all_right bytes counts c.loop-low.low c.requires.graph c.counts-counts.ensures.counts c.loop-low.auto.low-end c.loop-low-test.false c.loop-low.invariant.right in
    let edges : counts.edges ≡ (counts_in bytes).edges = ap (λ (k : Counts). k.edges) c.counts-counts.ensures.counts in
    let entries = ap (λ (k : Counts). k.entries) c.counts-counts.ensures.counts in
    let last = c.way_start-2.ensures.start ∙ ap (λ (k : ℕ). way_start bytes (2 * k)) edges in
    record { first = no_list bytes first right (sym last ∙ c.if-way_start-counts.false ∙ entries) }
