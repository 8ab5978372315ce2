use Rattle.std.proofs.Common.{◌*◌, ◌∙◌, ℕ, List, ap, length, sym, subst}
use Rattle.std.proofs.lemmas.Result.{IfOk-weaker}
use Rattle.cu_interval.specs.Hierarchies.{HierarchyValue}
use Rattle.cu_bounds.specs.KeptBounds.{FindsFirstWrong}
use Rattle.cu_pack.specs.Halves.{FinderValue}
use Rattle.cu_pack.specs.Reading.{bound_in, counts_in, decoded, edge_start}
use Rattle.cu_pack.proofs.Read.FirstBound.{first_bound}
use Rattle.cu_pack.proofs.Read.FirstList.{no_edge_before}
use Rattle.cu_pack.proofs.Viewed.Views.{edges_known}
use Rattle.cu_pack.proofs.checks.bounds.wrong_bound.Goals as goal

pub of-ways-requires : goal.of-ways-requires
of-ways-requires c = record { spelled = c.requires.passes.told }

pub of-kept-requires : goal.of-kept-requires
of-kept-requires c = record { version = c.requires.passes.kind }

pub of-requires : goal.of-requires
of-requires c = record { graph = c.requires.passes.ways.graph }

pub first_wrong_bound_by-requires : goal.first_wrong_bound_by-requires
first_wrong_bound_by-requires c =
    let bytes = c.args.sections.now in
    let edges = edges_known bytes (decoded bytes) c.requires.passes.told ∙ ap (λ (h : HierarchyValue). length h.edges) (sym c.of-ways.ensures.said) in
    let begins = c.in_ok-finder.ensures.begins in
    record {
      lists = ap (λ (bs : List ℕ). 2 * (counts_in bs).edges) c.of-kept.ensures.same ∙ ap (λ n. 2 * n) edges;
      same = ap (λ (v : FinderValue). decoded v.bytes) begins ∙ sym c.of-ways.ensures.said;
      begins = ap (λ (v : FinderValue). edge_start v.bytes v.low) begins ∙ no_edge_before bytes c.requires.passes.ways.graph;
    }

pub returns : goal.returns
returns c =
    let bytes = c.args.sections.now in
    let h = c.of-ways.result in
    let edges = edges_known bytes (decoded bytes) c.requires.passes.told ∙ ap (λ (k : HierarchyValue). length k.edges) (sym c.of-ways.ensures.said) in
    record {
      first = IfOk-weaker c.first_wrong_bound_by.result _ _
          (λ found first. first_bound bytes h found c.of-ways.ensures.said edges (subst (λ (bs : List ℕ). FindsFirstWrong h (bound_in bs) found) c.of-kept.ensures.same first))
          c.first_wrong_bound_by.ensures.first;
    }
