use Rattle.std.proofs.Common.{◌≡◌, ◌-◌, length}
use Rattle.cu_chordal.specs.Graphs.{ChordalValue}
use Rattle.cu_chordal.specs.Lists.{HoldGraph, edges_of_lists}
use Rattle.cu_interval.specs.Hierarchies.{graph_of}
use Rattle.cu_pack.proofs.Numbering.Copied.{both_ok, graph_same, lists_hold}
use Rattle.cu_pack.proofs.view.copies.chordal_of.Goals as goal

held : (c : goal.In_ok-uppers) → HoldGraph c.in_ok-starts.starts.items c.in_ok-uppers.uppers.items
held c = lists_hold c.args.view.now c.in_ok-uppers.ensures.sound c.in_ok-starts.starts.items c.in_ok-uppers.uppers.items c.in_ok-starts.ensures.all c.in_ok-uppers.ensures.all

pub of_lists-requires-clause-few_ranks : goal.of_lists-requires-clause-few_ranks
of_lists-requires-clause-few_ranks c = (held c).few_ranks

pub of_lists-requires-clause-few_edges : goal.of_lists-requires-clause-few_edges
of_lists-requires-clause-few_edges c = (held c).few_edges

pub of_lists-requires-clause-first : goal.of_lists-requires-clause-first
of_lists-requires-clause-first c = (held c).first

pub of_lists-requires-clause-starts_rise : goal.of_lists-requires-clause-starts_rise
of_lists-requires-clause-starts_rise c = (held c).starts_rise

pub of_lists-requires-clause-whole : goal.of_lists-requires-clause-whole
of_lists-requires-clause-whole c = (held c).whole

pub of_lists-requires-clause-parts_rise : goal.of_lists-requires-clause-parts_rise
of_lists-requires-clause-parts_rise c = (held c).parts_rise

pub of_lists-requires-clause-higher : goal.of_lists-requires-clause-higher
of_lists-requires-clause-higher c = (held c).higher

pub of_lists-requires-clause-joined : goal.of_lists-requires-clause-joined
of_lists-requires-clause-joined c = (held c).joined

pub returns : goal.returns
returns c =
    let h = c.args.view.now in
    let starts = c.in_ok-starts.starts.items in
    let uppers = c.in_ok-uppers.uppers.items in
    record {
      same = both_ok (λ (g : ChordalValue). g.ranks ≡ length starts - 1) (λ (g : ChordalValue). g.edges ≡ edges_of_lists starts uppers) (λ (g : ChordalValue). g ≡ graph_of h) c.of_lists.result
          (graph_same h c.in_ok-uppers.ensures.sound starts uppers c.in_ok-starts.ensures.all c.in_ok-uppers.ensures.all) c.of_lists.ensures.ranks c.of_lists.ensures.edges;
    }
