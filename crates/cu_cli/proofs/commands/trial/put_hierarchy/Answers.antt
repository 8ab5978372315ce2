use Rattle.std.proofs.Common.{◌++◌, append_assoc, decimal, length}
use Rattle.std.specs.Prelude.{codes}
use Rattle.std.specs.List.{sum_by}
use Rattle.cu_io.proofs.Appending.{wrote_same, wrote_stops, wrote_then}
use Rattle.cu_cli.proofs.TrialLaws.{pairs_then}
use Rattle.cu_cli.proofs.commands.trial.put_hierarchy.Goals as goal

pub returns-in_err-put_count : goal.returns-in_err-put_count
returns-in_err-put_count g c =
    let h = c.args.view.now in
    let nodes = rw (c.from.ensures, c.nodes.ensures.count) at c.in_err-put_count.ensures.wrote in
    let rest = codes " arcs " ++ decimal (length h.network.arcs) ++ codes " edges " ++ decimal (length h.edges) ++ codes " entries " ++ decimal (sum_by (λ list. length list) h.lists) in
    record { wrote = wrote_same (simp append_assoc) (wrote_stops rest c.from_residual.ensures.0 nodes) }

pub returns-in_err-put_count-2 : goal.returns-in_err-put_count-2
returns-in_err-put_count-2 g c =
    let h = c.args.view.now in
    let nodes = rw (c.from.ensures, c.nodes.ensures.count) at c.in_ok-put_count.ensures.wrote in
    let arcs = rw (c.from-2.ensures, c.arcs.ensures.count) at c.in_err-put_count-2.ensures.wrote in
    let entries = decimal (sum_by (λ list. length list) h.lists) in
    let rest = codes " edges " ++ decimal (length h.edges) ++ codes " entries " ++ entries in
    let whole = pairs_then (codes "nodes ") (decimal h.network.nodes) (codes " arcs ") (decimal (length h.network.arcs)) (codes " edges ") (decimal (length h.edges)) (codes " entries ") entries in
    record { wrote = wrote_same whole (wrote_stops rest c.from_residual-in_err-put_count-2.ensures.0 (wrote_then nodes arcs)) }

pub returns-in_err-put_count-3 : goal.returns-in_err-put_count-3
returns-in_err-put_count-3 g c =
    let h = c.args.view.now in
    let nodes = rw (c.from.ensures, c.nodes.ensures.count) at c.in_ok-put_count.ensures.wrote in
    let arcs = rw (c.from-2.ensures, c.arcs.ensures.count) at c.in_ok-put_count-2.ensures.wrote in
    let edges = rw (c.from-3.ensures, c.edges.ensures.count) at c.in_err-put_count-3.ensures.wrote in
    let rest = codes " entries " ++ decimal (sum_by (λ list. length list) h.lists) in
    record { wrote = wrote_same (simp append_assoc) (wrote_stops rest c.from_residual-in_err-put_count-3.ensures.0 (wrote_then (wrote_then nodes arcs) edges)) }

pub returns : goal.returns
returns g c =
    let nodes = rw (c.from.ensures, c.nodes.ensures.count) at c.in_ok-put_count.ensures.wrote in
    let arcs = rw (c.from-2.ensures, c.arcs.ensures.count) at c.in_ok-put_count-2.ensures.wrote in
    let edges = rw (c.from-3.ensures, c.edges.ensures.count) at c.in_ok-put_count-3.ensures.wrote in
    let entries = rw c.count_entries.ensures at c.put_count-4.ensures.wrote in
    record { wrote = wrote_same (simp append_assoc) (wrote_then (wrote_then (wrote_then nodes arcs) edges) entries) }
