use Rattle.std.proofs.Common.{◌++◌, append_assoc, sym}
use Rattle.std.proofs.lemmas.List.{append-nil}
use Rattle.cu_io.proofs.Appending.{line_same, line_stops, line_then, wrote_then}
use Rattle.cu_cli.specs.Steps.Trials.{standing}
use Rattle.cu_cli.specs.Trials.{edits_text, hierarchy_text, queries_text}
use Rattle.cu_cli.proofs.StopLaws.{line_breaks}
use Rattle.cu_cli.proofs.commands.trial.say_tried.Goals as goal

pub returns-in_err-put_hierarchy : goal.returns-in_err-put_hierarchy
returns-in_err-put_hierarchy g c =
    let h = c.args.view.now in
    let queries = queries_text c.args.turns (standing h.network c.args.tally.now) in
    let edits = edits_text (standing h.network c.args.tally.now) in
    let broken = line_breaks (queries ++ edits) c.from_residual.ensures.0 c.in_err-put_hierarchy.ensures.wrote in
    record { wrote = line_same (sym (append_assoc (hierarchy_text h) queries edits)) broken }

pub returns-in_err-put_queries : goal.returns-in_err-put_queries
returns-in_err-put_queries g c =
    let net = c.args.view.now.network in
    let queries = wrote_then c.in_ok-put_hierarchy.ensures.wrote (c.in_err-put_queries.ensures.wrote net) in
    record { wrote = line_breaks (edits_text (standing net c.args.tally.now)) c.from_residual-in_err-put_queries.ensures.0 queries }

pub returns-in_err-put_edits : goal.returns-in_err-put_edits
returns-in_err-put_edits g c =
    let net = c.args.view.now.network in
    let queries = wrote_then c.in_ok-put_hierarchy.ensures.wrote (c.in_ok-put_queries.ensures.wrote net) in
    record { wrote = line_stops c.from_residual-in_err-put_edits.ensures.0 (wrote_then queries (c.in_err-put_edits.ensures.wrote net)) }

pub returns : goal.returns
returns g c =
    let net = c.args.view.now.network in
    let queries = wrote_then c.in_ok-put_hierarchy.ensures.wrote (c.in_ok-put_queries.ensures.wrote net) in
    let edits = wrote_then queries (c.in_ok-put_edits.ensures.wrote net) in
    record { wrote = line_same (append-nil _) (line_then edits c.end_line.ensures.wrote) }
