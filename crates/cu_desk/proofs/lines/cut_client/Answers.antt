use Rattle.std.proofs.Common.{◌∙◌, ◌+◌, ◌-◌, ◌==◌, drop, length, sym, take}
use Rattle.cu_model.specs.Queries.{fields_of_line}
use Rattle.cu_model.proofs.LineCuts.{slice_split_some, slice_split_whole}
use Rattle.cu_desk.proofs.ClientLaws.{client_cut, client_uncut, client_unnumbered}
use Rattle.cu_desk.proofs.lines.cut_client.Goals as goal

pub returns-in_err-end-clause-cut : goal.returns-in_err-end-clause-cut
returns-in_err-end-clause-cut c =
    let line = c.args.line.now in
    let whole = slice_split_whole (λ b. b == 44) line (sym c.comma.ensures.first ∙ c.in_err-end.was) in
    rw c.from_residual.ensures (λ nodes arcs profiles. client_uncut line line nodes arcs profiles whole)

pub returns-in_err-client-clause-cut : goal.returns-in_err-client-clause-cut
returns-in_err-client-clause-cut c =
    let line = c.args.line.now in
    let end = c.in_ok-end.end in
    let whole = slice_split_some (λ b. b == 44) line 0 end (sym c.comma.ensures.first ∙ c.in_ok-end.was) in
    rw c.from_residual-in_err-client.ensures
    (λ nodes arcs profiles. client_unnumbered line (take end line) nodes arcs profiles (fields_of_line (take (length line - (end + 1)) (drop (end + 1) line))) whole
    (sym c.in_err-client.was ∙ c.client_number.ensures.number))

pub returns-clause-cut : goal.returns-clause-cut
returns-clause-cut c = λ nodes arcs profiles.
    (let line = c.args.line.now in
    let end = c.in_ok-end.end in
    let whole = slice_split_some (λ b. b == 44) line 0 end (sym c.comma.ensures.first ∙ c.in_ok-end.was) in
    client_cut line (take end line) nodes arcs profiles (take (length line - (end + 1)) (drop (end + 1) line)) c.in_ok-client.client whole (sym c.in_ok-client.was ∙ c.client_number.ensures.number))
