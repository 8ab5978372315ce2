use Rattle.std.proofs.Common.{rules, ◌≡◌, ◌∙◌, ap, refl, false}
use Rattle.std.specs.Prelude.{Ok}
use Rattle.std.proofs.lemmas.List.{append-nil}
use Rattle.std.proofs.lemmas.Result.{err_from_is_err_and}
use Rattle.cu_tables.proofs.TakingFacts.{Leads, refusal_is}
use Rattle.cu_roads.specs.declared.refusals.RoadRefusal.{RoadRefusal}
use Rattle.cu_roads.specs.NetworkTexts.{places_of_text}
use Rattle.cu_roads.specs.Steps.TableRows.{is_of_profiles}
use Rattle.cu_roads.proofs.TableReads.{Any, nodes_rest, places_read, refuses_node, takes_node}
use Rattle.cu_roads.proofs.nodes.read_places.Goals as goal
use Rattle.cu_roads.proofs.nodes.read_places.Goals.{In_ok-each_row_below}

-- what is given once the rows were gone through
read : (c : In_ok-each_row_below) → Leads (places_of_text c.args.text.now) Any nodes_rest c.each_row_below.new.taker c.in_ok-each_row_below.field-0
read c = places_read c.args.text.now _ _ c.each_row_below.new.taker c.in_ok-each_row_below.field-0 (search rules) (search rules) c.in_ok-each_row_below.ensures

pub returns-in_err-branch-clause-refused : goal.returns-in_err-branch-clause-refused
returns-in_err-branch-clause-refused c =
    let p = err_from_is_err_and c.from_residual-in_err-branch.result c.from_residual-in_err-branch.ensures.1 in
    rw (p.1, p.2) (λ n. rw c.in_err-branch.was at (read (goal.at.returns-in_err-branch-clause-refused c).In_ok-each_row_below))

pub returns-in_err-branch-clause-table : goal.returns-in_err-branch-clause-table
returns-in_err-branch-clause-table c =
    let p = err_from_is_err_and c.from_residual-in_err-branch.result c.from_residual-in_err-branch.ensures.1 in
    rw (p.1, p.2) (refusal_is takes_node refuses_node (λ (why : RoadRefusal). is_of_profiles why ≡ false) (λ s row why t h. h.0) _ refl _ _ _
    c.in_ok-each_row_below.field-0 _ c.in_err-branch.was c.in_ok-each_row_below.ensures)

pub returns-clause-places : goal.returns-clause-places
returns-clause-places c =
    (rw c.in_ok-branch.was at (read (goal.at.returns-clause-places c).In_ok-each_row_below)).0 ∙ ap Ok (append-nil c.each_row_below.new.taker.places.items)
