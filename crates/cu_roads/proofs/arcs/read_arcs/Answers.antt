use Rattle.std.proofs.Common.{rules, ◌≡◌, ◌∙◌, ap, refl, false}
use Rattle.std.specs.Prelude.{Ok}
use Rattle.std.proofs.lemmas.List.{append-nil}
use Rattle.std.proofs.lemmas.Result.{err_from_is_err_and}
use Rattle.cu_tables.proofs.TakingFacts.{Leads, refusal_is}
use Rattle.cu_roads.specs.declared.refusals.RoadRefusal.{RoadRefusal}
use Rattle.cu_roads.specs.NetworkTexts.{arcs_of_text}
use Rattle.cu_roads.specs.Steps.TableRows.{is_of_profiles}
use Rattle.cu_roads.proofs.TableReads.{HasCounts, arcs_read, arcs_rest, refuses_arc, takes_arc}
use Rattle.cu_roads.proofs.arcs.read_arcs.Goals as goal
use Rattle.cu_roads.proofs.arcs.read_arcs.Goals.{In_ok-each_row_below}

-- what is given once the rows were gone through
read : (c : In_ok-each_row_below) → Leads (arcs_of_text c.args.nodes c.args.profiles c.args.text.now) (HasCounts c.args.nodes c.args.profiles)
    (arcs_rest c.args.nodes c.args.profiles) c.each_row_below.new.taker c.in_ok-each_row_below.field-0
read c = arcs_read c.args.text.now _ _ c.each_row_below.new.taker c.in_ok-each_row_below.field-0 (search rules) (search rules) c.in_ok-each_row_below.ensures

pub returns-in_err-branch-clause-refused : goal.returns-in_err-branch-clause-refused
returns-in_err-branch-clause-refused c =
    let p = err_from_is_err_and c.from_residual-in_err-branch.result c.from_residual-in_err-branch.ensures.1 in
    rw (p.1, p.2) (λ n. rw c.in_err-branch.was at (read (goal.at.returns-in_err-branch-clause-refused c).In_ok-each_row_below))

pub returns-in_err-branch-clause-table : goal.returns-in_err-branch-clause-table
returns-in_err-branch-clause-table c =
    let p = err_from_is_err_and c.from_residual-in_err-branch.result c.from_residual-in_err-branch.ensures.1 in
    rw (p.1, p.2) (refusal_is takes_arc refuses_arc (λ (why : RoadRefusal). is_of_profiles why ≡ false) (λ s row why t h. h.0) _ refl _ _ _
    c.in_ok-each_row_below.field-0 _ c.in_err-branch.was c.in_ok-each_row_below.ensures)

pub returns-clause-arcs : goal.returns-clause-arcs
returns-clause-arcs c =
    (rw c.in_ok-branch.was at (read (goal.at.returns-clause-arcs c).In_ok-each_row_below)).0 ∙ ap Ok (append-nil c.each_row_below.new.taker.arcs.items)

pub returns-clause-range : goal.returns-clause-range
returns-clause-range c =
    let counts = (rw c.in_ok-branch.was at (read (goal.at.returns-clause-range c).In_ok-each_row_below)).1 in
    rw (counts.0, counts.1) at c.each_row_below.new.taker.in_range
