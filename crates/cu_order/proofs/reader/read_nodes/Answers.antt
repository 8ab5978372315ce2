use Rattle.std.proofs.Common.{rules, ◌≡◌, ◌<◌, ◌≤◌, ◌∙◌, ℕ, arith, ap, sym, length}
use Rattle.std.specs.Prelude.{Err}
use Rattle.std.proofs.lemmas.Result.{err_from_is_err_and}
use Rattle.cu_tables.proofs.TakingFacts.{Leads}
use Rattle.cu_order.specs.OrderTexts.{order_of}
use Rattle.cu_order.specs.declared.refusals.OrderRefusal.TheVariants.{Count}
use Rattle.cu_order.proofs.SeenNodes.{each_once}
use Rattle.cu_order.proofs.RowWalks.{HasFlags, enough, nodes_read, nodes_rest, too_few}
use Rattle.cu_order.proofs.reader.read_nodes.Goals as goal
use Rattle.cu_order.proofs.reader.read_nodes.Goals.{In_ok-each_row}

-- what is given once the rows were gone through
read : (c : In_ok-each_row) → Leads (order_of c.args.nodes c.args.text.now) (HasFlags c.args.nodes) (nodes_rest c.args.nodes) c.each_row.new.taker c.in_ok-each_row.field-0
read c = nodes_read c.args.text.now c.in_ok-rows.rows c.each_row.new.taker c.args.nodes c.in_ok-each_row.field-0 c.in_ok-rows.ensures.none c.in_ok-rows.ensures.count c.in_ok-each_row.ensures

pub returns-in_err-branch-clause-refused : goal.returns-in_err-branch-clause-refused
returns-in_err-branch-clause-refused c =
    let p = err_from_is_err_and c.from_residual-in_err-branch.result c.from_residual-in_err-branch.ensures.1 in
    rw (p.1, p.2) (λ n. rw c.in_err-branch.was at (read (goal.at.returns-in_err-branch-clause-refused c).In_ok-each_row))

pub returns-then-count-nodes-clause-refused : goal.returns-then-count-nodes-clause-refused
returns-then-count-nodes-clause-refused c = λ n.
    let list = c.each_row.new.taker.nodes.items in
    let len : c.len-count.result ≡ length list = search rules in
    let less : c.len-count.result < c.args.nodes = search rules in
    (rw c.in_ok-branch.was at (read (goal.at.returns-then-count-nodes-clause-refused c).In_ok-each_row)).0
    ∙ too_few c.args.nodes list (omega (arith, len, less)) ∙ ap (λ (n : ℕ). Err (Count n)) (sym len)

pub returns-clause-nodes : goal.returns-clause-nodes
returns-clause-nodes c =
    let list = c.each_row.new.taker.nodes.items in
    let len : c.len-count.result ≡ length list = search rules in
    let whole : c.args.nodes ≤ c.len-count.result = search rules in
    (rw c.in_ok-branch.was at (read (goal.at.returns-clause-nodes c).In_ok-each_row)).0
    ∙ enough c.args.nodes list (omega (arith, len, whole))

pub returns-clause-count : goal.returns-clause-count
returns-clause-count c =
    let rows = c.each_row.new.taker in
    let count = (rw c.in_ok-branch.was at (read (goal.at.returns-clause-count c).In_ok-each_row)).1 in
    let len : c.len-count.result ≡ length rows.nodes.items = search rules in
    let whole : c.args.nodes ≤ c.len-count.result = search rules in
    let few = rows.listed.few in
    omega (arith, count, len, whole, few)

pub returns-clause-once : goal.returns-clause-once
returns-clause-once c =
    let rows = c.each_row.new.taker in
    let count = (rw c.in_ok-branch.was at (read (goal.at.returns-clause-once c).In_ok-each_row)).1 in
    let len : c.len-count.result ≡ length rows.nodes.items = search rules in
    let whole : c.args.nodes ≤ c.len-count.result = search rules in
    each_once rows.seen.items rows.nodes.items rows.listed rows.limit (omega (arith, count, len, whole))
