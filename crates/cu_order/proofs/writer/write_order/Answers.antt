use Rattle.std.proofs.Common.{◌≡◌, ◌∙◌, List, ℕ, map, take, ap, subst, refl, arith, length}
use Rattle.std.proofs.lemmas.List.{take_all}
use Rattle.std.proofs.lemmas.Result.{IfOk-weaker}
use Rattle.csv.proofs.RoundTrip.{rows_text}
use Rattle.cu_tables.specs.WrittenTexts.{HasRows}
use Rattle.cu_tables.proofs.WriteFacts.{adds_row, may_follow, rows_of, none_written}
use Rattle.cu_order.specs.OrderTexts.{order_of}
use Rattle.cu_order.specs.Written.{node_row}
use Rattle.cu_order.proofs.WrittenOrders.{again, node_more}
use Rattle.cu_order.proofs.writer.write_order.Goals as goal

pub loop-rank-init : goal.loop-rank-init
loop-rank-init c = none_written c.new-writer.result 1 c.new-writer.ensures

pub write_node-requires : goal.write_node-requires
write_node-requires c = may_follow _ 1 _ c.loop-rank.invariant

pub loop-rank-preserved : goal.loop-rank-preserved
loop-rank-preserved c =
    let nodes = c.args.order.now.node_at in
    subst (HasRows c.write_node.new.writer 1) (node_more nodes c.loop-rank.rank c.node.result c.node.ensures.there)
    (adds_row c.loop-rank.writer c.write_node.new.writer 1 (map node_row (take c.loop-rank.rank nodes)) _ c.in_ok-write_node.ensures refl c.loop-rank.invariant)

pub returns-clause-text : goal.returns-clause-text
returns-clause-text c =
    let nodes = c.args.order.now.node_at in
    let count = c.nodes-rank-end.ensures.count in
    let whole : take c.loop-rank.rank nodes ≡ nodes = take_all c.loop-rank.rank nodes (omega (arith, count)) in
    IfOk-weaker c.finish.result _ _
    (λ text h. rows_of c.loop-rank.writer text.items 1 _ h c.loop-rank.invariant ∙ ap (λ (list : List ℕ). rows_text (map node_row list)) whole)
    c.finish.ensures

pub returns-clause-again : goal.returns-clause-again
returns-clause-again c =
    let nodes = c.args.order.now.node_at in
    let count = c.nodes-rank-end.ensures.count in
    let whole : take c.loop-rank.rank nodes ≡ nodes = take_all c.loop-rank.rank nodes (omega (arith, count)) in
    IfOk-weaker c.finish.result _ _
    (λ text h. ap (order_of (length nodes)) (rows_of c.loop-rank.writer text.items 1 _ h c.loop-rank.invariant ∙ ap (λ (list : List ℕ). rows_text (map node_row list)) whole)
    ∙ again c.args.order.now c.nodes-rank-end.ensures.sound)
    c.finish.ensures
