use Rattle.std.proofs.Common.{rules, ◌≡◌, ◌∙◌, length, ap}
use Rattle.std.specs.Prelude.{Ok, Err}
use Rattle.std.proofs.lemmas.Result.{err_from_is_err_and}
use Rattle.cu_profile.specs.declared.refusals.ProfileRefusal.TheVariants as profile
use Rattle.cu_roads.proofs.NetworkReads.{given-joined, given-refused}
use Rattle.cu_roads.proofs.RefusedNetworks.{of_table}
use Rattle.cu_roads.proofs.reader.read_roads.Goals as goal

pub returns-in_err-places-clause-network : goal.returns-in_err-places-clause-network
returns-in_err-places-clause-network c =
    let p = err_from_is_err_and c.from_residual.result c.from_residual.ensures.1 in
    let why = c.in_err-places.field-0.0 in
    rw (p.1, p.2) (λ n. given-refused c.args.nodes.now c.args.roads.now c.args.profiles.items why (c.in_err-places.ensures.refused n))

pub returns-in_err-places-clause-memory : goal.returns-in_err-places-clause-memory
returns-in_err-places-clause-memory c =
    let p = err_from_is_err_and c.from_residual.result c.from_residual.ensures.1 in
    of_table c.in_err-places.field-0.0 c.from_residual.result profile.NoMemory c.in_err-places.ensures.table (p.1 ∙ ap Err p.2)

pub returns-in_err-arcs-clause-network : goal.returns-in_err-arcs-clause-network
returns-in_err-arcs-clause-network c =
    let p = err_from_is_err_and c.from_residual-in_err-arcs.result c.from_residual-in_err-arcs.ensures.1 in
    let why = c.in_err-arcs.field-0.0 in
    rw (p.1, p.2) (λ n. given-joined c.args.nodes.now c.args.roads.now c.args.profiles.items c.in_ok-places.places.items
    c.len-node_count.result c.len.result (Err why) c.in_ok-places.ensures.places (search rules) (search rules) (c.in_err-arcs.ensures.refused n))

pub returns-in_err-arcs-clause-memory : goal.returns-in_err-arcs-clause-memory
returns-in_err-arcs-clause-memory c =
    let p = err_from_is_err_and c.from_residual-in_err-arcs.result c.from_residual-in_err-arcs.ensures.1 in
    of_table c.in_err-arcs.field-0.0 c.from_residual-in_err-arcs.result profile.NoMemory c.in_err-arcs.ensures.table (p.1 ∙ ap Err p.2)

pub returns-clause-network : goal.returns-clause-network
returns-clause-network c =
    let k = given-joined c.args.nodes.now c.args.roads.now c.args.profiles.items c.in_ok-places.places.items
    c.len-node_count.result c.len.result (Ok c.in_ok-arcs.arcs.items) c.in_ok-places.ensures.places (search rules) (search rules) c.in_ok-arcs.ensures.arcs in
    let count : c.len-node_count.result ≡ length c.in_ok-places.places.items = search rules in
    rw (c.of-network.ensures, count) k
