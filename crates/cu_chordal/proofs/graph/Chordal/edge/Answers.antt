use Rattle.std.proofs.Common.{◌≡◌, None, sym, subst, arith}
use Rattle.cu_chordal.specs.Graphs.{FindsEdge, up_of}
use Rattle.cu_chordal.proofs.Layouts.{edge_found, edge_missed, index_small}
use Rattle.cu_chordal.proofs.graph.Chordal.edge.Goals as goal

pub index_of-requires : goal.index_of-requires
index_of-requires c = c.up.ensures.rising

pub returns-in_err-index-clause-found : goal.returns-in_err-index-clause-found
returns-in_err-index-clause-found c =
    let e : c.from_residual.result ≡ None = (cc) in
    subst (FindsEdge c.args.self.now.edges c.args.low c.args.high) (sym e) (edge_missed c.args.self.now c.args.low c.args.high c.up.result.now c.up.ensures.exact c.in_err-index.ensures)

pub overflow_cast-result : goal.overflow_cast-result
overflow_cast-result c =
    let small = index_small (up_of c.args.self.now.edges c.args.low) c.up.result.now c.first_edge.result c.args.high c.in_ok-index.index
    c.up.ensures.exact c.first_edge.ensures.few c.in_ok-index.ensures in omega (arith, small)

pub overflow_add-result : goal.overflow_add-result
overflow_add-result c =
    let small = index_small (up_of c.args.self.now.edges c.args.low) c.up.result.now c.first_edge.result c.args.high c.in_ok-index.index
    c.up.ensures.exact c.first_edge.ensures.few c.in_ok-index.ensures in omega (arith, small)

pub returns-clause-found : goal.returns-clause-found
returns-clause-found c = edge_found c.args.self.now c.args.low c.args.high c.first_edge.result c.in_ok-index.index c.first_edge.ensures.numbers c.up.result.now c.up.ensures.exact c.in_ok-index.ensures
