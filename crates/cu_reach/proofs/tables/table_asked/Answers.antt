use Rattle.std.proofs.Common.{rules, sym}
use Rattle.cu_reach.proofs.TableLaws.{parts_of, table_found}
use Rattle.cu_reach.proofs.tables.table_asked.Goals as goal

pub invariant_of-result : goal.invariant_of-result
invariant_of-result c =
    let (nodes, few, scanned) = c.requires.scanned in
    parts_of nodes _ _ c.args.scan c.args.sources few scanned (search rules) c.requires.sources c.behind.ensures

pub returns : goal.returns
returns c nodes s scanned is =
    table_found nodes s c.in-Some.second c.args.sources _ _ c.args.scan scanned (search rules) (c.in-Some.ensures s is) c.requires.sources (sym c.if-is_large.ensures)
    c.behind.ensures
