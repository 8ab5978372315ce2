use Rattle.cu_chordal.proofs.Layouts.{finds_index}
use Rattle.cu_chordal.proofs.graph.index_of.Goals as goal

pub returns : goal.returns
returns c = finds_index c.args.numbers.now c.args.number c.binary_search.result c.ok.result c.requires c.binary_search.ensures.position c.ok.ensures.value
