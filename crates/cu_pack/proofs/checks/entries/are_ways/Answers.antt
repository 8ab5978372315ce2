use Rattle.std.proofs.Math.Nat.{min-le_left, min-le_right}
use Rattle.cu_pack.proofs.Numbering.Cursors.{cursors_more}
use Rattle.cu_pack.proofs.checks.entries.are_ways.Goals as goal

pub has_way-requires-clause-places : goal.has_way-requires-clause-places
has_way-requires-clause-places c = cursors_more c.args.sections.now _ c.args.from c.args.places.now (min-le_left c.args.from c.args.to) c.requires.places

pub has_way-requires-then-has_way-clause-places : goal.has_way-requires-then-has_way-clause-places
has_way-requires-then-has_way-clause-places c = cursors_more c.args.sections.now _ c.args.to c.args.places.now (min-le_right c.args.from c.args.to) c.requires.places
