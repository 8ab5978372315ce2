use Rattle.std.proofs.Common.{arith}
use Rattle.std.proofs.lemmas.Result.{IfOk-weaker}
use Rattle.cu_chordal.proofs.Layouts.{lower_asks, lower_listed}
use Rattle.cu_chordal.proofs.table.EdgeTable.lower.Goals as goal

pub of-requires-clause-few : goal.of-requires-clause-few
of-requires-clause-few c = let asked = lower_asks c.args.ranks c.args.self.now c.deref.result.now c.deref.ensures.value c.requires.table c.requires.sound in omega (arith, asked.0)

pub of-requires-clause-in_range : goal.of-requires-clause-in_range
of-requires-clause-in_range c = (lower_asks c.args.ranks c.args.self.now c.deref.result.now c.deref.ensures.value c.requires.table c.requires.sound).1

pub returns : goal.returns
returns c = IfOk-weaker c.of.result _ _ (λ groups f. lower_listed c.args.ranks c.args.self.now c.deref.result.now c.deref-2.result.now groups
    c.deref.ensures.value c.deref-2.ensures.value f) c.of.ensures
