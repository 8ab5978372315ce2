use Rattle.std.proofs.Common.{subst, sym}
use Rattle.cu_edits.specs.Learned.{ArePackedOf}
use Rattle.cu_edits.proofs.LearntPacked.{learns_list}
use Rattle.cu_edits.proofs.learned.Learned.learn.Goals as goal

pub returns-clause-packed : goal.returns-clause-packed
returns-clause-packed g c =
    let h = g.W.Ways.hierarchy c.args.ways.now in
    let before = subst (ArePackedOf h) (sym c.self.view_is) c.requires.packed in
    (learns_list h c.args.edge c.self.inside.functions c.learn.new.self before c.learn.ensures.size c.learn.ensures.learns).packed
