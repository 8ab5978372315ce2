use Rattle.std.proofs.Common.{subst, sym}
use Rattle.cu_edits.specs.declared.learning_packed.Middles.{Middles}
use Rattle.cu_edits.specs.Steps.Triangles.{AreLeftOut}
use Rattle.cu_edits.proofs.learning_packed.is_left_out.Goals as goal

pub returns-in-Within : goal.returns-in-Within
returns-in-Within g c is =
    subst (λ (w : Middles). AreLeftOut c.args.parts.now.before w c.args.moved.now c.args.edges) (sym c.in-Within.is)
    (c.are_both_unmoved.ensures c.if-not-are_both_unmoved.false, c.take_more.ensures is)

pub returns-in-Moved : goal.returns-in-Moved
returns-in-Moved g c is =
    subst (λ (w : Middles). AreLeftOut c.args.parts.now.before w c.args.moved.now c.args.edges) (sym c.in-Moved.is)
    (c.are_both_unmoved.ensures c.if-not-are_both_unmoved.false)
