-- The edges so far are marked.
use Rattle.std.proofs.Common.{◌≡◌, length, drop}
use Rattle.cu_edits.specs.Customized.{marked}
use Rattle.cu_edits.proofs.customized.CustomizedEdges.mark.Given as goal

abbrev pub invariant-edges : goal.invariant-edges
invariant-edges l = record {
  long : length l.self-inside.marks.items ≡ length l.fn.self;
  marked : marked l.self-inside.marks.items (drop l.settled-index l.touched) ≡ marked l.fn.self l.touched;
}
