-- The functions of the edges so far are taken.
use Rattle.std.proofs.Common.{◌≡◌, ◌*◌, length}
use Rattle.cu_unpack.specs.Rebuilds.{Keeps}
use Rattle.cu_edits.proofs.TurnedPlain.{AreSaid}
use Rattle.cu_edits.proofs.plain_functions.plain_of_packed.Given as goal

abbrev pub invariant-edges : goal.invariant-edges
invariant-edges g l = record {
  size : length l.rebuilt.kept ≡ 2 * length l.parts.before.edges;
  keeps : Keeps l.parts.before l.rebuilt;
  said : AreSaid l.parts.before l.settled l.moved l.touched-index l.known.items;
}
