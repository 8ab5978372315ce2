use Rattle.std.proofs.Common.{◌≡◌, ◌*◌}
use Rattle.cu_roads.specs.Draws.{after}
use Rattle.cu_roads.specs.Grids.{drawn_days}
use Rattle.cu_roads.proofs.grids.draw_days.Given as goal

abbrev pub invariant-loop : goal.invariant-loop
invariant-loop l = record {
  days : l.profiles.items ≡ drawn_days l.counter l.fn.draws;
  state : l.draws ≡ after (2 * l.counter) l.fn.draws;
}
