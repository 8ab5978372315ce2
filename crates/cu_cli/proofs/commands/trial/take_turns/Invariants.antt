use Rattle.std.proofs.Common.{◌≡◌, ◌≤◌}
use Rattle.cu_interval.specs.Hierarchies.{IsBuilt}
use Rattle.cu_cli.specs.Steps.Trials.{IsDrawable, IsSmall, standing}
use Rattle.cu_cli.specs.Trials.{IsTried}
use Rattle.cu_cli.proofs.commands.trial.take_turns.Given as goal

abbrev pub invariant-turns : goal.invariant-turns
invariant-turns l = record {
  tried : IsTried l.fn.router.order (standing l.fn.router.network l.fn.tally) l.number (standing l.router.network l.tally);
  order : l.router.order ≡ l.fn.router.order;
  built : IsBuilt l.router;
  drawable : IsDrawable l.router.network;
  reached : l.tally.reached ≤ l.number;
  edits : l.tally.edits ≤ l.number;
  small : IsSmall l.tally;
}
