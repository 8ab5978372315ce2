use Rattle.std.proofs.Common.{◌≡◌, ◌≤◌, ◌*◌, ◌^◌, length, take}
use Rattle.std.specs.List.{sum_by}
use Rattle.cu_cli.proofs.commands.trial.count_entries.Given as goal

abbrev pub invariant-edges : goal.invariant-edges
invariant-edges l = record {
  entries : l.entries ≡ sum_by (λ list. length list) (take (2 * l.edge) l.view.lists);
  small : l.entries ≤ l.edge * 2 ^ 33;
}
