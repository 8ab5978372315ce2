use Rattle.std.proofs.Common.{◌+◌, ◌-◌, ◌<◌, min}
use Rattle.cu_arrival.specs.declared.runs.RunRule.TheVariants.{Shift}
use Rattle.cu_arrival.specs.Runs.{arrives}
use Rattle.cu_runs.specs.Steps.Linking.{IsReached}
use Rattle.cu_runs.proofs.LinkLaws.{Reaches}
use Rattle.cu_runs.proofs.linking.link_shift.Given as goal

abbrev pub invariant-places : goal.invariant-places
invariant-places l = record {
  place : IsReached l.second l.place (l.until - 1 + l.seconds);
  later : l.from + l.seconds < l.place.end;
  said : Reaches l.second (arrives (Shift l.seconds)) l.from l.until l.fn.linked.items l.linked.items (min (l.place.end - l.seconds) l.until);
}

abbrev pub decreases-places : goal.decreases-places
decreases-places l = (l.until + l.seconds) - l.place.end
