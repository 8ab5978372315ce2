use Rattle.std.proofs.Common.{◌≢◌, ◌<◌, List, arith, length, sym, subst}
use Rattle.std.specs.Prelude.{All}
use Rattle.cu_runs.specs.declared.merging.TheConstants.{NOBODY}
use Rattle.cu_runs.specs.declared.merging.WayRun.{WayRun}
use Rattle.cu_runs.specs.Least.{IsWayRuns, least_way}
use Rattle.cu_customize.specs.Steps.Gathering.{ways_of}
use Rattle.cu_customize.specs.Triangles.{middles_in}
use Rattle.cu_customize.proofs.Pulls.{entries_list, pulled, runs_within}
use Rattle.cu_customize.proofs.pulling.pull.Goals as goal

pub entries_of-requires : goal.entries_of-requires
entries_of-requires c =
    let some : least_way c.args.merger.now 0 ≢ NOBODY = λ nobody. let empty = c.is_empty.ensures.1 nobody in absurd (cc (empty, c.if-is_empty.false)) in
    subst (λ (runs : List WayRun). All (λ (run : WayRun). run.way < length (ways_of c.args.task.now)) runs) (sym c.deref.ensures.value)
    (runs_within c.args.merger.now c.in_ok-runs.runs.items c.in_ok-runs.ensures (ways_of c.args.task.now) (c.requires.held some))

pub list_of-requires-2 : goal.list_of-requires-2
list_of-requires-2 c =
    (entries_list c.args.task.now.arcs.now (middles_in c.args.task.now.triangles.now) c.requires.task.1.arcs_rise c.requires.task.1.middles_rise c.args.merger.now c.deref.result.now
    c.in_ok-entries.entries.items
    (subst (λ (runs : List WayRun). IsWayRuns c.args.merger.now runs) (sym c.deref.ensures.value) c.in_ok-runs.ensures) c.in_ok-entries.ensures).0

pub returns : goal.returns
returns c =
    let some : least_way c.args.merger.now 0 ≢ NOBODY = λ nobody. let empty = c.is_empty.ensures.1 nobody in absurd (cc (empty, c.if-is_empty.false)) in
    pulled c.requires.task.0 c.args.task.now c.args.merger.now c.deref.result.now c.in_ok-runs.runs.items c.in_ok-entries.entries.items c.list_of-2.result
    c.in_ok-least_runs.field-0.items c.in_ok-function.function
    c.requires.task.1 some
    c.in_ok-runs.ensures c.deref.ensures.value c.in_ok-entries.ensures c.list_of-2.ensures c.in_ok-function.ensures c.in_ok-least_runs.ensures.function c.in_ok-least_runs.ensures.value

pub least_runs-requires-clause-limit : goal.least_runs-requires-clause-limit
least_runs-requires-clause-limit c t lt =
    let some : least_way c.args.merger.now 0 ≢ NOBODY = λ nobody. let empty = c.is_empty.ensures.1 nobody in absurd (cc (empty, c.if-is_empty.false)) in
    ((c.requires.held some).arrivals t lt).1

pub function_of-requires-clause-onward : goal.function_of-requires-clause-onward
function_of-requires-clause-onward c t lt =
    let some : least_way c.args.merger.now 0 ≢ NOBODY = λ nobody. let empty = c.is_empty.ensures.1 nobody in absurd (cc (empty, c.if-is_empty.false)) in
    let near = ((c.requires.held some).arrivals t lt).0 in
    let value = c.in_ok-least_runs.ensures.value t lt in
    omega (arith, near, value)
