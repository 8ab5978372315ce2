-- The counts of these objects never rise, so no fault is the cause of an end.
use Rattle.std.proofs.Common.{◌≡◌, ◌∙◌, arith, map, string_bytes}
use Rattle.cu_io.specs.Counts.{Rose}
use Rattle.cu_cli.specs.Stops.{status_at}
use Rattle.cu_cli.specs.Sure.{shelf_state}
use Rattle.cu_cli.proofs.Faultless.{faultless, no_fault}
use Rattle.cu_cli.proofs.sure.run_surely.Goals as goal

never : Rose 0 0 → ⊥
never rose = absurd (omega (arith, rose))

pub returns-clause-ended : goal.returns-clause-ended
returns-clause-ended c =
    let (ending, status, ends, moves, stores) = c.run.ensures.ended in
    let file = no_fault (shelf_state c.args.shelf.now) (shelf_state c.run.new.shelf) (λ name. never) (λ name. never) _ _ (map string_bytes c.args.words.now.items) ending ends in
    let source : status_at ending.stop ≡ 7 → ⊥ = λ is. never (c.run.ensures.leaves.source_fault (status ∙ is)) in
    let sink : status_at ending.stop ≡ 8 → ⊥ = λ is. never (c.run.ensures.leaves.sink_fault (status ∙ is)) in
    (ending, status, faultless ending.stop file source sink, ends, moves, stores)

pub returns-clause-complete : goal.returns-clause-complete
returns-clause-complete c can short = c.run.ensures.complete can short (record { loads = λ name. never; stores = λ name. never; source = never; sink = never })
