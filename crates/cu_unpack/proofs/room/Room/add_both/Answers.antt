use Rattle.std.proofs.Common.{◌≡◌, ◌∙◌, List, ap, min, true, rules}
use Rattle.cu_arrival.specs.declared.runs.Run.{Run}
use Rattle.cu_runs.specs.Least.{Held, least_arrival}
use Rattle.cu_runs.specs.PackedRuns.{composed}
use Rattle.cu_unpack.proofs.room.Room.add_both.Goals as goal

pub returns-clause-adds : goal.returns-clause-adds
returns-clause-adds c said t lt =
    let near : c.is_near.result ≡ true = search rules in
    let held = c.self.inside.merger in (
      c.is_near.ensures.near near t lt,
      c.in_ok-add.ensures.arrival t lt
          ∙ ap (λ (first : List Run). min (least_arrival held t) (composed first c.packed-2.result.now t)) c.packed.ensures.all
          ∙ ap (λ (second : List Run). min (least_arrival held t) (composed c.args.first.now second t)) c.packed-2.ensures.all
          ∙ ap (λ (all : List Held). min (least_arrival all t) (composed c.args.first.now c.args.second.now t)) c.self.view_is,
    )
