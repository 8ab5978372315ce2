use Rattle.std.proofs.Common.{◌∙◌, List, ap, min, sym}
use Rattle.cu_model.specs.Networks.{NetworkValue}
use Rattle.cu_model.specs.Roads.{arc_value}
use Rattle.cu_arrival.specs.declared.runs.Run.{Run}
use Rattle.cu_runs.specs.Least.{Held, least_arrival}
use Rattle.cu_runs.specs.PackedRuns.{composed}
use Rattle.cu_unpack.proofs.PackedWays.{adds_road}
use Rattle.cu_unpack.proofs.room.Room.add_road.Goals as goal

pub returns : goal.returns
returns g c =
    let h = g.W.Ways.hierarchy c.args.ways.now in
    let stay = c.self.inside.stay.items in
    let road = c.put_road.new.packed.items in
    adds_road h.network c.requires.sound.network c.args.road c.requires.road stay road c.args.self.now c.add.new.self c.self.invariant
    (λ t lt. c.in_ok-put_road.ensures.value t lt ∙ ap (λ (n : NetworkValue). arc_value n c.args.road t) (sym (g.met.W.Ways.same_network c.args.ways.now)))
    (λ t lt. c.in_ok-add.ensures.arrival t lt
    ∙ ap (λ (first : List Run). min (least_arrival c.self.inside.merger t) (composed first c.deref-2.result.now t)) c.deref.ensures.value
    ∙ ap (λ (second : List Run). min (least_arrival c.self.inside.merger t) (composed stay second t)) c.deref-2.ensures.value
    ∙ ap (λ (all : List Held). min (least_arrival all t) (composed stay road t)) c.self.view_is)
