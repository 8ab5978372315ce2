use Rattle.std.proofs.Common.{◌≡◌, ◌<◌, ◌^◌, ℕ, min, sym, subst}
use Rattle.std.proofs.lemmas.Result.{IfOk-weaker}
use Rattle.cu_model.specs.Days.{day}
use Rattle.cu_arrival.specs.Runs.{arrival_value}
use Rattle.cu_interval.specs.declared.ways.Way.{Way}
use Rattle.cu_unpack.specs.Rebuilds.{IsKept}
use Rattle.cu_unpack.specs.Steps.Rebuilding.{HasHalves, IsWayFunction, IsWayOf}
use Rattle.cu_unpack.proofs.WayFunctions.{via_function}
use Rattle.cu_unpack.proofs.rebuilding.way_function.Goals as goal

pub kept_function-requires : goal.kept_function-requires
kept_function-requires g c =
    let halves = subst (HasHalves (g.W.Ways.hierarchy c.args.ways.now) (IsKept c.args.rebuilt.now.kept) c.args.shortcut) c.in-Via.is c.requires.halves in
    (halves c.halves.result.0 c.halves.result.1 c.halves.ensures.halves).0

pub kept_function-requires-in-Via : goal.kept_function-requires-in-Via
kept_function-requires-in-Via g c =
    let halves = subst (HasHalves (g.W.Ways.hierarchy c.args.ways.now) (IsKept c.args.rebuilt.now.kept) c.args.shortcut) c.in-Via.is c.requires.halves in
    (halves c.halves.result.0 c.halves.result.1 c.halves.ensures.halves).1

pub returns-in-Via-clause-function : goal.returns-in-Via-clause-function
returns-in-Via-clause-function g c =
    let h = g.W.Ways.hierarchy c.args.ways.now in
    let whole = c.args.shortcut in
    let to = c.kept_function.result.now in
    let on = c.kept_function-in-Via.result.now in
    let way = subst (IsWayOf h whole) c.in-Via.is c.requires.way in
    IfOk-weaker c.compose.result (λ f. (t : ℕ) → t < day → arrival_value f t ≡ min (arrival_value on (arrival_value to t)) (2 ^ 62)) (IsWayFunction h whole c.args.way)
    (λ f value. subst (λ (w : Way). IsWayFunction h whole w f) (sym c.in-Via.is)
    (via_function h c.requires.sound c.args.rebuilt.now.kept c.requires.kept whole c.halves.result.0 c.halves.result.1 c.in-Via.middle way c.halves.ensures.halves to on f
    c.kept_function.ensures c.kept_function-in-Via.ensures value))
    c.compose.ensures.value
