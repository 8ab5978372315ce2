use Rattle.std.proofs.Common.{◌≡◌, ◌<◌, ◌-◌, ◌∙◌, List, Option, Some, ap, arith, length, slice_index_or, suc, sym}
use Rattle.std.specs.Prelude.{slice_get}
use Rattle.std.proofs.lemmas.Option.{slice_get-get_or}
use Rattle.cu_arrival.specs.declared.runs.Run.{Run}
use Rattle.cu_runs.specs.Layers.{layered, older}
use Rattle.cu_runs.proofs.Layers.{layered_behind, layered_long, layered_newer, layered_older}
use Rattle.cu_runs.proofs.MergeLaws.{read_there}
use Rattle.cu_runs.proofs.layered_functions.LayeredFunctions.get.Goals.{else-number-self, then-number-self+else-place-gt0}
use Rattle.cu_runs.proofs.layered_functions.LayeredFunctions.get.Goals as goal

pub returns-then-place-gt0 : goal.returns-then-place-gt0
returns-then-place-gt0 c =
    let functions = older c.self.inside.with_places c.self.inside.functions.now in
    let places = c.self.inside.places.now in
    let newer = c.self.inside.newer.now in
    let number = c.args.number in
    let place = slice_index_or places number 0 in
    let long = ap (λ (fs : List (Option (List Run))). length fs) (sym c.self.view_is) ∙ layered_long functions places newer in
    let few = c.self.invariant number 0 c.if-number-self.true in
    let there : slice_get places number ≡ Some (suc (place - 1)) = slice_get-get_or places number 0 c.if-number-self.true ∙ ap Some (omega (arith, c.if-place-gt0.true)) in
    let inside : place - 1 < length newer = omega (arith, few, c.if-place-gt0.true) in
    let is_newer = layered_newer functions places newer number (place - 1) (omega (arith, long, c.requires)) there inside in
    rw (← c.self.view_is) (is_newer ∙ read_there newer (place - 1) c.index-self-place.result inside c.index-self-place.is ∙ ap Some c.index-self-place.is)

pub older_at-requires : goal.older_at-requires
older_at-requires c =
    let functions = older c.self.inside.with_places c.self.inside.functions.now in
    let long = ap (λ (fs : List (Option (List Run))). length fs) (sym c.self.view_is) ∙ layered_long functions c.self.inside.places.now c.self.inside.newer.now in
    omega (arith, long, c.requires)

pub returns : goal.returns
returns c =
    let functions = older c.self.inside.with_places c.self.inside.functions.now in
    let places = c.self.inside.places.now in
    let newer = c.self.inside.newer.now in
    let number = c.args.number in
    let is_older : slice_get (layered functions places newer) number ≡ slice_get functions number = elim c.if-number-self.branch [
      | then-number-self+else-place-gt0 w ↦
          layered_older functions places newer number (slice_get-get_or places number 0 w.if-number-self.true ∙ ap Some (omega (arith, w.if-place-gt0.false)))
      | else-number-self w ↦ layered_behind functions places newer number (omega (arith, w.if-number-self.false))
    ] in
    rw (← c.self.view_is)
    (is_older ∙ c.older_at.ensures)
