use Rattle.std.proofs.Common.{◌≡◌, ◌≢◌, ◌<◌, ◌-◌, ◌∙◌, ℕ, suc, None, Some, ap, arith, length, refl, subst, sym}
use Rattle.std.specs.Prelude.{slice_set}
use Rattle.std.proofs.lemmas.Option.{slice_get_read}
use Rattle.cu_edits.specs.Steps.Moving.{LetsGo, MovedValue}
use Rattle.cu_edits.proofs.LettingGo.{lets_one}
use Rattle.cu_edits.proofs.moved_lists.MovedLists.let_go_of_list.Goals as goal

pub returns : goal.returns
returns c =
    let inside : MovedValue = record { places = c.self.inside.places.items; functions = c.self.inside.functions.items; low = c.self.inside.low } in
    let number = c.args.number in
    let place = c.index-place.result.now in
    let within : number < length inside.places = subst (λ (m : MovedValue). number < length m.places) (sym c.self.view_is) c.requires in
    let at = slice_get_read inside.places (length inside.places) number place refl within c.index-place.ensures in
    let some = c.if-place-eq0.false in
    let one_more : place ≡ suc (place - 1) = omega (arith, some) in
    subst (λ (m : MovedValue). LetsGo (λ (list : ℕ). list ≢ number) m (record { places = inside.places; functions = slice_set inside.functions (place - 1) None; low = inside.low })) c.self.view_is
    (lets_one inside number (place - 1) c.self.invariant.1 (at ∙ ap (λ (p : ℕ). Some p) one_more))
