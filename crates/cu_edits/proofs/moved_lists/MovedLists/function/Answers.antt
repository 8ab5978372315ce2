use Rattle.std.proofs.Common.{◌≡◌, ◌<◌, ℕ, Some, length, refl, subst, sym}
use Rattle.std.specs.Prelude.{slice_get}
use Rattle.std.proofs.lemmas.Option.{slice_get_read}
use Rattle.cu_edits.specs.Steps.Moving.{IsMovedTo, MovedValue}
use Rattle.cu_edits.proofs.MovedPlaces.{moved_to}
use Rattle.cu_edits.proofs.moved_lists.MovedLists.function.Goals as goal

pub returns-clause-moved : goal.returns-clause-moved
returns-clause-moved c =
    let inside : MovedValue = record { places = c.self.inside.places.items; functions = c.self.inside.functions.items; low = c.self.inside.low } in
    let within : c.list.result < length inside.places =
    subst (λ (m : MovedValue). c.list.result < length m.places) (sym c.self.view_is) (subst (λ (n : ℕ). n < length c.args.self.now.places) (sym c.list.ensures.number) c.requires) in
    let at = slice_get_read inside.places (length inside.places) c.list.result c.index-place.result.now refl within c.index-place.ensures in
    subst (λ (m : MovedValue). IsMovedTo m c.args.edge c.args.dir c.index.result.now) c.self.view_is
    (moved_to inside c.args.edge c.args.dir c.index-place.result.now c.index.result.now c.self.invariant.0
    (subst (λ (n : ℕ). slice_get inside.places n ≡ Some c.index-place.result.now) c.list.ensures.number at) c.if-place-eq0.false c.index.ensures)
