use Rattle.std.proofs.Common.{◌∙◌, ℕ, ap}
use Rattle.std.specs.Prelude.{slice_get}
use Rattle.cu_interval.specs.Shortcuts.{number_of}
use Rattle.cu_store.specs.Known.{found_at}
use Rattle.cu_filling.proofs.Putting.{something}
use Rattle.cu_filling.proofs.making.is_known.Goals as goal

pub returns-in_default : goal.returns-in_default
returns-in_default c e =
    let known = c.args.store.now.known in
    let at = c.list.ensures.number in
    something (slice_get known (number_of c.args.shortcut)) 0
    (λ none. c.in_default.not-Unknown (c.value.ensures ∙ ap (λ (n : ℕ). found_at (slice_get known n) 0) at ∙ none))
