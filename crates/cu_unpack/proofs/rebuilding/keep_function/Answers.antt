use Rattle.std.proofs.Common.{◌≡◌, ◌∙◌, ℕ, List, Option, ap}
use Rattle.std.specs.Prelude.{slice_set}
use Rattle.cu_arrival.specs.declared.runs.Run.{Run}
use Rattle.cu_interval.specs.Shortcuts.{number_of}
use Rattle.cu_unpack.specs.Rebuilds.{RebuiltValue}
use Rattle.cu_unpack.proofs.HalfEdges.{keeps_one}
use Rattle.cu_unpack.proofs.rebuilding.keep_function.Goals as goal

pub returns-clause-found : goal.returns-clause-found
returns-clause-found g c =
    let before = c.rebuilt.inside.kept.items in
    let function = c.in_ok-function.function in
    let same : before ≡ c.args.rebuilt.now.kept = ap (λ (v : RebuiltValue). v.kept) c.rebuilt.view_is in
    keeps_one (g.W.Ways.hierarchy c.args.ways.now) c.least_function.ensures.sound c.args.shortcut c.args.rebuilt.now.kept (slice_set before c.list.result function) function
    c.requires.ways.1 c.in_ok-function.ensures.least
    (ap (λ (n : ℕ). slice_set before n function) c.list.ensures.number ∙ ap (λ (kept : List (Option (List Run))). slice_set kept (number_of c.args.shortcut) function) same)
