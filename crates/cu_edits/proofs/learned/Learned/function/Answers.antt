use Rattle.std.proofs.Common.{◌≡◌, ◌∙◌, List, Option, None, Some, ap, subst}
use Rattle.std.specs.Prelude.{slice_get}
use Rattle.cu_arrival.specs.declared.runs.Run.{Run}
use Rattle.cu_interval.specs.Hierarchies.{list_number}
use Rattle.cu_unpack.specs.RebuiltRuns.{PackedValue}
use Rattle.cu_edits.proofs.KnownLists.{known_runs, read_at, rebuilt_copy}
use Rattle.cu_edits.proofs.learned.Learned.function.Goals as goal

pub returns-in_ok-to_arrival-in-Some : goal.returns-in_ok-to_arrival-in-Some
returns-in_ok-to_arrival-in-Some c h are =
    let packed = c.args.self.now in
    let same : c.functions-functions.result ≡ packed.functions = c.functions-functions.ensures ∙ ap (λ (p : PackedValue). p.functions) c.self.view_is in
    let at = read_at packed.functions c.functions-functions.result (list_number c.args.edge c.args.dir) c.list.result c.get.result.now
    same c.list.ensures.number c.get.ensures in
    let here = subst (λ (o : Option (List Run)). slice_get packed.functions (list_number c.args.edge c.args.dir) ≡ Some o) c.in-Some.is at in
    let is = known_runs h packed c.args.edge c.args.dir (Some c.in-Some.function) are c.requires.known here in
    rebuilt_copy h c.args.edge c.args.dir c.in-Some.function c.in_ok-to_arrival-in-Some.field-0 is c.in_ok-to_arrival-in-Some.ensures.sound
    c.in_ok-to_arrival-in-Some.ensures.value

pub returns-in-None : goal.returns-in-None
returns-in-None c h are =
    let packed = c.args.self.now in
    let same : c.functions-functions.result ≡ packed.functions = c.functions-functions.ensures ∙ ap (λ (p : PackedValue). p.functions) c.self.view_is in
    let at = read_at packed.functions c.functions-functions.result (list_number c.args.edge c.args.dir) c.list.result c.get.result.now
    same c.list.ensures.number c.get.ensures in
    let here = subst (λ (o : Option (List Run)). slice_get packed.functions (list_number c.args.edge c.args.dir) ≡ Some o) c.in-None.is at in
    known_runs h packed c.args.edge c.args.dir None are c.requires.known here
