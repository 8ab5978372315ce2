use Rattle.std.proofs.Common.{◌≡◌, ◌∙◌, ap}
use Rattle.cu_roads.specs.Written.{ThreeTexts}
use Rattle.cu_session.proofs.SessionLaws.{err_is}
use Rattle.cu_cli.proofs.StoreLaws.{stops_there, stored_then}
use Rattle.cu_cli.proofs.commands.make.store_tables.Goals as goal

pub returns-in_err-store_file : goal.returns-in_err-store_file
returns-in_err-store_file g c =
    let nodes : c.deref.result.now ≡ c.args.texts.now.nodes = c.deref.ensures.value ∙ ap (λ (t : ThreeTexts). t.nodes) c.texts.view_is in
    let refused = rw nodes at c.in_err-store_file.ensures.stores in
    rw (err_is c.from_residual.result c.in_err-store_file.field-0.0 c.from_residual.ensures.1) (record { stores = stops_there _ refused })

pub returns-in_err-store_file-2 : goal.returns-in_err-store_file-2
returns-in_err-store_file-2 g c =
    let nodes : c.deref.result.now ≡ c.args.texts.now.nodes = c.deref.ensures.value ∙ ap (λ (t : ThreeTexts). t.nodes) c.texts.view_is in
    let roads : c.deref-2.result.now ≡ c.args.texts.now.roads = c.deref-2.ensures.value ∙ ap (λ (t : ThreeTexts). t.roads) c.texts.view_is in
    let first = rw nodes at c.in_ok-store_file.ensures.stores in
    let refused = rw roads at c.in_err-store_file-2.ensures.stores in
    rw (err_is c.from_residual-in_err-store_file-2.result c.in_err-store_file-2.field-0.0 c.from_residual-in_err-store_file-2.ensures.1)
    (record { stores = stored_then first (stops_there _ refused) })

pub returns : goal.returns
returns g c =
    let nodes : c.deref.result.now ≡ c.args.texts.now.nodes = c.deref.ensures.value ∙ ap (λ (t : ThreeTexts). t.nodes) c.texts.view_is in
    let roads : c.deref-2.result.now ≡ c.args.texts.now.roads = c.deref-2.ensures.value ∙ ap (λ (t : ThreeTexts). t.roads) c.texts.view_is in
    let profiles : c.deref-3.result.now ≡ c.args.texts.now.profiles = c.deref-3.ensures.value ∙ ap (λ (t : ThreeTexts). t.profiles) c.texts.view_is in
    let first = rw nodes at c.in_ok-store_file.ensures.stores in
    let second = rw roads at c.in_ok-store_file-2.ensures.stores in
    let third = rw profiles at c.store_file-3.ensures.stores in
    record { stores = stored_then first (stored_then second third) }
