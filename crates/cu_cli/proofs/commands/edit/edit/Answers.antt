use Rattle.std.proofs.Common.{◌≡◌, ◌<◌, ◌≤◌, ◌∷◌, [], length, arith, inl, false}
use Rattle.std.specs.Prelude.{Option, codes}
use Rattle.cu_cli.specs.declared.commands.edit.EditWords.{EditWords}
use Rattle.cu_cli.specs.declared.stops.Stop.{Stop}
use Rattle.cu_pack.specs.Spelling.{spelling}
use Rattle.cu_cli.specs.declared.stops.Stop.TheVariants as stop
use Rattle.cu_cli.specs.Commands.Edit.{EndsEdit, editing}
use Rattle.cu_cli.specs.Opening.{Opens}
use Rattle.cu_cli.specs.Stops.{numbers_text}
use Rattle.cu_cli.specs.Steps.Asks.{edit_asked}
use Rattle.cu_cli.specs.Steps.Outcomes.{Did, Works, World}
use Rattle.cu_cli.specs.Words.{editing_files}
use Rattle.cu_cli.proofs.Completeness.{works}
use Rattle.cu_cli.proofs.LoadLaws.{only_refused}
use Rattle.cu_cli.proofs.OpeningLaws.{opens_held}
use Rattle.cu_cli.proofs.EditedLaws.{behind_edits, edit_law, edit_stopped, edits_large, edits_stopped, edits_stored}
use Rattle.cu_session.proofs.SessionLaws.{err_is}
use Rattle.cu_cli.proofs.StopLaws.{stop_is}
use Rattle.cu_cli.proofs.StoreLaws.{stored_behind, storing_refused, storing_said, storing_unsaid}
use Rattle.cu_cli.proofs.commands.edit.edit.Goals as goal

edit_works : (words : EditWords) {why : Option Stop} {before now : World} → Did false why (EndsEdit words.hierarchy.now words.edits.now words.out.now) before now → Works
    (edit_asked words) why before now
unfolding editing
edit_works words done = works (edit_asked words) (edit_law words.hierarchy.now words.edits.now words.out.now) done

pub returns-in_err-file : goal.returns-in_err-file
returns-in_err-file g c =
    rw (err_is c.from_residual.result c.in_err-file.field-0.0 c.from_residual.ensures.1)
    (record {
      works = λ source. edit_works c.args.asked (edit_stopped _ _ source _ c.args.asked.hierarchy.now c.args.asked.edits.now c.args.asked.out.now _ c.in_err-file.ensures.loads
          c.in_err-file.ensures.err c.in_err-file.ensures.before);
    })

pub returns-in_err-editor : goal.returns-in_err-editor
returns-in_err-editor g c =
    rw (err_is c.from_residual-in_err-editor.result stop.NoMemory c.from_residual-in_err-editor.ensures.1)
    (record {
      works = λ source. edit_works c.args.asked (edit_stopped _ _ source _ c.args.asked.hierarchy.now c.args.asked.edits.now c.args.asked.out.now stop.NoMemory
          (only_refused stop.NoMemory tt c.in_ok-file.ensures.loads) (inl (inl tt)) tt);
    })

pub returns-in_err-packed : goal.returns-in_err-packed
returns-in_err-packed g c =
    let (first, opened, spells) = c.in_ok-file.ensures.ok in
    let h = c.in_ok-editor.editor in
    let text = c.in_ok-file.file.edits.items in
    let opens : Opens (g.H.Shelf.state c.args.shelf.now) (editing_files c.args.asked.hierarchy.now c.args.asked.edits.now) h (text ∷ []) =
    opens_held (g.H.Shelf.state c.args.shelf.now) (editing_files c.args.asked.hierarchy.now c.args.asked.edits.now) (text ∷ []) opened spells c.in_ok-editor.ensures.held in
    let (after, done) = rw c.deref.ensures.value at c.in_err-packed.ensures.stopped in
    rw (stop_is c.from_residual-in_err-packed.result _ c.from_residual-in_err-packed.ensures.1)
    (record {
      works = λ source. edit_works c.args.asked (edits_stopped _ _ source _ c.args.asked.hierarchy.now c.args.asked.edits.now c.args.asked.out.now _ h after
          text c.in_ok-file.ensures.loads opens c.in_err-packed.field-0.0 done);
    })

pub returns-then-length-limit : goal.returns-then-length-limit
returns-then-length-limit g c =
    let (first, opened, spells) = c.in_ok-file.ensures.ok in
    let h = c.in_ok-editor.editor in
    let after = c.in_ok-packed.packed in
    let text = c.in_ok-file.file.edits.items in
    let opens : Opens (g.H.Shelf.state c.args.shelf.now) (editing_files c.args.asked.hierarchy.now c.args.asked.edits.now) h (text ∷ []) =
    opens_held (g.H.Shelf.state c.args.shelf.now) (editing_files c.args.asked.hierarchy.now c.args.asked.edits.now) (text ∷ []) opened spells c.in_ok-editor.ensures.held in
    let done = rw c.deref.ensures.value at c.in_ok-packed.ensures.ended in
    let same : c.length-length.result ≡ length (spelling after) = c.length-length.ensures in
    let large : (g.H.Shelf.state c.args.shelf.now).most < length (spelling after) = omega (arith, same, c.limit.ensures, c.in_ok-file.ensures.loads.most, c.if-length-limit.true) in
    rw same (record {
      works = λ source. edit_works c.args.asked (edits_large _ _ source _ c.args.asked.hierarchy.now c.args.asked.edits.now c.args.asked.out.now _ h after text
          c.in_ok-file.ensures.loads opens done large);
    })

pub returns-in_err-store_content : goal.returns-in_err-store_content
returns-in_err-store_content g c =
    let (first, opened, spells) = c.in_ok-file.ensures.ok in
    let h = c.in_ok-editor.editor in
    let after = c.in_ok-packed.packed in
    let text = c.in_ok-file.file.edits.items in
    let opens : Opens (g.H.Shelf.state c.args.shelf.now) (editing_files c.args.asked.hierarchy.now c.args.asked.edits.now) h (text ∷ []) =
    opens_held (g.H.Shelf.state c.args.shelf.now) (editing_files c.args.asked.hierarchy.now c.args.asked.edits.now) (text ∷ []) opened spells c.in_ok-editor.ensures.held in
    let done = rw c.deref.ensures.value at c.in_ok-packed.ensures.ended in
    let same : c.length-length.result ≡ length (spelling after) = c.length-length.ensures in
    let few : length (spelling after) ≤ (g.H.Shelf.state c.args.shelf.now).most = omega (arith, same, c.limit.ensures, c.in_ok-file.ensures.loads.most, c.if-length-limit.false) in
    let stores = c.in_err-store_content.ensures.stores in
    rw (err_is c.from_residual-in_err-store_content.result c.in_err-store_content.field-0.0 c.from_residual-in_err-store_content.ensures.1)
    (record {
      works = λ source.
          edit_works c.args.asked (edits_stored _ _ source _ c.args.asked.hierarchy.now c.args.asked.edits.now c.args.asked.out.now _ h after text c.in_ok-file.ensures.loads opens done few
          (storing_refused source (behind_edits _ _ source _ c.args.asked.hierarchy.now c.args.asked.edits.now c.args.asked.out.now _ h after text c.in_ok-file.ensures.loads opens done)
          (numbers_text (codes "stored") (length (spelling after) ∷ [])) (stored_behind c.in_ok-file.ensures.loads stores)));
    })

pub returns-in_err-put_numbers_line : goal.returns-in_err-put_numbers_line
returns-in_err-put_numbers_line g c =
    let (first, opened, spells) = c.in_ok-file.ensures.ok in
    let h = c.in_ok-editor.editor in
    let after = c.in_ok-packed.packed in
    let text = c.in_ok-file.file.edits.items in
    let opens : Opens (g.H.Shelf.state c.args.shelf.now) (editing_files c.args.asked.hierarchy.now c.args.asked.edits.now) h (text ∷ []) =
    opens_held (g.H.Shelf.state c.args.shelf.now) (editing_files c.args.asked.hierarchy.now c.args.asked.edits.now) (text ∷ []) opened spells c.in_ok-editor.ensures.held in
    let done = rw c.deref.ensures.value at c.in_ok-packed.ensures.ended in
    let same : c.length-length.result ≡ length (spelling after) = c.length-length.ensures in
    let few : length (spelling after) ≤ (g.H.Shelf.state c.args.shelf.now).most = omega (arith, same, c.limit.ensures, c.in_ok-file.ensures.loads.most, c.if-length-limit.false) in
    let stores = c.in_ok-store_content.ensures.stores in
    let said = rw same at c.in_err-put_numbers_line.ensures.wrote in
    rw (err_is c.from_residual-in_err-put_numbers_line.result stop.Sink c.from_residual-in_err-put_numbers_line.ensures.1)
    (record {
      works = λ source.
          edit_works c.args.asked (edits_stored _ _ source _ c.args.asked.hierarchy.now c.args.asked.edits.now c.args.asked.out.now _ h after text c.in_ok-file.ensures.loads opens done few
          (storing_unsaid source (behind_edits _ _ source _ c.args.asked.hierarchy.now c.args.asked.edits.now c.args.asked.out.now _ h after text c.in_ok-file.ensures.loads opens done)
          (stored_behind c.in_ok-file.ensures.loads stores) said));
    })

pub returns : goal.returns
returns g c =
    let (first, opened, spells) = c.in_ok-file.ensures.ok in
    let h = c.in_ok-editor.editor in
    let after = c.in_ok-packed.packed in
    let text = c.in_ok-file.file.edits.items in
    let opens : Opens (g.H.Shelf.state c.args.shelf.now) (editing_files c.args.asked.hierarchy.now c.args.asked.edits.now) h (text ∷ []) =
    opens_held (g.H.Shelf.state c.args.shelf.now) (editing_files c.args.asked.hierarchy.now c.args.asked.edits.now) (text ∷ []) opened spells c.in_ok-editor.ensures.held in
    let done = rw c.deref.ensures.value at c.in_ok-packed.ensures.ended in
    let same : c.length-length.result ≡ length (spelling after) = c.length-length.ensures in
    let few : length (spelling after) ≤ (g.H.Shelf.state c.args.shelf.now).most = omega (arith, same, c.limit.ensures, c.in_ok-file.ensures.loads.most, c.if-length-limit.false) in
    let stores = c.in_ok-store_content.ensures.stores in
    let said = rw same at c.in_ok-put_numbers_line.ensures.wrote in
    record {
      works = λ source.
          edit_works c.args.asked (edits_stored _ _ source _ c.args.asked.hierarchy.now c.args.asked.edits.now c.args.asked.out.now _ h after text c.in_ok-file.ensures.loads opens done few
          (storing_said source (behind_edits _ _ source _ c.args.asked.hierarchy.now c.args.asked.edits.now c.args.asked.out.now _ h after text c.in_ok-file.ensures.loads opens done)
          (stored_behind c.in_ok-file.ensures.loads stores) said));
    }
