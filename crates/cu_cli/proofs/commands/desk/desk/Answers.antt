use Rattle.std.proofs.Common.{◌≡◌, ◌∙◌, ◌<◌, ◌≤◌, ◌∷◌, [], ℕ, List, length, ap, arith, inl, true}
use Rattle.std.specs.Prelude.{Option}
use Rattle.cu_pack.specs.Spelling.{spelling}
use Rattle.cu_session.proofs.SessionLaws.{err_is}
use Rattle.cu_cli.specs.declared.commands.desk.DeskWords.{DeskWords}
use Rattle.cu_cli.specs.declared.stops.Stop.{Stop}
use Rattle.cu_cli.specs.declared.stops.Stop.TheVariants as stop
use Rattle.cu_cli.specs.Commands.Desk.{EndsDesk, serving_desk}
use Rattle.cu_cli.specs.Opening.{Opens}
use Rattle.cu_cli.specs.Steps.Asks.{desk_asked}
use Rattle.cu_cli.specs.Steps.Outcomes.{Did, Works, World}
use Rattle.cu_cli.specs.Words.{hierarchy_file}
use Rattle.cu_cli.proofs.Completeness.{works}
use Rattle.cu_cli.proofs.DeskLaws.{behind_lines, desk_early, desk_large, desk_law, desk_stopped, desk_stored, stored_text}
use Rattle.cu_cli.proofs.LoadLaws.{only_refused}
use Rattle.cu_cli.proofs.OpeningLaws.{opens_held}
use Rattle.cu_cli.proofs.StopLaws.{stop_is}
use Rattle.cu_cli.proofs.StoreLaws.{stored_behind, storing_refused, storing_said, storing_unsaid}
use Rattle.cu_cli.proofs.commands.desk.desk.Goals as goal

desk_works : (words : DeskWords) {why : Option Stop} {before now : World} → Did true why (EndsDesk words.hierarchy.now words.out.now) before now
    → Works (desk_asked words) why before now
unfolding serving_desk
desk_works words done = works (desk_asked words) (desk_law words.hierarchy.now words.out.now) done

pub returns-in_err-bytes : goal.returns-in_err-bytes
returns-in_err-bytes g c =
    let stopped = c.in_err-bytes.ensures in
    rw (err_is c.from_residual.result c.in_err-bytes.field-0.0 c.from_residual.ensures.1)
    (record { works = desk_works c.args.asked (desk_stopped _ _ _ _ c.args.asked.hierarchy.now c.args.asked.out.now _ stopped.loads stopped.err stopped.before) })

pub new-requires : goal.new-requires
new-requires g c =
    let (h, opens, spells) = c.in_ok-bytes.ensures.ok in
    record { spelled = (h, spells) }

pub returns-in_err-router : goal.returns-in_err-router
returns-in_err-router g c =
    rw (err_is c.from_residual-in_err-router.result stop.NoMemory c.from_residual-in_err-router.ensures.1)
    (record {
      works = desk_works c.args.asked
          (desk_stopped _ _ _ _ c.args.asked.hierarchy.now c.args.asked.out.now stop.NoMemory (only_refused stop.NoMemory tt c.in_ok-bytes.ensures.loads) (inl (inl tt)) tt);
    })

pub returns-in_err-answered : goal.returns-in_err-answered
returns-in_err-answered g c =
    let (first, opened, spells) = c.in_ok-bytes.ensures.ok in
    let h = c.in_ok-router.router in
    let opens : Opens (g.H.Shelf.state c.args.shelf.now) (hierarchy_file c.args.asked.hierarchy.now ∷ []) h [] =
    opens_held (g.H.Shelf.state c.args.shelf.now) (hierarchy_file c.args.asked.hierarchy.now ∷ []) [] opened spells c.in_ok-router.ensures.held in
    let done = rw c.over-desk.ensures.over at c.in_err-answered.ensures.ended in
    rw (stop_is c.from_residual-in_err-answered.result _ c.from_residual-in_err-answered.ensures.1)
    (record {
      works = desk_works c.args.asked
          (desk_early _ _ _ _ _ _ c.args.asked.hierarchy.now c.args.asked.out.now h c.answer_lines-answered.new.answerer c.in_ok-bytes.ensures.loads opens c.in_err-answered.field-0.0 done);
    })

pub returns-then-length-limit : goal.returns-then-length-limit
returns-then-length-limit g c =
    let (first, opened, spells) = c.in_ok-bytes.ensures.ok in
    let h = c.in_ok-router.router in
    let desk = c.answer_lines-answered.new.answerer in
    let opens : Opens (g.H.Shelf.state c.args.shelf.now) (hierarchy_file c.args.asked.hierarchy.now ∷ []) h [] =
    opens_held (g.H.Shelf.state c.args.shelf.now) (hierarchy_file c.args.asked.hierarchy.now ∷ []) [] opened spells c.in_ok-router.ensures.held in
    let done = rw c.over-desk.ensures.over at c.in_ok-answered.ensures.ended in
    let file : c.as_slice-bytes.result.now ≡ spelling desk.published = c.as_slice-bytes.ensures.value ∙ c.into_file-packed.ensures.spelled.spelled in
    let same : length c.as_slice-bytes.result.now ≡ length (spelling desk.published) = ap (λ (bytes : List ℕ). length bytes) file in
    let large : (g.H.Shelf.state c.args.shelf.now).most < length (spelling desk.published) = omega (arith, same, c.limit.ensures, c.in_ok-bytes.ensures.loads.most, c.if-length-limit.true) in
    rw same (record {
      works = desk_works c.args.asked
          (desk_large _ _ _ _ _ _ c.args.asked.hierarchy.now c.args.asked.out.now h desk c.in_ok-bytes.ensures.loads opens done large);
    })

pub returns-in_err-store_file : goal.returns-in_err-store_file
returns-in_err-store_file g c =
    let (first, opened, spells) = c.in_ok-bytes.ensures.ok in
    let h = c.in_ok-router.router in
    let desk = c.answer_lines-answered.new.answerer in
    let opens : Opens (g.H.Shelf.state c.args.shelf.now) (hierarchy_file c.args.asked.hierarchy.now ∷ []) h [] =
    opens_held (g.H.Shelf.state c.args.shelf.now) (hierarchy_file c.args.asked.hierarchy.now ∷ []) [] opened spells c.in_ok-router.ensures.held in
    let done = rw c.over-desk.ensures.over at c.in_ok-answered.ensures.ended in
    let file : c.as_slice-bytes.result.now ≡ spelling desk.published = c.as_slice-bytes.ensures.value ∙ c.into_file-packed.ensures.spelled.spelled in
    let same : length c.as_slice-bytes.result.now ≡ length (spelling desk.published) = ap (λ (bytes : List ℕ). length bytes) file in
    let few : length (spelling desk.published) ≤ (g.H.Shelf.state c.args.shelf.now).most = omega (arith, same, c.limit.ensures, c.in_ok-bytes.ensures.loads.most, c.if-length-limit.false) in
    let stores = rw file at c.in_err-store_file.ensures.stores in
    let behind = behind_lines _ _ _ _ _ _ c.args.asked.hierarchy.now c.args.asked.out.now h desk c.in_ok-bytes.ensures.loads opens done in
    rw (err_is c.from_residual-in_err-store_file.result c.in_err-store_file.field-0.0 c.from_residual-in_err-store_file.ensures.1)
    (record {
      works = desk_works c.args.asked
          (desk_stored _ _ _ _ _ _ c.args.asked.hierarchy.now c.args.asked.out.now h desk c.in_ok-bytes.ensures.loads opens done few
          (storing_refused _ behind (stored_text desk.published) (stored_behind c.in_ok-bytes.ensures.loads stores)));
    })

pub returns-in_err-put_numbers_line : goal.returns-in_err-put_numbers_line
returns-in_err-put_numbers_line g c =
    let (first, opened, spells) = c.in_ok-bytes.ensures.ok in
    let h = c.in_ok-router.router in
    let desk = c.answer_lines-answered.new.answerer in
    let opens : Opens (g.H.Shelf.state c.args.shelf.now) (hierarchy_file c.args.asked.hierarchy.now ∷ []) h [] =
    opens_held (g.H.Shelf.state c.args.shelf.now) (hierarchy_file c.args.asked.hierarchy.now ∷ []) [] opened spells c.in_ok-router.ensures.held in
    let done = rw c.over-desk.ensures.over at c.in_ok-answered.ensures.ended in
    let file : c.as_slice-bytes.result.now ≡ spelling desk.published = c.as_slice-bytes.ensures.value ∙ c.into_file-packed.ensures.spelled.spelled in
    let same : length c.as_slice-bytes.result.now ≡ length (spelling desk.published) = ap (λ (bytes : List ℕ). length bytes) file in
    let few : length (spelling desk.published) ≤ (g.H.Shelf.state c.args.shelf.now).most = omega (arith, same, c.limit.ensures, c.in_ok-bytes.ensures.loads.most, c.if-length-limit.false) in
    let stores = rw file at c.in_ok-store_file.ensures.stores in
    let said = rw same at c.in_err-put_numbers_line.ensures.wrote in
    let behind = behind_lines _ _ _ _ _ _ c.args.asked.hierarchy.now c.args.asked.out.now h desk c.in_ok-bytes.ensures.loads opens done in
    rw (err_is c.from_residual-in_err-put_numbers_line.result stop.Sink c.from_residual-in_err-put_numbers_line.ensures.1)
    (record {
      works = desk_works c.args.asked
          (desk_stored _ _ _ _ _ _ c.args.asked.hierarchy.now c.args.asked.out.now h desk c.in_ok-bytes.ensures.loads opens done few
          (storing_unsaid _ behind (stored_behind c.in_ok-bytes.ensures.loads stores) said));
    })

pub returns : goal.returns
returns g c =
    let (first, opened, spells) = c.in_ok-bytes.ensures.ok in
    let h = c.in_ok-router.router in
    let desk = c.answer_lines-answered.new.answerer in
    let opens : Opens (g.H.Shelf.state c.args.shelf.now) (hierarchy_file c.args.asked.hierarchy.now ∷ []) h [] =
    opens_held (g.H.Shelf.state c.args.shelf.now) (hierarchy_file c.args.asked.hierarchy.now ∷ []) [] opened spells c.in_ok-router.ensures.held in
    let done = rw c.over-desk.ensures.over at c.in_ok-answered.ensures.ended in
    let file : c.as_slice-bytes.result.now ≡ spelling desk.published = c.as_slice-bytes.ensures.value ∙ c.into_file-packed.ensures.spelled.spelled in
    let same : length c.as_slice-bytes.result.now ≡ length (spelling desk.published) = ap (λ (bytes : List ℕ). length bytes) file in
    let few : length (spelling desk.published) ≤ (g.H.Shelf.state c.args.shelf.now).most = omega (arith, same, c.limit.ensures, c.in_ok-bytes.ensures.loads.most, c.if-length-limit.false) in
    let stores = rw file at c.in_ok-store_file.ensures.stores in
    let said = rw same at c.in_ok-put_numbers_line.ensures.wrote in
    let behind = behind_lines _ _ _ _ _ _ c.args.asked.hierarchy.now c.args.asked.out.now h desk c.in_ok-bytes.ensures.loads opens done in
    record {
      works = desk_works c.args.asked
          (desk_stored _ _ _ _ _ _ c.args.asked.hierarchy.now c.args.asked.out.now h desk c.in_ok-bytes.ensures.loads opens done few
          (storing_said _ behind (stored_behind c.in_ok-bytes.ensures.loads stores) said));
    }
