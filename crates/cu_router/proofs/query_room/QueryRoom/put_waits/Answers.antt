use Rattle.std.proofs.Common.{◌≡◌, ◌∙◌, ℕ, List, ap}
use Rattle.std.specs.Prelude.{codes}
use Rattle.cu_io.proofs.Appending.{wrote_same}
use Rattle.cu_drive.specs.RoadTexts.{arrival_text}
use Rattle.cu_interval.specs.Hierarchies.{HierarchyValue}
use Rattle.cu_wait.specs.KeptPoints.{kept_text, says_kept}
use Rattle.cu_router.proofs.HeldAnswers.{held_answer}
use Rattle.cu_router.proofs.RouteLaws.{swept_alike}
use Rattle.cu_router.proofs.query_room.QueryRoom.put_waits.Goals as goal

pub returns-clause-answer : goal.returns-clause-answer
returns-clause-answer g c =
    let h = c.args.held.now in
    held_answer (says_kept c.args.kept.now h.network c.args.query.second) h c.put_in.ensures.sound c.args.query c.requires.from c.requires.to c.requires.second

pub returns-clause-wrote : goal.returns-clause-wrote
returns-clause-wrote g c =
    let h = c.args.held.now in
    let kept = c.args.kept.now in
    let second = c.args.query.second in
    let said : HierarchyValue → ℕ → List ℕ → List ℕ = λ v arrival walk. arrival_text (codes " drive=") (kept_text kept v.network.arcs) h.network second arrival walk in
    let form = c.of.result in
    let same : (arrival : ℕ) (walk : List ℕ)
    → arrival_text (codes " drive=") (kept_text form.kept.now form.roads.now.network.arcs) h.network second arrival walk ≡ says_kept kept h.network second arrival walk =
    λ arrival walk. ap (λ f. arrival_text (codes " drive=") (kept_text f.kept.now f.roads.now.network.arcs) h.network second arrival walk) c.of.ensures
    ∙ ap (λ (v : HierarchyValue). said v arrival walk) c.view-view.ensures.same in
    wrote_same (swept_alike _ (says_kept kept h.network second) same h c.args.query) c.put_in.ensures.wrote
