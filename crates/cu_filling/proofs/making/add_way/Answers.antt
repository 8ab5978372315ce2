use Rattle.std.proofs.Common.{arith, ◌<◌, ◌++◌, ◌∙◌, [], ◌∷◌, ℕ, List, ap, inl, inr, length, subst, sym}
use Rattle.std.specs.Prelude.{slice_get}
use Rattle.std.proofs.lemmas.Option.{slice_get_within}
use Rattle.cu_model.specs.Days.{day}
use Rattle.cu_model.specs.Roads.{arc_value}
use Rattle.cu_model.specs.Networks.{NetworkValue}
use Rattle.cu_arrival.specs.declared.runs.Run.{Run}
use Rattle.cu_arrival.specs.Runs.{arrival_value}
use Rattle.cu_runs.specs.PackedRuns.{end_run}
use Rattle.cu_interval.specs.declared.ways.Way.{Way}
use Rattle.cu_interval.proofs.EndsLaws.{number_within}
use Rattle.cu_brief.specs.BriefRuns.{runs_of}
use Rattle.cu_store.specs.Known.{HasNoRuns, HasRuns}
use Rattle.cu_filling.specs.Filling.{DrivesBy, LacksHalf, SaysUpTo, linked_value}
use Rattle.cu_filling.proofs.HalfDrives.{linked_drives}
use Rattle.cu_filling.proofs.LinkedRuns.{linked_composed}
use Rattle.cu_filling.proofs.making.add_way.Goals as goal

pub returns-in_ok-add_runs-in-Road-clause-says : goal.returns-in_ok-add_runs-in-Road-clause-says
returns-in_ok-add_runs-in-Road-clause-says g c e f driven before =
    let h = g.W.Ways.hierarchy c.args.ways.now in
    let s = c.args.shortcut in
    let (ends, at, formed) = c.requires.way in
    let from = c.from-from.ensures in
    let road = c.in-Road.road in
    let linked = c.deref.result.now in
    c.in_ok-add_runs-in-Road.ensures f (subst (λ (n : ℕ). SaysUpTo f c.args.scratch.now.whole.items n) (sym from) before)
    (λ t low early.
    let today : t < day = omega (arith, early, c.requires.in_day) in
    let drives = ap (λ (n : NetworkValue). arc_value n road t) (g.met.W.Ways.same_network c.args.ways.now)
    ∙ sym (c.in_ok-put_road-in-Road.ensures.value t today)
    ∙ sym (ap (λ (rs : List Run). arrival_value rs t) c.deref.ensures.value) in
    driven ends at t (arrival_value linked t) (omega (arith, low, from)) early (subst (λ (w : Way). DrivesBy h ends s.dir t w (arrival_value linked t)) (sym c.in-Road.is) drives))

pub brief-requires-in-Via : goal.brief-requires-in-Via
brief-requires-in-Via g c =
    let h = g.W.Ways.hierarchy c.args.ways.now in
    let second = c.halves.result.1 in
    let within = number_within second.edge (length h.edges) second.dir (slice_get_within h.edges second.edge _ c.halves.ensures.halves.onward) in
    subst (λ (n : ℕ). n < length c.args.store.now.known) (sym c.list-in-Via.ensures.number) (omega (arith, within, c.requires.size))

pub returns-in_default-clause-lacks : goal.returns-in_default-clause-lacks
returns-in_default-clause-lacks g c e =
    let h = g.W.Ways.hierarchy c.args.ways.now in
    let known = c.args.store.now.known in
    subst (λ (w : Way). LacksHalf h known c.args.shortcut w) (sym c.in-Via.is)
    (c.halves.result.0, c.halves.result.1, c.halves.ensures.halves, inl (subst (λ (n : ℕ). HasNoRuns (slice_get known n)) c.list.ensures.number (c.brief.ensures.unknown c.in_default.is)))

pub returns-in_default-brief-clause-lacks : goal.returns-in_default-brief-clause-lacks
returns-in_default-brief-clause-lacks g c e =
    let h = g.W.Ways.hierarchy c.args.ways.now in
    let known = c.args.store.now.known in
    subst (λ (w : Way). LacksHalf h known c.args.shortcut w) (sym c.in-Via.is)
    (c.halves.result.0, c.halves.result.1, c.halves.ensures.halves, inr (subst (λ (n : ℕ). HasNoRuns (slice_get known n)) c.list-in-Via.ensures.number (c.brief-in-Via.ensures.unknown c.in_default-brief.is)))

pub returns-in_ok-add_linked-in-Via-clause-says : goal.returns-in_ok-add_linked-in-Via-clause-says
returns-in_ok-add_linked-in-Via-clause-says g c e f driven before =
    let h = g.W.Ways.hierarchy c.args.ways.now in
    let known = c.args.store.now.known in
    let s = c.args.shortcut in
    let (ends, at, formed) = c.requires.way in
    let from = c.from-from.ensures in
    let to = c.in-Some.to in
    let on = c.in-Some-brief.on in
    let one = runs_of to.base to.runs.now ++ end_run ∷ [] in
    let two = runs_of on.base on.runs.now ++ end_run ∷ [] in
    let known_one = c.in-Some.ensures.known in
    let known_two = c.in-Some-brief.ensures.known in
    let has_one = subst (λ (n : ℕ). HasRuns (slice_get known n) one) c.list.ensures.number known_one.1 in
    let has_two = subst (λ (n : ℕ). HasRuns (slice_get known n) two) c.list-in-Via.ensures.number known_two.1 in
    c.in_ok-add_linked-in-Via.ensures f (subst (λ (n : ℕ). SaysUpTo f c.args.scratch.now.whole.items n) (sym from) before)
    (λ t low early.
    let value = linked_value to.base to.runs.now on.base on.runs.now t in
    let drives = linked_drives h known c.requires.knows s c.in-Via.middle c.halves.result.0 c.halves.result.1 c.halves.ensures.halves one two has_one has_two ends at t value
    (linked_composed to.base to.runs.now on.base on.runs.now known_one.0 known_two.0 t) in
    driven ends at t value (omega (arith, low, from)) early (subst (λ (w : Way). DrivesBy h ends s.dir t w value) (sym c.in-Via.is) drives))
