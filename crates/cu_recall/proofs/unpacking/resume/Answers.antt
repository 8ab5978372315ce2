use Rattle.std.proofs.Common.{◌≡◌, ◌+◌, ◌-◌, ◌%◌, ◌∙◌, ℕ, suc, get_or, refl, ap, subst, arith}
use Rattle.cu_model.specs.Days.{day}
use Rattle.cu_recall.specs.declared.pending.Asked.{Asked}
use Rattle.cu_recall.specs.declared.pending.Half.TheVariants as half
use Rattle.cu_recall.specs.declared.pending.Pending.{Pending}
use Rattle.cu_recall.specs.declared.pending.Seen.{Seen}
use Rattle.cu_recall.specs.declared.pending.Spot.{Spot}
use Rattle.cu_recall.specs.declared.kept.Kept.TheVariants as kept
use Rattle.cu_recall.specs.Steps.InWork.{IsDone}
use Rattle.cu_recall.proofs.ListEnds.{list_inside}
use Rattle.cu_recall.proofs.Parting.{part_room}
use Rattle.cu_recall.proofs.Tops.{done_last, second_near, top_holds, top_near}
use Rattle.cu_recall.proofs.Turning.{done_next, done_whole, first_done, second_done}
use Rattle.cu_recall.proofs.unpacking.resume.Goals as goal

abbrev none : Pending
none = record { asked = record { list = 0; second = 0 }; back = 0; ahead = 0; half = half.First 0 (record { widest = record { from = 0; seconds = 0; roads = 0; travel = 0 }; met = kept.Road 0 0 0 }) }

abbrev at_spot : Asked → Seen → ℕ → ℕ → ℕ → ℕ → Spot
at_spot whole seen list second depth roads = record { whole = whole; next = record { list = list; second = second }; seen = seen; depth = depth; roads = roads }

pub joins-init : goal.joins-init
joins-init c =
    let room = part_room c.args.view.now c.requires.sound c.args.pending.now c.args.spot c.requires.somewhere in
    record {
      within = omega (arith, room.0, c.requires.room);
      same = refl;
      total = refl;
      done = done_next c.args.view.now c.args.pending.now c.args.spot c.args.driven c.requires.somewhere c.requires.driven;
      knows = c.requires.knows;
    }

pub later-requires : goal.later-requires
later-requires c =
    let h = c.args.view.now in
    let top = done_last h c.args.spot.whole c.joins.pending c.joins.depth (c.args.spot.roads + c.args.driven.roads) c.joins.driven none c.joins-test.true c.joins.invariant.done in
    let near = top_near h c.requires.sound c.args.spot.whole c.joins.pending (c.joins.depth - 1) (c.args.spot.roads + c.args.driven.roads) c.joins.driven
    (get_or c.joins.pending (c.joins.depth - 1) none) top in
    let few = c.requires.sound.graph.few_ranks in
    omega (arith, near.0, near.1, near.2, few, c.requires.few)

pub returns-in-First-clause-follows : goal.returns-in-First-clause-follows
returns-in-First-clause-follows c =
    let h = c.args.view.now in
    let whole = c.args.spot.whole in
    let total = c.args.spot.roads + c.args.driven.roads in
    let top = done_last h whole c.joins.pending c.joins.depth total c.joins.driven none c.joins-test.true c.joins.invariant.done in
    let one : c.joins.depth ≡ suc (c.joins.depth - 1) = omega (arith, c.joins-test.true) in
    let next = first_done h c.requires.sound whole c.joins.pending (c.joins.depth - 1) total c.joins.driven (get_or c.joins.pending (c.joins.depth - 1) none)
    top c.in-First.rest c.in-First.seen c.in-First.is c.second_next.result c.second_next.ensures
    (record { whole = whole; next = record { list = c.in-First.rest; second = c.later.result }; seen = c.in-First.seen; depth = c.joins.depth; roads = total })
    (ap (λ (n : ℕ). at_spot whole c.in-First.seen c.in-First.rest n c.joins.depth total) c.later.ensures
    ∙ ap (λ (n : ℕ). at_spot whole c.in-First.seen c.in-First.rest (((get_or c.joins.pending (c.joins.depth - 1) none).asked.second + c.joins.driven.travel) % day) n total) one) in
    (next, refl, refl)

pub joined-driven-requires-clause-travel : goal.joined-driven-requires-clause-travel
joined-driven-requires-clause-travel c =
    let h = c.args.view.now in
    let top = done_last h c.args.spot.whole c.joins.pending c.joins.depth (c.args.spot.roads + c.args.driven.roads) c.joins.driven none c.joins-test.true c.joins.invariant.done in
    let near = top_near h c.requires.sound c.args.spot.whole c.joins.pending (c.joins.depth - 1) (c.args.spot.roads + c.args.driven.roads) c.joins.driven
    (get_or c.joins.pending (c.joins.depth - 1) none) top in
    let both = second_near h c.requires.sound c.args.spot.whole c.joins.pending (c.joins.depth - 1) (c.args.spot.roads + c.args.driven.roads) c.joins.driven
    (get_or c.joins.pending (c.joins.depth - 1) none) top c.in-Second.travel c.in-Second.roads c.in-Second.is in
    let few = c.requires.sound.graph.few_ranks in
    omega (arith, near.0, near.1, both.0, both.1, few, c.requires.few)

pub joined-driven-requires-clause-roads : goal.joined-driven-requires-clause-roads
joined-driven-requires-clause-roads c =
    let h = c.args.view.now in
    let top = done_last h c.args.spot.whole c.joins.pending c.joins.depth (c.args.spot.roads + c.args.driven.roads) c.joins.driven none c.joins-test.true c.joins.invariant.done in
    let both = second_near h c.requires.sound c.args.spot.whole c.joins.pending (c.joins.depth - 1) (c.args.spot.roads + c.args.driven.roads) c.joins.driven
    (get_or c.joins.pending (c.joins.depth - 1) none) top c.in-Second.travel c.in-Second.roads c.in-Second.is in
    let few = c.requires.sound.graph.few_ranks in
    omega (arith, both.1, few, c.requires.few)

pub remember-requires-clause-list : goal.remember-requires-clause-list
remember-requires-clause-list c =
    let h = c.args.view.now in
    let top = done_last h c.args.spot.whole c.joins.pending c.joins.depth (c.args.spot.roads + c.args.driven.roads) c.joins.driven none c.joins-test.true c.joins.invariant.done in
    let inside = list_inside h (get_or c.joins.pending (c.joins.depth - 1) none).asked.list top.u top.v top.parted.list in
    omega (arith, inside, c.joins.auto.rows, c.requires.size)

pub remember-requires-clause-window : goal.remember-requires-clause-window
remember-requires-clause-window c =
    let h = c.args.view.now in
    let top = done_last h c.args.spot.whole c.joins.pending c.joins.depth (c.args.spot.roads + c.args.driven.roads) c.joins.driven none c.joins-test.true c.joins.invariant.done in
    (second_done h c.requires.sound c.args.spot.whole c.joins.pending (c.joins.depth - 1) (c.args.spot.roads + c.args.driven.roads) c.joins.driven
    (get_or c.joins.pending (c.joins.depth - 1) none) top c.in-Second.travel c.in-Second.roads c.in-Second.is
    c.joined-driven.result c.joined-driven.ensures).0.window

pub joins-preserved : goal.joins-preserved
joins-preserved c =
    let h = c.args.view.now in
    let i = c.joins.invariant in
    let within = i.within in
    let top = done_last h c.args.spot.whole c.joins.pending c.joins.depth (c.args.spot.roads + c.args.driven.roads) c.joins.driven none c.joins-test.true i.done in
    let both = second_done h c.requires.sound c.args.spot.whole c.joins.pending (c.joins.depth - 1) (c.args.spot.roads + c.args.driven.roads) c.joins.driven
    (get_or c.joins.pending (c.joins.depth - 1) none) top c.in-Second.travel c.in-Second.roads c.in-Second.is c.joined-driven.result c.joined-driven.ensures in
    record {
      within = omega (arith, within);
      same = i.same;
      total = refl;
      done = both.1;
      knows = c.remember.ensures.knows h i.knows (top_holds h c.requires.sound c.args.spot.whole c.joins.pending (c.joins.depth - 1)
          (c.args.spot.roads + c.args.driven.roads) c.joins.driven (get_or c.joins.pending (c.joins.depth - 1) none) top c.joined-driven.result both.0);
    }

pub returns-clause-follows : goal.returns-clause-follows
returns-clause-follows c =
    let h = c.args.view.now in
    let zero : c.joins.depth ≡ 0 = omega (arith, c.joins-test.false) in
    let total = c.args.spot.roads + c.args.driven.roads in
    done_whole h c.args.spot.whole c.joins.pending total c.joins.driven (subst (λ (n : ℕ). IsDone h c.args.spot.whole c.joins.pending n total c.joins.driven) zero c.joins.invariant.done)
