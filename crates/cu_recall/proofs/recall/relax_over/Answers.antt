use Rattle.std.proofs.Common.{◌≡◌, ◌∙◌, List, None, length, arith, sym, ap, subst}
use Rattle.std.proofs.lemmas.List.{with_items_is}
use Rattle.cu_recall.specs.declared.pending.Asked.{Asked}
use Rattle.cu_recall.specs.declared.spans.Row.{Row}
use Rattle.cu_recall.specs.Rooms.{Fits, RoomValue}
use Rattle.cu_recall.specs.Spans.{Knows}
use Rattle.cu_recall.specs.Windows.{HoldsDriven}
use Rattle.cu_recall.specs.Steps.InWork.{Unpacks}
use Rattle.cu_recall.specs.Steps.Looks.{IsAsked}
use Rattle.cu_recall.proofs.Answering.{edge_is_asked, empty_none, unpacked_long}
use Rattle.cu_recall.proofs.Keeping.{fits_written, length_rows}
use Rattle.cu_recall.proofs.recall.relax_over.Goals.{in-Some-unpack, in-None}
use Rattle.cu_recall.proofs.recall.relax_over.Goals as goal

pub answer-requires-clause-driven : goal.answer-requires-clause-driven
answer-requires-clause-driven c =
    let h = c.args.view.now in
    let rows : c.deref.result.now ≡ c.args.room.now.rows = c.deref.ensures.value ∙ c.make_rows.ensures.rows ∙ ap (λ (room : RoomValue). room.rows) c.room.view_is in
    let knows = subst (Knows h) (sym rows) c.requires.fits.knows in
    subst (λ (asked : Asked). HoldsDriven h asked.list asked.second c.in-Some.driven) c.asked_of-asked.ensures (c.in-Some.ensures.holds h knows)

pub returns-then-entries-eq0-clause-answer : goal.returns-then-entries-eq0-clause-answer
returns-then-entries-eq0-clause-answer c =
    sym (empty_none c.args.view.now c.requires.sound c.args.edge c.args.dir c.args.at c.requires.edge (omega (arith, c.entries.ensures.count, c.if-entries-eq0.true)))

pub unpack-requires-clause-asked : goal.unpack-requires-clause-asked
unpack-requires-clause-asked c =
    let h = c.args.view.now in
    let some = edge_is_asked h c.requires.sound c.args.edge c.args.dir c.args.at c.requires.edge (omega (arith, c.entries.ensures.count, c.if-entries-eq0.false)) in
    subst (IsAsked h) (sym c.asked_of-asked.ensures) some

pub unpack-requires-clause-knows : goal.unpack-requires-clause-knows
unpack-requires-clause-knows c =
    let rows : c.deref_mut.result.now ≡ c.args.room.now.rows = c.deref_mut.ensures.value ∙ c.make_rows.ensures.rows ∙ ap (λ (room : RoomValue). room.rows) c.room.view_is in
    subst (Knows c.args.view.now) (sym rows) c.requires.fits.knows

pub answer-requires-in-Some-unpack-clause-driven : goal.answer-requires-in-Some-unpack-clause-driven
answer-requires-in-Some-unpack-clause-driven c =
    subst (λ (asked : Asked). HoldsDriven c.args.view.now asked.list asked.second c.in-Some-unpack.driven) c.asked_of-asked.ensures c.in-Some-unpack.ensures.unpacks.0

pub returns-clause-answer : goal.returns-clause-answer
returns-clause-answer c =
    let h = c.args.view.now in
    elim c.match-unpack.branch [
      | in-Some-unpack w ↦ w.result-is ∙ w.answer-in-Some-unpack.ensures.answer
      | in-None w ↦
          let long = subst (Unpacks h c.asked_of-asked.result) w.in-None.is c.unpack.ensures.unpacks in
          let edge = subst (λ (asked : Asked). Unpacks h asked None) c.asked_of-asked.ensures long in
          w.result-is ∙ sym (unpacked_long h c.requires.sound c.args.edge c.args.dir c.args.at c.requires.edge (omega (arith, c.entries.ensures.count, c.if-entries-eq0.false)) edge)
    ]

pub returns-in-Some-clause-fits : goal.returns-in-Some-clause-fits
returns-in-Some-clause-fits c =
    let h = c.args.view.now in
    let inside = c.room.inside in
    let nodes = length inside.pending.items in
    let fits = subst (Fits h) (sym c.room.view_is) c.requires.fits in
    let made = subst (λ (rows : List Row). Fits h (record { nodes = nodes; rows = rows; downs = inside.downs.items })) (sym c.make_rows.ensures.rows) fits in
    fits_written h nodes inside.lists c.make_rows.new.rows.items inside.downs.items (ap length c.make_rows.ensures.rows ∙ length_rows inside.lists inside.rows.items c.room.invariant.0) made

pub returns-then-entries-eq0-clause-fits : goal.returns-then-entries-eq0-clause-fits
returns-then-entries-eq0-clause-fits c =
    let h = c.args.view.now in
    let inside = c.room.inside in
    let nodes = length inside.pending.items in
    let fits = subst (Fits h) (sym c.room.view_is) c.requires.fits in
    let made = subst (λ (rows : List Row). Fits h (record { nodes = nodes; rows = rows; downs = inside.downs.items })) (sym c.make_rows.ensures.rows) fits in
    fits_written h nodes inside.lists c.make_rows.new.rows.items inside.downs.items (ap length c.make_rows.ensures.rows ∙ length_rows inside.lists inside.rows.items c.room.invariant.0) made

pub returns-clause-fits : goal.returns-clause-fits
returns-clause-fits c =
    let inside = c.room.inside in
    let fits = subst (Fits c.args.view.now) (sym c.room.view_is) c.requires.fits in
    let all = length_rows inside.lists inside.rows.items c.room.invariant.0 in
    let made = ap length c.make_rows.ensures.rows ∙ all in
    let rows_is = with_items_is c.make_rows.new.rows c.unpack.new.rows (omega (arith, c.unpack.auto.rows, c.deref_mut.ensures.len)) in
    let pending_is = with_items_is inside.pending c.unpack.new.pending (omega (arith, c.unpack.auto.pending, c.deref_mut-2.ensures.len)) in
    let size : length c.unpack.new.rows ≡ inside.lists = omega (arith, c.unpack.auto.rows, ap length c.deref_mut.ensures.value, made) in
    fits_written c.args.view.now _ inside.lists _ inside.downs.items (ap length rows_is ∙ size)
    (record {
      nodes = omega (arith, ap length pending_is, c.unpack.auto.pending, ap length c.deref_mut-2.ensures.value, fits.nodes);
      lists = omega (arith, ap length rows_is, size, all, fits.lists);
      knows = subst (Knows c.args.view.now) (sym rows_is) c.unpack.ensures.knows;
      downs = fits.downs;
    })
