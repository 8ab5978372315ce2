use Rattle.std.proofs.Common.{◌≡◌, ◌∙◌, length, arith, sym, ap, subst}
use Rattle.std.proofs.lemmas.List.{with_items_is}
use Rattle.cu_recall.specs.Rooms.{Fits, RoomValue}
use Rattle.cu_recall.specs.Spans.{Knows}
use Rattle.cu_recall.proofs.Keeping.{fits_written, length_rows}
use Rattle.cu_recall.proofs.recall.walk_in.Goals as goal

pub write_walk-requires-clause-knows : goal.write_walk-requires-clause-knows
write_walk-requires-clause-knows g c =
    let rows : c.deref_mut.result.now ≡ c.args.room.now.rows = c.deref_mut.ensures.value ∙ c.make_rows.ensures.rows ∙ ap (λ (room : RoomValue). room.rows) c.room.view_is in
    subst (Knows c.args.ground.now.view.now) (sym rows) c.requires.fits.knows

pub returns-clause-fits : goal.returns-clause-fits
returns-clause-fits g c =
    let inside = c.room.inside in
    let fits = subst (Fits c.args.ground.now.view.now) (sym c.room.view_is) c.requires.fits in
    let all = length_rows inside.lists inside.rows.items c.room.invariant.0 in
    let made = ap length c.make_rows.ensures.rows ∙ all in
    let rows_is = with_items_is c.make_rows.new.rows c.write_walk.new.rows (omega (arith, c.write_walk.auto.rows, c.deref_mut.ensures.len)) in
    let size : length c.write_walk.new.rows ≡ inside.lists = omega (arith, c.write_walk.auto.rows, ap length c.deref_mut.ensures.value, made) in
    fits_written c.args.ground.now.view.now _ inside.lists _ inside.downs.items (ap length rows_is ∙ size)
    (record {
      nodes = fits.nodes;
      lists = omega (arith, ap length rows_is, size, all, fits.lists);
      knows = subst (Knows c.args.ground.now.view.now) (sym rows_is) c.write_walk.ensures.knows;
      downs = fits.downs;
    })
