use Rattle.std.proofs.Common.{◌<◌, ap, arith, length, subst, sym}
use Rattle.cu_recall.specs.declared.pending.Asked.{Asked}
use Rattle.cu_recall.specs.Downs.{HoldsDown}
use Rattle.cu_recall.specs.Rooms.{Fits, RoomValue}
use Rattle.cu_recall.specs.Spans.{Knows}
use Rattle.cu_recall.specs.Windows.{HoldsDriven}
use Rattle.cu_recall.proofs.DownLaws.{down_there, downs_set, driven_window}
use Rattle.cu_recall.proofs.Keeping.{known_written}
use Rattle.cu_recall.proofs.sweep_recall.keep_down.Goals as goal

pub keep-requires : goal.keep-requires
keep-requires c =
    let h = c.args.view.now in
    let fits = subst (Fits h) (sym c.room.view_is) c.requires.fits in
    let knows = subst (Knows h) (sym c.deref.ensures.value) (known_written h c.room.inside.lists c.room.inside.rows.items fits.knows) in
    let list = ap (λ (asked : Asked). asked.list) c.asked_of-asked.ensures in
    let driven = subst (λ n. HoldsDriven h n c.asked_of-asked.result.second c.in-Some.driven) list (c.in-Some.ensures.holds h knows) in
    record { window = driven_window h c.args.down.edge c.asked_of-asked.result.second c.in-Some.driven c.requires.edge driven }

pub returns-then-driven-nodes-clause-fits : goal.returns-then-driven-nodes-clause-fits
returns-then-driven-nodes-clause-fits c =
    let h = c.args.view.now in
    let edge = c.args.down.edge in
    let place = c.args.down.place in
    let inside = c.room.inside in
    let fits = subst (Fits h) (sym c.room.view_is) c.requires.fits in
    let knows = subst (Knows h) (sym c.deref.ensures.value) (known_written h inside.lists inside.rows.items fits.knows) in
    let list = ap (λ (asked : Asked). asked.list) c.asked_of-asked.ensures in
    let driven = subst (λ n. HoldsDriven h n c.asked_of-asked.result.second c.in-Some.driven) list (c.in-Some.ensures.holds h knows) in
    let long = ap (λ (room : RoomValue). length room.downs) c.room.view_is in
    let there : place < length inside.downs.items = omega (arith, c.requires.there, long) in
    let before = subst (HoldsDown h edge) (sym c.index_mut.ensures.value) (down_there h inside.downs.items edge place _ fits.downs c.requires.place there) in
    let held = c.keep.ensures.holds h edge (omega (arith, c.if-driven-nodes.true, c.nodes.ensures.count)) driven before in
    let kept = subst (λ n. HoldsDown h n c.keep.new.self) (sym c.requires.place) held in
    record { nodes = fits.nodes; lists = fits.lists; knows = fits.knows; downs = downs_set h inside.downs.items place c.keep.new.self fits.downs kept }
