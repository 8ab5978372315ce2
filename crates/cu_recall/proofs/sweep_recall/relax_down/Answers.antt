use Rattle.std.proofs.Common.{◌+◌, ◌<◌, ◌%◌, ◌∙◌, ap, arith, length, refl, subst, sym}
use Rattle.cu_interval.specs.declared.relaxing.Relaxed.TheVariants.{At}
use Rattle.cu_recall.specs.Downs.{HasDriven, HoldsDown}
use Rattle.cu_recall.specs.Rooms.{Fits, RoomValue}
use Rattle.cu_recall.proofs.DownLaws.{down_says, down_there}
use Rattle.cu_recall.proofs.sweep_recall.relax_down.Goals as goal

pub overflow_add-result : goal.overflow_add-result
overflow_add-result c =
    let h = c.args.view.now in
    let inside = c.room.inside in
    let fits = subst (Fits h) (sym c.room.view_is) c.requires.fits in
    let long = ap (λ (room : RoomValue). length room.downs) c.room.view_is in
    let there : c.args.down.place < length inside.downs.items = omega (arith, c.requires.there, long) in
    let held = subst (HoldsDown h c.args.down.edge) (sym c.index.ensures) (down_there h inside.downs.items c.args.down.edge c.args.down.place _ fits.downs c.requires.place there) in
    let has = subst (λ n. HasDriven c.index.result.now (c.args.at % n)) c.from.ensures (c.if-has.ensures.0 refl) in
    let near = (down_says h c.requires.sound c.args.down.edge c.index.result.now c.args.at c.requires.edge held has).1 in
    omega (arith, near, c.from-then-has.ensures, c.requires.time)

pub returns-then-has-clause-answer : goal.returns-then-has-clause-answer
returns-then-has-clause-answer c =
    let h = c.args.view.now in
    let inside = c.room.inside in
    let fits = subst (Fits h) (sym c.room.view_is) c.requires.fits in
    let long = ap (λ (room : RoomValue). length room.downs) c.room.view_is in
    let there : c.args.down.place < length inside.downs.items = omega (arith, c.requires.there, long) in
    let held = subst (HoldsDown h c.args.down.edge) (sym c.index.ensures) (down_there h inside.downs.items c.args.down.edge c.args.down.place _ fits.downs c.requires.place there) in
    let has = subst (λ n. HasDriven c.index.result.now (c.args.at % n)) c.from.ensures (c.if-has.ensures.0 refl) in
    ap (λ n. At (c.args.at + n)) c.from-then-has.ensures ∙ sym (down_says h c.requires.sound c.args.down.edge c.index.result.now c.args.at c.requires.edge held has).0

pub returns-then-has-clause-near : goal.returns-then-has-clause-near
returns-then-has-clause-near c =
    let h = c.args.view.now in
    let inside = c.room.inside in
    let fits = subst (Fits h) (sym c.room.view_is) c.requires.fits in
    let long = ap (λ (room : RoomValue). length room.downs) c.room.view_is in
    let there : c.args.down.place < length inside.downs.items = omega (arith, c.requires.there, long) in
    let held = subst (HoldsDown h c.args.down.edge) (sym c.index.ensures) (down_there h inside.downs.items c.args.down.edge c.args.down.place _ fits.downs c.requires.place there) in
    let has = subst (λ n. HasDriven c.index.result.now (c.args.at % n)) c.from.ensures (c.if-has.ensures.0 refl) in
    let near = (down_says h c.requires.sound c.args.down.edge c.index.result.now c.args.at c.requires.edge held has).1 in
    (omega arith, omega (arith, near, c.from-then-has.ensures))
