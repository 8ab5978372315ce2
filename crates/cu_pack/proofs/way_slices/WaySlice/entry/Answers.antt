use Rattle.std.proofs.Common.{◌∙◌, Some, sym, ap, arith}
use Rattle.cu_pack.proofs.Read.WayRows.{way_slice_entry, way_slice_long}
use Rattle.cu_pack.proofs.way_slices.WaySlice.entry.Goals as goal

pub overflow_add-self-inside : goal.overflow_add-self-inside
overflow_add-self-inside c =
    let s = c.self.inside in
    let long = way_slice_long s.body s.at s.count c.args.self.now c.self.invariant c.self.view_is in
    omega (arith, c.self.invariant.fits, long, c.requires)

pub entry-requires : goal.entry-requires
entry-requires c =
    let s = c.self.inside in
    let long = way_slice_long s.body s.at s.count c.args.self.now c.self.invariant c.self.view_is in
    record { room = omega (arith, c.self.invariant.room, long, c.requires) }

pub returns : goal.returns
returns c =
    let s = c.self.inside in
    let long = way_slice_long s.body s.at s.count c.args.self.now c.self.invariant c.self.view_is in
    way_slice_entry s.body s.at s.count c.args.self.now c.self.invariant c.self.view_is c.args.index (omega (arith, long, c.requires)) ∙ ap Some (sym c.entry.ensures.entry)
