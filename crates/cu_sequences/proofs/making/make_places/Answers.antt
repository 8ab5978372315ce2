use Rattle.std.proofs.Common.{arith, refl}
use Rattle.cu_sequences.proofs.Keeping.{sequences_longer}
use Rattle.cu_sequences.proofs.making.make_places.Goals as goal

pub returns-in-Ok : goal.returns-in-Ok
returns-in-Ok c h roads are =
    let (kept, filled) = c.in-Ok.ensures.by_index in
    let old = c.args.starts.now.ok.0 in
    let new = c.resize.new.self.ok.0 in
    let long = c.in-Ok.ensures.len in
    sequences_longer h c.args.starts.now.items c.resize.new.self.items roads
    (λ k d within before. kept k d (omega (arith, within, new, long)) (omega (arith, before, old)))
    (λ k d behind within. filled k d refl (omega (arith, behind, old)) (omega (arith, within, new, long))) are
