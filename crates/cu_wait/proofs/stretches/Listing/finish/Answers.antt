use Rattle.std.proofs.Common.{ℕ, subst, sym}
use Rattle.cu_model.specs.DayForms.{IsFormUntil}
use Rattle.cu_wait.proofs.ListingLaws.{all_listed, sound_same}
use Rattle.cu_wait.proofs.stretches.Listing.finish.Goals as goal

pub returns : goal.returns
returns c = λ f listed.
    let last = c.at_day_end.result in
    let same = c.at_day_end.ensures.same in
    let sound = sound_same c.args.self.last last same.0 same.1 (record { within = c.args.self.within; onward = c.args.self.onward; limit = c.args.self.limit }) in
    rw (c.in_ok-push.ensures.items, c.piece.ensures)
    (all_listed f c.args.self.pieces.items last sound (subst (λ (n : ℕ). IsFormUntil f 0 c.args.self.pieces.items n) (sym same.0) listed.done)
    (c.at_day_end.ensures.settled f listed.goes))
