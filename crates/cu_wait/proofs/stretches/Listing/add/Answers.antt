use Rattle.std.proofs.Common.{ℕ, subst, sym}
use Rattle.cu_model.specs.DayForms.{IsFormUntil}
use Rattle.cu_wait.proofs.ListingLaws.{listed_more}
use Rattle.cu_wait.proofs.stretches.Listing.add.Goals as goal

pub returns-in-None-clause-listed : goal.returns-in-None-clause-listed
returns-in-None-clause-listed c = λ f is listed.
    let (same, goes) = rw c.in-None.is at (c.follow-following.ensures.follows f is listed.goes) in
    record {
      done = subst (λ (n : ℕ). IsFormUntil f 0 c.args.self.now.pieces.items n) (sym same) listed.done;
      goes = goes;
    }

pub returns-in_ok-end-in-Some-clause-listed : goal.returns-in_ok-end-in-Some-clause-listed
returns-in_ok-end-in-Some-clause-listed c = λ f is listed.
    let (same, form, goes) = rw c.in-Some.is at (c.follow-following.ensures.follows f is listed.goes) in
    record {
      done = rw (c.in_ok-end-in-Some.ensures.pieces, c.in_ok-end-in-Some.ensures.last)
          (listed_more f c.args.self.now.pieces.items c.args.self.now.last.from c.in-Some.ended c.follow-following.result.last listed.done same form);
      goes = rw c.in_ok-end-in-Some.ensures.last goes;
    }
