use Rattle.std.proofs.Common.{◌≡◌, ℕ, arith, inr, subst, sym}
use Rattle.cu_model.specs.DayForms.{IsFormPiece}
use Rattle.cu_wait.specs.Steps.Listed.{course_value, piece_of}
use Rattle.cu_wait.proofs.ListingLaws.{ends_behind, form_piece, goes_behind, goes_on_alike, goes_on_once, sound_same, stretch_begins}
use Rattle.cu_wait.proofs.listing.follow.Goals as goal

pub returns-then-arrival_at-stretch-clause-follows : goal.returns-then-arrival_at-stretch-clause-follows
returns-then-arrival_at-stretch-clause-follows c = λ f is goes.
    let last = c.settled-last.result in
    let same = c.settled-last.ensures.same in
    let within = c.requires.within in
    let begun = c.requires.begun in
    let apart = c.if-last-from.false in
    let first = stretch_begins f c.args.from c.args.stretch within.0 is in
    let settled = c.settled-last.ensures.settled f first goes in
    let at = c.arrival_at.ensures in
    let other = c.if-arrival_at-stretch.true in (
      same.0,
      form_piece f last c.args.from (sound_same c.args.last last same.0 same.1 c.requires.sound) (omega (arith, same.0, begun, apart)) (omega (arith, within.0, within.1)) settled
          (inr (λ e. omega (arith, first, e, at, other))),
      is,
    )

pub returns-then-from-stretch-clause-follows : goal.returns-then-from-stretch-clause-follows
returns-then-from-stretch-clause-follows c = λ f is goes.
    let last = c.settled-last.result in
    let first = stretch_begins f c.args.from c.args.stretch c.requires.within.0 is in
    let settled = c.settled-last.ensures.settled f first goes in
    let at = c.arrival_at.ensures in
    let there = c.if-arrival_at-stretch.false in
    let once = c.if-from-stretch.true in
    (c.settled-last.ensures.same.0, goes_on_once f last c.args.from c.args.stretch (omega (arith, once)) settled.goes is (omega (arith, at, there)))

pub returns-then-arrival_at-later-clause-follows : goal.returns-then-arrival_at-later-clause-follows
returns-then-arrival_at-later-clause-follows c = λ f is goes.
    let last = c.settled-last.result in
    let same = c.settled-last.ensures.same in
    let begun = c.requires.begun in
    let first = stretch_begins f c.args.from c.args.stretch c.requires.within.0 is in
    let settled = c.settled-last.ensures.settled f first goes in
    let at = c.arrival_at.ensures in
    let there = c.if-arrival_at-stretch.false in
    let later = c.a_second_later-later.ensures in
    let next = subst (λ (n : ℕ). c.arrival_at-2.result ≡ course_value last.course last.from last.arrival n) later.from c.arrival_at-2.ensures in
    let again = c.if-arrival_at-later.true in
    let arrival = later.arrival in (
      same.0,
      goes_on_alike f last c.args.from c.args.stretch (omega (arith, same.0, begun)) settled.goes is (omega (arith, at, there)) (omega (arith, next, again, arrival)),
    )

pub returns-clause-follows : goal.returns-clause-follows
returns-clause-follows c = λ f is goes.
    let last = c.settled-last.result in
    let same = c.settled-last.ensures.same in
    let within = c.requires.within in
    let begun = c.requires.begun in
    let apart = c.if-last-from.false in
    let first = stretch_begins f c.args.from c.args.stretch within.0 is in
    let settled = c.settled-last.ensures.settled f first goes in
    let at = c.arrival_at.ensures in
    let there = c.if-arrival_at-stretch.false in
    let more = c.if-from-stretch.false in
    let later = c.a_second_later-later.ensures in
    let next = subst (λ (n : ℕ). c.arrival_at-2.result ≡ course_value last.course last.from last.arrival n) later.from c.arrival_at-2.ensures in
    let other = c.if-arrival_at-later.false in
    let arrival = later.arrival in
    let form = ends_behind f last c.args.from c.args.stretch (sound_same c.args.last last same.0 same.1 c.requires.sound) (omega (arith, same.0, begun, apart))
    (omega (arith, within.0, more)) within.1 settled is (omega (arith, at, there)) (λ e. omega (arith, next, other, arrival, e)) in (
      same.0,
      subst (λ (n : ℕ). IsFormPiece f (piece_of last) n) (sym later.from) form,
      goes_behind f c.args.from c.args.stretch c.a_second_later-later.result is later.from later.course later.arrival,
    )
