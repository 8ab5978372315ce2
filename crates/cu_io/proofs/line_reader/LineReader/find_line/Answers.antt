use Rattle.std.proofs.Common.{[], ◌≤◌, arith, rules, length, refl}
use Rattle.cu_io.specs.Lines.{HasNoFeed}
use Rattle.cu_io.proofs.Reading.{holds_nothing, found_text, found_rest, found_later}
use Rattle.cu_io.proofs.line_reader.LineReader.find_line.Goals as goal

pub loop-at-init : goal.loop-at-init
loop-at-init g c =
    let within : c.args.self.now.taken ≤ c.args.self.now.take_limit = search (rules, arith) in
    ([], holds_nothing c.args.self.now (g.S.Source.state c.args.source.now) within, omega arith, (λ k d h. absurd (omega (arith, h))), refl)

pub returns-in-Some : goal.returns-in-Some
returns-in-Some g c =
    rw c.hand_out.ensures (found_text _ _ _ _ _ c.in-Some.at c.loop-at.invariant.1 c.in-Some.ensures.feed c.in-Some.ensures.limit c.loop-at.invariant.4)

pub returns-then-searched-self : goal.returns-then-searched-self
returns-then-searched-self g c = found_later _ _ _ _ _ _ _ _ c.loop-at.invariant.1 c.loop-at.invariant.4 c.pass_over.ensures

pub returns-in-End : goal.returns-in-End
returns-in-End g c =
    let none : HasNoFeed c.loop-at.self.held = search rules in
    let limit : length c.loop-at.self.held ≤ c.loop-at.self.line_limit = search (rules, arith) in
    rw (c.hand_out_rest.ensures.all, c.hand_out_rest.ensures.found) (found_rest _ _ _ _ _ _ _ c.loop-at.invariant.1 c.in-End.ensures none limit c.loop-at.invariant.4)
