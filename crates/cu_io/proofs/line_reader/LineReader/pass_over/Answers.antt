use Rattle.std.proofs.Common.{[], ◌≤◌, ◌++◌, arith, rules, sym, subst, refl}
use Rattle.std.proofs.lemmas.List.{append-nil}
use Rattle.cu_io.specs.Lines.{HasNoFeed}
use Rattle.cu_io.proofs.Reading.{holds_nothing, passed_end, passed_feed, passed_more}
use Rattle.cu_io.proofs.line_reader.LineReader.pass_over.Goals as goal

pub loop-self-init : goal.loop-self-init
loop-self-init g c =
    let within : c.args.self.now.taken ≤ c.args.self.now.take_limit = search (rules, arith) in
    let taken = holds_nothing c.args.self.now (g.S.Source.state c.args.source.now) within in
    ([], taken.0, subst HasNoFeed (sym (append-nil c.args.self.now.held)) c.requires.open, refl, refl)

pub returns-in-End : goal.returns-in-End
returns-in-End g c =
    let (chunk, took, none, over, quiet) = c.loop-self.invariant in
    let more = rw c.drop_held.ensures at c.in-End.ensures in
    passed_end _ _ _ _ chunk took none c.requires.long over quiet _ _ more

pub returns-in-Some : goal.returns-in-Some
returns-in-Some g c =
    let (chunk, took, none, over, quiet) = c.loop-self.invariant in
    let more = rw c.drop_held.ensures at c.in-Bytes.ensures in
    rw c.hand_out.ensures (passed_feed _ _ _ _ chunk took none c.requires.long over quiet _ _ c.in-Some.at more c.in-Some.ensures.feed)

pub loop-self-preserved : goal.loop-self-preserved
loop-self-preserved g c =
    let (chunk, took, none, over, quiet) = c.loop-self.invariant in
    let more = rw c.drop_held.ensures at c.in-Bytes.ensures in
    let plain : HasNoFeed c.take_more.new.self.held = search rules in
    let next = passed_more _ _ _ _ chunk took none c.requires.long over quiet _ _ more plain in
    (chunk ++ next.0, next.1, next.2, next.3, next.4)
