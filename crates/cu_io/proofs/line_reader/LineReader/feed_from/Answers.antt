use Rattle.std.proofs.Common.{◌≡◌, ◌∙◌, ◌-◌, length, take, drop, ap, subst}
use Rattle.std.specs.Prelude.{Some}
use Rattle.std.proofs.lemmas.List.{take_rest}
use Rattle.cu_io.specs.Lines.{HasNoFeed}
use Rattle.cu_io.specs.Steps.LineSteps.{IsFeed}
use Rattle.cu_io.proofs.Reading.{feed_later, feed_later_none}
use Rattle.cu_io.proofs.line_reader.LineReader.feed_from.Goals as goal

pub returns-in-Some-clause-feed : goal.returns-in-Some-clause-feed
returns-in-Some-clause-feed c =
    let rest : take (length c.held.result.now - c.args.searched) (drop c.args.searched c.held.result.now) ≡ drop c.args.searched c.args.self.now.held =
    take_rest c.held.result.now c.args.searched ∙ ap (λ t. drop c.args.searched t) c.held.ensures.all in
    feed_later c.args.self.now.held c.args.searched c.in-Some.at c.requires.within c.requires.none (subst (λ t. IsFeed t (Some c.in-Some.at)) rest c.in-Some.ensures)

pub returns-in-None-clause-feed : goal.returns-in-None-clause-feed
returns-in-None-clause-feed c =
    let rest : take (length c.held.result.now - c.args.searched) (drop c.args.searched c.held.result.now) ≡ drop c.args.searched c.args.self.now.held =
    take_rest c.held.result.now c.args.searched ∙ ap (λ t. drop c.args.searched t) c.held.ensures.all in
    feed_later_none c.args.self.now.held c.args.searched c.requires.none (subst HasNoFeed rest c.in-None.ensures)
