use Rattle.std.proofs.Common.{◌+◌, ◌∙◌, refl, sym, ap, arith, rules}
use Rattle.cu_sweep.specs.Places.{second_at}
use Rattle.cu_sweep.specs.Steps.Sweeping.{begun_links}
use Rattle.cu_sweep.proofs.Readying.{apart, begun_ready, no_second, some_second, turn_over}
use Rattle.cu_sweep.proofs.sweeping.begin_down.Goals as goal

pub set-requires-clause-apart : goal.set-requires-clause-apart
set-requires-clause-apart g c =
    apart c.args.nodes (g.K.Linking.links c.args.chain.now) c.args.rank (c.args.nodes + c.args.rank) (c.requires.ready.rises c.requires.unturned) (turn_over c.args.nodes c.args.rank c.requires.rank)

pub returns-then-is_some-clause-links : goal.returns-then-is_some-clause-links
returns-then-is_some-clause-links g c =
    let (s, is) = some_second (second_at c.args.labels.now c.args.rank) (search rules) in
    c.set.ensures.links ∙ ap (begun_links (g.K.Linking.links c.args.chain.now) c.args.rank (c.args.nodes + c.args.rank)) (sym is)

pub returns-then-is_some-clause-ready : goal.returns-then-is_some-clause-ready
returns-then-is_some-clause-ready g c =
    let lt = c.requires.rank in
    begun_ready c.args.nodes c.args.labels.now (g.K.Linking.links c.args.chain.now) (g.K.Linking.links c.set.new.self) (g.K.Linking.turned c.args.chain.now)
    (g.K.Linking.turned c.set.new.self) c.requires.ready c.args.rank (c.args.nodes + c.args.rank) (second_at c.args.labels.now c.args.rank) c.requires.unturned
    (omega (arith, lt)) (omega (arith, lt)) (turn_over c.args.nodes c.args.rank lt) refl
    (returns-then-is_some-clause-links g c)

pub returns-else-is_some-clause-links : goal.returns-else-is_some-clause-links
returns-else-is_some-clause-links g c =
    let is = no_second (second_at c.args.labels.now c.args.rank) (search rules) in
    ap (begun_links (g.K.Linking.links c.args.chain.now) c.args.rank (c.args.nodes + c.args.rank)) (sym is)

pub returns-else-is_some-clause-ready : goal.returns-else-is_some-clause-ready
returns-else-is_some-clause-ready g c =
    let lt = c.requires.rank in
    begun_ready c.args.nodes c.args.labels.now (g.K.Linking.links c.args.chain.now) (g.K.Linking.links c.args.chain.now) (g.K.Linking.turned c.args.chain.now)
    (g.K.Linking.turned c.args.chain.now) c.requires.ready c.args.rank (c.args.nodes + c.args.rank) (second_at c.args.labels.now c.args.rank) c.requires.unturned
    (omega (arith, lt)) (omega (arith, lt)) (turn_over c.args.nodes c.args.rank lt) refl
    (returns-else-is_some-clause-links g c)
