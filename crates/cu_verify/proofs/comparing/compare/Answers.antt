use Rattle.std.proofs.Common.{◌*◌, ◌+◌, arith}
use Rattle.cu_verify.proofs.Agreeing.{all_same, verdict_apart}
use Rattle.cu_verify.proofs.comparing.compare.Goals as goal

pub returns-in_default : goal.returns-in_default
returns-in_default g c = record {
  right = verdict_apart c.args.view.now c.args.built.now (2 * (c.loop-edge.edge + 1)) c.compare_edge.result c.requires.built c.in_default.not-Same c.compare_edge.ensures;
}

pub returns : goal.returns
returns g c =
    let stored = c.edges-edge-end.ensures.sound.lists in
    let built = c.requires.built.sound.lists in
    let count = c.edges-edge-end.ensures.count in
    let done = c.loop-edge-test.false in
    record {
      right = all_same c.args.view.now c.args.built.now (2 * c.loop-edge.edge) c.requires.built (omega (arith, stored, count, done)) (omega (arith, built, count, done)) c.loop-edge.invariant;
    }
