use Rattle.std.proofs.Common.{◌≡◌, ◌∙◌, length, refl, sym, take, arith}
use Rattle.cu_reach.proofs.AimLaws.{gathered_aims, gathered_path, none_gathered}
use Rattle.cu_reach.proofs.aiming.gather.Goals as goal

pub ranks-init : goal.ranks-init
ranks-init c = record { marks = refl; ranks = refl; few = omega arith; gathered = none_gathered c.args.graph.now c.args.marks.now }

pub ranks-preserved : goal.ranks-preserved
ranks-preserved c = record {
  marks = c.gather_one-count.ensures.marks ∙ c.ranks.invariant.marks;
  ranks = c.gather_one-count.ensures.ranks ∙ c.ranks.invariant.ranks;
  few = c.gather_one-count.ensures.few;
  gathered = c.gather_one-count.ensures.gathered c.args.marks.now c.ranks.invariant.gathered;
}

pub returns-clause-path : goal.returns-clause-path
returns-clause-path c =
    let graph = c.args.graph.now in
    let all : c.ranks.rank ≡ graph.ranks = omega (arith, c.ranks-rank-end.ensures.count, c.ranks-test.false, c.ranks.auto.rank-end) in
    let end : c.ranks.rank ≡ length c.ranks.marks = all ∙ sym c.requires.marks ∙ sym c.ranks.invariant.marks in
    gathered_path graph c.args.marks.now c.ranks.marks (take c.ranks.count c.ranks.ranks) c.ranks.rank end all c.ranks.invariant.gathered

pub returns-clause-aimed : goal.returns-clause-aimed
returns-clause-aimed c =
    let graph = c.args.graph.now in
    let all : c.ranks.rank ≡ graph.ranks = omega (arith, c.ranks-rank-end.ensures.count, c.ranks-test.false, c.ranks.auto.rank-end) in
    let end : c.ranks.rank ≡ length c.ranks.marks = all ∙ sym c.requires.marks ∙ sym c.ranks.invariant.marks in
    gathered_aims graph c.args.marks.now c.ranks.marks (take c.ranks.count c.ranks.ranks) c.ranks.rank end all c.ranks.invariant.gathered
