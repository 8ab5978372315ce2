use Rattle.cu_interval.specs.declared.ways.Dir.TheVariants.{Up, Down}
use Rattle.cu_pack.specs.Steps.Ways.{IsWrongWay}
use Rattle.cu_pack.proofs.checks.ways.wrong_dir.Goals as goal

pub returns-clause-dir : goal.returns-clause-dir
returns-clause-dir c dir =
    elim dir as (λ d. IsWrongWay c.args.sections.now c.args.edge d → ⊥) [
      | Up ↦ λ wrong. absurd (cc (c.if-are_entries_wrong.false, c.are_entries_wrong.ensures.wrong.1 wrong))
      | Down ↦ λ wrong. absurd (cc (c.if-are_entries_wrong-2.false, c.are_entries_wrong-2.ensures.wrong.1 wrong))
    ]
