use Rattle.std.proofs.Common.{ap, flat_map, subst, sym, ◌∙◌}
use Rattle.cu_pack.specs.Spelling.{long}
use Rattle.cu_pack.specs.Steps.Starts.{starts_between}
use Rattle.cu_pack.proofs.Numbering.CountedStarts.{starts_copied}
use Rattle.cu_pack.proofs.Spelled.Growing.{grows_same}
use Rattle.cu_pack.proofs.replacing.put_starts_between.Goals as goal
use Rattle.cu_pack.proofs.replacing.put_starts_between.Goals.{then-start-way_start+in_ok-put, else-start-way_start+in_ok-put_moved_starts}

pub returns-clause-put : goal.returns-clause-put
returns-clause-put g c =
    let starts = flat_map long (starts_between c.args.view.now.lists c.args.first c.args.end c.args.start) in
    elim c.if-start-way_start.branch [
      | then-start-way_start+in_ok-put w ↦
          let same = starts_copied c.args.view.now.lists c.args.first c.args.end c.args.start c.requires.order c.requires.inside (w.if-start-way_start.true ∙ c.way_start.ensures.start) in
          let put = grows_same g.T.Target.grows _ _ _ _ (w.way_starts_part.ensures.part ∙ ap (flat_map long) (sym same)) w.in_ok-put.ensures in
          subst (λ b. g.T.Target.grows c.args.bytes.now b starts) (sym w.bytes-is) put
      | else-start-way_start+in_ok-put_moved_starts w ↦
          subst (λ b. g.T.Target.grows c.args.bytes.now b starts) (sym w.bytes-is) w.in_ok-put_moved_starts.ensures
    ]
