use Rattle.std.proofs.Common.{◌+◌, ◌++◌, ℕ, [], ap, arith, flat_map, refl}
use Rattle.cu_pack.specs.Spelling.{long}
use Rattle.cu_pack.specs.Steps.Starts.{starts_between}
use Rattle.cu_pack.proofs.Numbering.CountedStarts.{put_between_next}
use Rattle.cu_pack.proofs.Spelled.Growing.{grows_same}
use Rattle.cu_pack.proofs.replacing.put_moved_starts.Goals as goal

pub loop-list-preserved : goal.loop-list-preserved
loop-list-preserved g c =
    let lists = c.args.view.now.lists in
    let start = c.args.start in
    let number = start + c.count_between.result in
    let before = flat_map long (starts_between lists c.args.first c.loop-list.list start) in
    let next = put_between_next lists c.args.first c.loop-list.list start number [] before (before ++ long number) (omega arith)
    (ap (λ (n : ℕ). start + n) c.count_between.ensures.count) refl refl in
    grows_same g.T.Target.grows _ _ _ _ next (g.met.T.Target.more _ _ _ _ _ c.loop-list.invariant c.in_ok-put_long.ensures)
