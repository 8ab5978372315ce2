use Rattle.std.proofs.Common.{◌≡◌, ◌≤◌, ◌∙◌, ◌*◌, ℕ, length, ap, refl, arith}
use Rattle.std.specs.Prelude.{slice_range}
use Rattle.std.proofs.lemmas.Option.{slice_get_read}
use Rattle.cu_pack.specs.Spelling.{total}
use Rattle.cu_bounds.proofs.Renewed.{edges_rise}
use Rattle.cu_pack.proofs.Rewrites.Replaced.{up_to_more}
use Rattle.cu_pack.proofs.Rewrites.Rewritten.{total_behind, total_whole}
use Rattle.cu_pack.proofs.replacing.count_replaced.Goals as goal

pub loop-touched-preserved : goal.loop-touched-preserved
loop-touched-preserved c =
    let h = c.args.view.now in
    let touched = c.args.lists.now in
    let edges = length h.edges in
    let lists = c.edges-end.ensures.sound.lists in
    let rising = edges_rise touched c.requires.rising in
    let index = c.loop-touched.touched-index in
    let next = c.loop-touched.next in
    let up_to = c.loop-touched.invariant.up_to in
    let t = c.touched-item.result in
    let there = slice_get_read touched (length touched) index t refl (omega arith) c.touched-item.is in
    let behind = total_behind h.lists touched edges lists rising c.requires.edges index next up_to t there in
    record {
      up_to = up_to_more h.lists touched edges lists rising c.requires.edges index next up_to t there;
      count = omega (arith, behind, c.count_between.ensures.count, c.count_own.ensures.count, c.loop-touched.invariant.count);
    }

pub returns : goal.returns
returns c =
    let h = c.args.view.now in
    let touched = c.args.lists.now in
    let edges = length h.edges in
    let index = c.loop-touched.touched-index in
    let next = c.loop-touched.next in
    let all : length touched ≤ index = omega arith in
    let end : 2 * c.edges-end.result ≡ 2 * edges = ap (λ (n : ℕ). 2 * n) c.edges-end.ensures.count in
    let left = c.count_between-2.ensures.count ∙ ap (λ (n : ℕ). total (slice_range h.lists next n)) end in
    let whole = total_whole h.lists touched edges c.edges-end.ensures.sound.lists (edges_rise touched c.requires.rising) c.requires.edges index next c.loop-touched.invariant.up_to all in
    omega (arith, whole, left, c.loop-touched.invariant.count)
