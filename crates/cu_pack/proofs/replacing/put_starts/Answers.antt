use Rattle.std.proofs.Common.{◌≡◌, ◌≤◌, ◌+◌, ◌*◌, ◌++◌, ◌∙◌, ℕ, [], length, map, flat_map, ap, refl, arith}
use Rattle.std.specs.List.{range_with_len}
use Rattle.std.specs.Prelude.{slice_range}
use Rattle.std.proofs.lemmas.List.Sums.{sum_by-take-le}
use Rattle.std.proofs.lemmas.Result.{on_ok_weaker}
use Rattle.cu_interval.specs.Replacing.{replaced}
use Rattle.cu_pack.specs.Spelling.{long, total}
use Rattle.cu_pack.specs.Steps.Starts.{starts_between}
use Rattle.std.proofs.lemmas.Option.{slice_get_read}
use Rattle.cu_bounds.proofs.Renewed.{edges_rise}
use Rattle.cu_pack.proofs.Numbering.CountedStarts.{before_list}
use Rattle.cu_pack.proofs.Rewrites.Replaced.{up_to_more, up_to_none}
use Rattle.cu_pack.proofs.Rewrites.Rewritten.{starts_more, starts_whole, total_before, total_behind}
use Rattle.cu_pack.proofs.Spelled.Growing.{grows_same}
use Rattle.cu_pack.proofs.replacing.put_starts.Goals as goal

pub put_own_starts-requires : goal.put_own_starts-requires
put_own_starts-requires g c =
    let h = c.args.view.now in
    let touched = c.args.lists.now in
    let t = c.touched-item.result in
    let before = total_before h.lists touched (length h.edges) c.edges-end.ensures.sound.lists (edges_rise touched c.requires.rising) c.requires.edges
    c.loop-touched.touched-index c.loop-touched.next c.loop-touched.invariant.up_to t
    (slice_get_read touched (length touched) c.loop-touched.touched-index t refl (omega arith) c.touched-item.is) in
    let most = sum_by-take-le length (replaced h.lists touched) (2 * t.edge) in
    record { few = omega (arith, before, most, c.in_ok-start.ensures.after, c.loop-touched.invariant.start, c.requires.few) }

pub loop-touched-init : goal.loop-touched-init
loop-touched-init g c = record {
  up_to = up_to_none c.args.lists.now (length c.args.view.now.edges);
  start = refl;
  put = g.met.T.Target.stays c.args.bytes.now;
}

pub loop-touched-preserved : goal.loop-touched-preserved
loop-touched-preserved g c =
    let h = c.args.view.now in
    let touched = c.args.lists.now in
    let edges = length h.edges in
    let lists = c.edges-end.ensures.sound.lists in
    let rising = edges_rise touched c.requires.rising in
    let index = c.loop-touched.touched-index in
    let next = c.loop-touched.next in
    let start = c.loop-touched.start in
    let up = c.in_ok-start.start in
    let up_to = c.loop-touched.invariant.up_to in
    let t = c.touched-item.result in
    let there = slice_get_read touched (length touched) index t refl (omega arith) c.touched-item.is in
    let behind = total_behind h.lists touched edges lists rising c.requires.edges index next up_to t there in
    let before = flat_map long (map (before_list (replaced h.lists touched)) (range_with_len 0 next)) in
    let one = before ++ flat_map long (starts_between h.lists next (2 * t.edge) start) in
    let after = one ++ (long up ++ long (up + length t.up)) in
    let more = starts_more h.lists touched edges lists rising c.requires.edges index next up_to t there start up [] before one after c.loop-touched.invariant.start refl refl
    c.in_ok-start.ensures.after refl in
    record {
      up_to = up_to_more h.lists touched edges lists rising c.requires.edges index next up_to t there;
      start = omega (arith, behind, c.in_ok-start.ensures.after, c.in_ok-start-2.ensures.after, c.loop-touched.invariant.start);
      put =
          grows_same g.T.Target.grows _ _ _ _ more
          (g.met.T.Target.more _ _ _ _ _ (g.met.T.Target.more _ _ _ _ _ c.loop-touched.invariant.put c.in_ok-start.ensures.put) c.in_ok-start-2.ensures.put);
    }

pub returns : goal.returns
returns g c =
    let h = c.args.view.now in
    let touched = c.args.lists.now in
    let edges = length h.edges in
    let lists = c.edges-end.ensures.sound.lists in
    let rising = edges_rise touched c.requires.rising in
    let index = c.loop-touched.touched-index in
    let next = c.loop-touched.next in
    let start = c.loop-touched.start in
    let end : 2 * c.edges-end.result ≡ 2 * edges = ap (λ (n : ℕ). 2 * n) c.edges-end.ensures.count in
    let all : length touched ≤ index = omega arith in
    let before = flat_map long (map (before_list (replaced h.lists touched)) (range_with_len 0 next)) in
    let one = before ++ flat_map long (starts_between h.lists next (2 * edges) start) in
    let kept = grows_same g.T.Target.grows _ _ _ _ (ap (λ (n : ℕ). flat_map long (starts_between h.lists next n start)) end) c.in_ok-last.ensures.put in
    let last = c.in_ok-last.ensures.after ∙ ap (λ (n : ℕ). start + total (slice_range h.lists next n)) end in
    let whole = starts_whole h.lists touched edges lists rising c.requires.edges index next c.loop-touched.invariant.up_to all start c.in_ok-last.last
    [] before one (one ++ long c.in_ok-last.last) c.loop-touched.invariant.start refl refl last refl in
    on_ok_weaker c.put_long.result
    (λ e. grows_same g.T.Target.grows _ _ _ _ whole (g.met.T.Target.more _ _ _ _ _ (g.met.T.Target.more _ _ _ _ _ c.loop-touched.invariant.put kept) e))
    c.put_long.ensures
