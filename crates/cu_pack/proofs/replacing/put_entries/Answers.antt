use Rattle.std.proofs.Common.{◌≡◌, ◌≤◌, ◌*◌, ◌++◌, ◌∙◌, ℕ, [], length, take, flat_map, ap, refl, arith}
use Rattle.std.specs.Prelude.{slice_range}
use Rattle.std.proofs.lemmas.Option.{slice_get_read}
use Rattle.std.proofs.lemmas.Result.{on_ok_weaker}
use Rattle.cu_interval.specs.Replacing.{replaced}
use Rattle.cu_bounds.proofs.Renewed.{edges_rise}
use Rattle.cu_pack.specs.Spelling.{entry_bytes}
use Rattle.cu_pack.proofs.Rewrites.Replaced.{up_to_more, up_to_none}
use Rattle.cu_pack.proofs.Rewrites.Rewritten.{entries_more, entries_whole}
use Rattle.cu_pack.proofs.Spelled.Growing.{grows_same}
use Rattle.cu_pack.proofs.replacing.put_entries.Goals as goal

pub loop-touched-init : goal.loop-touched-init
loop-touched-init g c = record {
  up_to = up_to_none c.args.lists.now (length c.args.view.now.edges);
  put = g.met.T.Target.stays c.args.bytes.now;
}

pub loop-touched-preserved : goal.loop-touched-preserved
loop-touched-preserved g c =
    let h = c.args.view.now in
    let touched = c.args.lists.now in
    let edges = length h.edges in
    let lists = c.edges-end.ensures.sound.lists in
    let rising = edges_rise touched c.requires.rising in
    let index = c.loop-touched.touched-index in
    let next = c.loop-touched.next in
    let up_to = c.loop-touched.invariant.up_to in
    let t = c.touched-item.result in
    let there = slice_get_read touched (length touched) index t refl (omega arith) c.touched-item.is in
    let list = flat_map entry_bytes in
    let before = flat_map list (take next (replaced h.lists touched)) in
    let one = before ++ flat_map list (slice_range h.lists next (2 * t.edge)) in
    let more = entries_more h.lists touched edges lists rising c.requires.edges index next up_to t there [] before one (one ++ (list t.up ++ list t.down)) refl refl refl in
    let kept = grows_same g.T.Target.grows _ _ _ _ c.entries_part.ensures.part c.in_ok-put.ensures in
    record {
      up_to = up_to_more h.lists touched edges lists rising c.requires.edges index next up_to t there;
      put =
          grows_same g.T.Target.grows _ _ _ _ more
          (g.met.T.Target.more _ _ _ _ _ (g.met.T.Target.more _ _ _ _ _ c.loop-touched.invariant.put kept) c.in_ok-put_own_entries.ensures);
    }

pub returns : goal.returns
returns g c =
    let h = c.args.view.now in
    let touched = c.args.lists.now in
    let edges = length h.edges in
    let lists = c.edges-end.ensures.sound.lists in
    let rising = edges_rise touched c.requires.rising in
    let index = c.loop-touched.touched-index in
    let next = c.loop-touched.next in
    let all : length touched ≤ index = omega arith in
    let end : 2 * c.edges-end.result ≡ 2 * edges = ap (λ (n : ℕ). 2 * n) c.edges-end.ensures.count in
    let list = flat_map entry_bytes in
    let before = flat_map list (take next (replaced h.lists touched)) in
    let part = c.entries_part-2.ensures.part ∙ ap (λ (n : ℕ). flat_map list (slice_range h.lists next n)) end in
    let whole = entries_whole h.lists touched edges lists rising c.requires.edges index next c.loop-touched.invariant.up_to all [] before
    (before ++ flat_map list (slice_range h.lists next (2 * edges))) refl refl in
    on_ok_weaker c.put-2.result
    (λ e. grows_same g.T.Target.grows _ _ _ _ whole (g.met.T.Target.more _ _ _ _ _ c.loop-touched.invariant.put (grows_same g.T.Target.grows _ _ _ _ part e)))
    c.put-2.ensures
