use Rattle.std.proofs.Common.{◌∙◌, ap, arith, length, refl}
use Rattle.std.proofs.lemmas.List.{length-set}
use Rattle.std.proofs.lemmas.Option.{slice_get_read}
use Rattle.cu_model.proofs.RoadLaws.{all_at}
use Rattle.cu_interval.specs.declared.ways.Dir.TheVariants.{Up}
use Rattle.cu_interval.specs.Hierarchies.{HierarchyValue, list_number}
use Rattle.cu_interval.specs.LeastBounds.{least_bound}
use Rattle.cu_bounds.specs.KeptBounds.{HasListsOf}
use Rattle.cu_bounds.proofs.Renewed.{edges_rise, renewed_all, renewed_more, renewed_none, right_before, right_set, turn_behind}
use Rattle.cu_bounds.proofs.renewing.renew_all.Goals as goal

pub loop-touched-init : goal.loop-touched-init
loop-touched-init g c =
    let begins = c.requires.finder.turn in
    record {
      renewed = renewed_none (g.W.Ways.hierarchy c.args.ways.now) c.args.lists.now c.args.bounds.now c.requires.long c.requires.kept;
      same = c.requires.finder.same;
      turn = λ k t le there. omega (arith, begins);
    }

pub renew_bound-requires : goal.renew_bound-requires
renew_bound-requires g c =
    let h : HierarchyValue = g.W.Ways.hierarchy c.args.ways.now in
    let lists = c.args.lists.now in
    let index = c.loop-touched.touched-index in
    let t = c.touched-item.result in
    let there = slice_get_read lists (length lists) index t refl (omega arith) c.touched-item.is in
    let own = all_at (HasListsOf h) lists index t c.requires.lists there in
    let is = c.loop-touched.invariant in
    record {
      sound = c.requires.sound;
      edge = own.edge;
      entries = c.entries.ensures.all ∙ own.up;
      travels = c.requires.travels;
      long = is.renewed.long;
      right = right_before h lists (edges_rise lists c.requires.rising) index t there c.loop-touched.bounds is.renewed;
      finder = record { same = is.same; turn = is.turn index t (omega arith) there };
    }

pub renew_bound-requires-in-loop-touched : goal.renew_bound-requires-in-loop-touched
renew_bound-requires-in-loop-touched g c =
    let h : HierarchyValue = g.W.Ways.hierarchy c.args.ways.now in
    let lists = c.args.lists.now in
    let index = c.loop-touched.touched-index in
    let t = c.touched-item.result in
    let there = slice_get_read lists (length lists) index t refl (omega arith) c.touched-item.is in
    let own = all_at (HasListsOf h) lists index t c.requires.lists there in
    let is = c.loop-touched.invariant in
    let before = right_before h lists (edges_rise lists c.requires.rising) index t there c.loop-touched.bounds is.renewed in
    record {
      sound = c.requires.sound;
      edge = own.edge;
      entries = c.entries-in-loop-touched.ensures.all ∙ own.down;
      travels = c.requires.travels;
      long = ap length c.renew_bound.ensures.bounds ∙ length-set c.loop-touched.bounds (list_number t.edge Up) (least_bound h t.edge Up) ∙ is.renewed.long;
      right = right_set h c.loop-touched.bounds c.renew_bound.new.bounds t.edge Up own.edge is.renewed.long c.renew_bound.ensures.bounds before;
      finder = c.renew_bound.ensures.finder;
    }

pub loop-touched-preserved : goal.loop-touched-preserved
loop-touched-preserved g c =
    let h : HierarchyValue = g.W.Ways.hierarchy c.args.ways.now in
    let lists = c.args.lists.now in
    let index = c.loop-touched.touched-index in
    let t = c.touched-item.result in
    let there = slice_get_read lists (length lists) index t refl (omega arith) c.touched-item.is in
    let own = all_at (HasListsOf h) lists index t c.requires.lists there in
    let finder = c.renew_bound-in-loop-touched.ensures.finder in
    record {
      renewed = renewed_more h lists index t c.loop-touched.bounds c.renew_bound-in-loop-touched.new.bounds there own.edge
          (record { middle = c.renew_bound.new.bounds; up = c.renew_bound.ensures.bounds; down = c.renew_bound-in-loop-touched.ensures.bounds })
          c.loop-touched.invariant.renewed;
      same = finder.same;
      turn = turn_behind lists (edges_rise lists c.requires.rising) index t there _ finder.turn;
    }

pub returns : goal.returns
returns g c =
    let h : HierarchyValue = g.W.Ways.hierarchy c.args.ways.now in
    record { bounds = renewed_all h c.args.lists.now c.loop-touched.touched-index c.loop-touched.bounds (omega arith) c.loop-touched.invariant.renewed }
