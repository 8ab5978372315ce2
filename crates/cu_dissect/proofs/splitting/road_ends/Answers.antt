use Rattle.cu_dissect.proofs.Besides.{ends_more}
use Rattle.cu_dissect.proofs.splitting.road_ends.Goals as goal

pub loop-number-preserved : goal.loop-number-preserved
loop-number-preserved c =
    let arcs = c.args.network.now.arcs in
    let i = c.loop-number.number in
    record {
      near = ends_more (λ a. a.tail) (λ a. a.head) arcs i c.arc-arc.result c.loop-number.near.items c.push.new.self.items c.push-in-loop-number-2.new.self.items
          c.arc-arc.ensures.there c.loop-number.invariant.near
          c.in_ok-push.ensures.items c.in_ok-push-3.ensures.items;
      far = ends_more (λ a. a.head) (λ a. a.tail) arcs i c.arc-arc.result c.loop-number.far.items c.push-in-loop-number.new.self.items
          c.push-in-loop-number-3.new.self.items c.arc-arc.ensures.there c.loop-number.invariant.far
          c.in_ok-push-2.ensures.items c.in_ok-push-4.ensures.items;
    }
