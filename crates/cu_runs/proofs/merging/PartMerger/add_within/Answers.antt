use Rattle.std.proofs.Common.{rules, ◌≡◌, [], List, subst}
use Rattle.std.proofs.lemmas.List.{nil_from_length}
use Rattle.cu_runs.specs.Least.{Held, IsAddedWithin}
use Rattle.cu_runs.specs.Steps.Merging.{least_held}
use Rattle.cu_runs.specs.PackedRuns.{composed}
use Rattle.cu_runs.proofs.AddLaws.{merged_arrival, merged_lists, nothing_put, restarted, still_held}
use Rattle.cu_runs.proofs.SeenLaws.{added_within, is_seen, seen, too_late}
use Rattle.cu_runs.proofs.merging.PartMerger.add_within.Goals as goal

pub compare_windows-requires-clause-next : goal.compare_windows-requires-clause-next
compare_windows-requires-clause-next c = restarted c.self.inside.least c.restart.new.self c.self.invariant c.restart.ensures.even c.restart.ensures.index c.restart.ensures.done

pub returns-then-is_empty : goal.returns-then-is_empty
returns-then-is_empty c =
    let l = c.self.inside.least in
    let limits = c.args.limits in
    let f = composed c.args.first.now c.args.second.now in
    let arrival = seen limits.windows limits.lower.now limits.most.now f (too_late (least_held l)) in
    let none : c.compare_windows.new.next.packed.items ≡ [] = nil_from_length c.compare_windows.new.next.packed.items (search rules) in
    let whole = c.in_ok-compare_windows.ensures.merged arrival (is_seen limits record { first = c.args.first; second = c.args.second; way = c.args.way } l) in
    subst (λ (hs : List Held). IsAddedWithin limits.windows limits.most.now f c.args.way hs (least_held l)) c.self.view_is
    (added_within limits.windows limits.lower.now limits.most.now f c.args.way (least_held l) (least_held l) c.requires.lower
    (λ t h. nothing_put l arrival c.args.way c.compare_windows.new.next none whole t h))

pub invariant_of-self-2 : goal.invariant_of-self-2
invariant_of-self-2 c =
    let l = c.self.inside.least in
    let limits = c.args.limits in
    let arrival = seen limits.windows limits.lower.now limits.most.now (composed c.args.first.now c.args.second.now) (too_late (least_held l)) in
    let whole = c.in_ok-compare_windows.ensures.merged arrival (is_seen limits record { first = c.args.first; second = c.args.second; way = c.args.way } l) in
    let merged = merged_lists l arrival c.args.way c.finish.new.self c.swap.new.x c.swap-2.new.x c.swap.ensures.x_after c.swap-2.ensures.x_after
    (c.in_ok-finish.ensures.merged arrival c.args.way whole) in
    still_held l record { packed = c.swap.new.x; ways = c.swap-2.new.x } arrival c.args.way merged

pub returns : goal.returns
returns c =
    let l = c.self.inside.least in
    let limits = c.args.limits in
    let f = composed c.args.first.now c.args.second.now in
    let arrival = seen limits.windows limits.lower.now limits.most.now f (too_late (least_held l)) in
    let whole = c.in_ok-compare_windows.ensures.merged arrival (is_seen limits record { first = c.args.first; second = c.args.second; way = c.args.way } l) in
    let merged = merged_lists l arrival c.args.way c.finish.new.self c.swap.new.x c.swap-2.new.x c.swap.ensures.x_after c.swap-2.ensures.x_after
    (c.in_ok-finish.ensures.merged arrival c.args.way whole) in
    let new = least_held record { packed = c.swap.new.x; ways = c.swap-2.new.x } in
    subst (λ (hs : List Held). IsAddedWithin limits.windows limits.most.now f c.args.way hs new) c.self.view_is
    (added_within limits.windows limits.lower.now limits.most.now f c.args.way (least_held l) new c.requires.lower
    (λ t h. merged_arrival l record { packed = c.swap.new.x; ways = c.swap-2.new.x } arrival c.args.way merged t h))
