use Rattle.std.proofs.Common.{rules, ◌≡◌, [], refl, sym}
use Rattle.std.proofs.lemmas.List.{nil_from_length}
use Rattle.cu_runs.specs.Least.{least_arrival, least_way}
use Rattle.cu_runs.specs.Steps.Merging.{least_held}
use Rattle.cu_runs.specs.PackedRuns.{composed}
use Rattle.cu_runs.proofs.AddLaws.{merged_arrival, merged_lists, nothing_put, restarted, still_held, told, told_way}
use Rattle.cu_runs.proofs.CompareLaws.{merging_none}
use Rattle.cu_runs.proofs.merging.PartMerger.add.Goals as goal

pub link_and_compare-requires-clause-next : goal.link_and_compare-requires-clause-next
link_and_compare-requires-clause-next c = restarted c.self.inside.least c.restart.new.self c.self.invariant c.restart.ensures.even c.restart.ensures.index c.restart.ensures.done

pub returns-then-is_empty-clause-arrival : goal.returns-then-is_empty-clause-arrival
returns-then-is_empty-clause-arrival c t h =
    let l = c.self.inside.least in
    let arrival = composed c.args.first.now c.args.second.now in
    let none : c.link_and_compare.new.next.packed.items ≡ [] = nil_from_length c.link_and_compare.new.next.packed.items (search rules) in
    let whole = c.in_ok-link_and_compare.ensures.merged arrival (λ s late early. refl) (merging_none l arrival c.args.way c.restart.new.self c.restart.ensures.done c.restart.ensures.empty) in
    let both = nothing_put l arrival c.args.way c.link_and_compare.new.next none whole t h in
    told (least_held l) c.args.self.now (least_arrival (least_held l) t) _ _ t (sym c.self.view_is) refl both.0

pub returns-then-is_empty-clause-way : goal.returns-then-is_empty-clause-way
returns-then-is_empty-clause-way c t h =
    let l = c.self.inside.least in
    let arrival = composed c.args.first.now c.args.second.now in
    let none : c.link_and_compare.new.next.packed.items ≡ [] = nil_from_length c.link_and_compare.new.next.packed.items (search rules) in
    let whole = c.in_ok-link_and_compare.ensures.merged arrival (λ s late early. refl) (merging_none l arrival c.args.way c.restart.new.self c.restart.ensures.done c.restart.ensures.empty) in
    let both = nothing_put l arrival c.args.way c.link_and_compare.new.next none whole t h in
    told_way (least_held l) c.args.self.now (least_way (least_held l) t) _ _ c.args.way t (sym c.self.view_is) refl both.1

pub invariant_of-self-2 : goal.invariant_of-self-2
invariant_of-self-2 c =
    let l = c.self.inside.least in
    let arrival = composed c.args.first.now c.args.second.now in
    let whole = c.in_ok-link_and_compare.ensures.merged arrival (λ s late early. refl) (merging_none l arrival c.args.way c.restart.new.self c.restart.ensures.done c.restart.ensures.empty) in
    let merged = merged_lists l arrival c.args.way c.finish.new.self c.swap.new.x c.swap-2.new.x c.swap.ensures.x_after c.swap-2.ensures.x_after
    (c.in_ok-finish.ensures.merged arrival c.args.way whole) in
    still_held l record { packed = c.swap.new.x; ways = c.swap-2.new.x } arrival c.args.way merged

pub returns-clause-arrival : goal.returns-clause-arrival
returns-clause-arrival c t h =
    let l = c.self.inside.least in
    let arrival = composed c.args.first.now c.args.second.now in
    let whole = c.in_ok-link_and_compare.ensures.merged arrival (λ s late early. refl) (merging_none l arrival c.args.way c.restart.new.self c.restart.ensures.done c.restart.ensures.empty) in
    let merged = merged_lists l arrival c.args.way c.finish.new.self c.swap.new.x c.swap-2.new.x c.swap.ensures.x_after c.swap-2.ensures.x_after
    (c.in_ok-finish.ensures.merged arrival c.args.way whole) in
    let both = merged_arrival l record { packed = c.swap.new.x; ways = c.swap-2.new.x } arrival c.args.way merged t h in
    told (least_held l) c.args.self.now _ _ _ t (sym c.self.view_is) refl both.0

pub returns-clause-way : goal.returns-clause-way
returns-clause-way c t h =
    let l = c.self.inside.least in
    let arrival = composed c.args.first.now c.args.second.now in
    let whole = c.in_ok-link_and_compare.ensures.merged arrival (λ s late early. refl) (merging_none l arrival c.args.way c.restart.new.self c.restart.ensures.done c.restart.ensures.empty) in
    let merged = merged_lists l arrival c.args.way c.finish.new.self c.swap.new.x c.swap-2.new.x c.swap.ensures.x_after c.swap-2.ensures.x_after
    (c.in_ok-finish.ensures.merged arrival c.args.way whole) in
    let both = merged_arrival l record { packed = c.swap.new.x; ways = c.swap-2.new.x } arrival c.args.way merged t h in
    told_way (least_held l) c.args.self.now _ _ _ c.args.way t (sym c.self.view_is) refl both.1
