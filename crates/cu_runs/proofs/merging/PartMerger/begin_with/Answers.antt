use Rattle.std.proofs.Common.{◌∙◌, List, ap, refl, sym}
use Rattle.cu_arrival.specs.declared.runs.Run.{Run}
use Rattle.cu_arrival.specs.Runs.{arrival_value}
use Rattle.cu_runs.specs.Steps.Merging.{IsMerged, least_held}
use Rattle.cu_runs.specs.PackedRuns.{composed}
use Rattle.cu_runs.proofs.AddLaws.{merged_arrival, merged_lists, still_held, told, told_way}
use Rattle.cu_runs.proofs.FirstLaws.{first_merging}
use Rattle.cu_runs.proofs.merging.PartMerger.begin_with.Goals as goal

-- the lists that have been swapped in are right
merged : (c : goal.After-swap-2) → IsMerged c.self.inside.least (composed c.args.first.now c.args.second.now) c.args.way c.swap.new.x.items c.swap-2.new.x.items
merged c =
    let l = c.self.inside.least in
    let arrival = composed c.args.first.now c.args.second.now in
    let whole = first_merging l c.args.self.now c.args.first.now c.args.second.now c.deref.result.now c.args.way c.take_all.new.self c.requires.first c.requires.second c.self.view_is
    c.requires.none (λ t early. ap (λ (xs : List Run). arrival_value xs t) c.deref.ensures.value ∙ c.in_ok-link.ensures.value t early) c.in_ok-take_all.ensures.done c.in_ok-take_all.ensures.alone in
    merged_lists l arrival c.args.way c.finish.new.self c.swap.new.x c.swap-2.new.x c.swap.ensures.x_after c.swap-2.ensures.x_after (c.in_ok-finish.ensures.merged arrival c.args.way whole)

pub invariant_of-self-2 : goal.invariant_of-self-2
invariant_of-self-2 c = still_held c.self.inside.least record { packed = c.swap.new.x; ways = c.swap-2.new.x } (composed c.args.first.now c.args.second.now) c.args.way (merged c)

pub returns-clause-arrival : goal.returns-clause-arrival
returns-clause-arrival c t h =
    let l = c.self.inside.least in
    let both = merged_arrival l record { packed = c.swap.new.x; ways = c.swap-2.new.x } (composed c.args.first.now c.args.second.now) c.args.way (merged c) t h in
    told (least_held l) c.args.self.now _ _ _ t (sym c.self.view_is) refl both.0

pub returns-clause-way : goal.returns-clause-way
returns-clause-way c t h =
    let l = c.self.inside.least in
    let both = merged_arrival l record { packed = c.swap.new.x; ways = c.swap-2.new.x } (composed c.args.first.now c.args.second.now) c.args.way (merged c) t h in
    told_way (least_held l) c.args.self.now _ _ _ c.args.way t (sym c.self.view_is) refl both.1
