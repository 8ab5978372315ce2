use Rattle.std.proofs.Common.{◌≡◌, ◌-◌, ◌/◌, List, length, map, arith, subst, ◌∙◌}
use Rattle.std.specs.List.Sorted.{IsPermutation}
use Rattle.std.proofs.lemmas.List.{get_or_read, length-map}
use Rattle.std.proofs.lemmas.List.Sorted.{length_permutation}
use Rattle.cu_dissect.specs.declared.halving.SortKey.{SortKey}
use Rattle.cu_dissect.specs.Steps.Keys.{key_of}
use Rattle.cu_dissect.proofs.KeyOrder.{middle_ends_half}
use Rattle.cu_dissect.proofs.halving.last_left.Goals as goal

pub returns : goal.returns
returns c =
    let part = c.args.part.now in
    let sorted : List SortKey = c.sort_unstable.new.self.items in
    let moved : IsPermutation (map (key_of c.args.places.now c.args.wide) part) sorted =
    subst (λ (keys : List SortKey). IsPermutation keys sorted) c.in_ok-keys.ensures c.sort_unstable.ensures.permutation in
    let long : length sorted ≡ length part = length_permutation (map (key_of c.args.places.now c.args.wide) part) sorted moved ∙ length-map part (key_of c.args.places.now c.args.wide) in
    middle_ends_half c.args.places.now c.args.wide part sorted c.index.result.now c.requires.some c.requires.part.rising moved c.sort_unstable.ensures.sorted
    (get_or_read sorted (length part / 2 - 1) c.index.result.now (omega (arith, c.requires.some, long)) c.index.ensures)
