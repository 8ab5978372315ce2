use Rattle.std.proofs.Common.{subst, sym}
use Rattle.std.specs.Prelude.{IfSome, IsSome}
use Rattle.cu_interval.specs.Hierarchies.{HierarchyValue}
use Rattle.cu_short.specs.Counts.{AreRoadCounts}
use Rattle.cu_short.specs.Shortness.{IsShort}
use Rattle.cu_pack.proofs.Spelled.Again.{same_hierarchy}
use Rattle.cu_router.proofs.held_file.known_of.Goals as goal

pub returns-in_default-clause-short : goal.returns-in_default-clause-short
returns-in_default-clause-short c = λ h spells nothing short.
    (let same = same_hierarchy c.args.bytes.now c.adopt-view.result h c.adopt-view.ensures.spells spells in
    let some = c.in_ok-roads.ensures.short.1 (subst (λ (g : HierarchyValue). IsShort g) (sym same) short) in
    absurd (cc (subst IsSome c.in_default.is some)))

pub returns-clause-known : goal.returns-clause-known
returns-clause-known c = λ h spells.
    (let same = same_hierarchy c.args.bytes.now c.adopt-view.result h c.adopt-view.ensures.spells spells in
    let counts = subst (λ roads. IfSome roads (AreRoadCounts c.adopt-view.result)) c.in-Some.is c.in_ok-roads.ensures.counts in
    subst (λ (g : HierarchyValue). AreRoadCounts g c.in-Some.roads) same counts)

pub returns-clause-short : goal.returns-clause-short
returns-clause-short c = λ h spells nothing. absurd (cc nothing)
