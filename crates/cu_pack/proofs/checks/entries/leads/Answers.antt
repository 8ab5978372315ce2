use Rattle.std.proofs.Common.{◌≡◌, ℕ, List, Bool, true, false, IsTrue, not, refl, ap, subst, sym, arith}
use Rattle.cu_model.specs.declared.roads.RoadArc.{RoadArc}
use Rattle.cu_pack.specs.declared.layout.Counts.{Counts}
use Rattle.cu_pack.specs.Reading.{arc_in, rank_of_in}
use Rattle.cu_pack.proofs.Read.WayEntries.{leads_inside, leads_what, leads_where}
use Rattle.cu_pack.proofs.checks.entries.leads.Goals as goal

-- a road's ends have these ranks
abbrev HaveRanks : List ℕ → RoadArc → ℕ → ℕ → Type 0
HaveRanks bytes road from to = (rank_of_in bytes road.tail ≡ from) × (rank_of_in bytes road.head ≡ to)

open_from : (b c : Bool) → b ≡ c → IsTrue (not b) → c ≡ false
open_from true c same h = absurd (cc h)
open_from false c same h = sym same

open_where : (b c : Bool) → b ≡ c → c ≡ false → IsTrue (not b)
open_where true c same h = absurd (cc (same, h))
open_where false c same h = refl

pub returns-then-arc-counts : goal.returns-then-arc-counts
returns-then-arc-counts c = (
  λ f. absurd (cc f),
  λ leads.
      let within = leads_inside c.args.sections.now c.args.arc c.args.from c.args.to leads in
      let past = c.if-arc-counts.true in
      let arcs = ap (λ (counts : Counts). counts.arcs) c.counts.ensures.counts in
      absurd (omega (arith, within, past, arcs)),
)

pub returns-then-has_ranks : goal.returns-then-has_ranks
returns-then-has_ranks c =
    let bytes = c.args.sections.now in
    let roads = c.requires.graph.roads in
    let ranks : HaveRanks bytes (arc_in bytes c.args.arc) c.args.from c.args.to = subst (λ (road : RoadArc). HaveRanks bytes road c.args.from c.args.to) c.arc-road.ensures.road
    (c.has_ranks.ensures.0 c.if-has_ranks.true) in
    let arcs = ap (λ (counts : Counts). counts.arcs) c.counts.ensures.counts in
    let not_past = c.if-arc-counts.false in (
      λ driven.
          leads_where bytes roads c.args.arc (omega (arith, not_past, arcs)) c.args.from c.args.to ranks.0 ranks.1 (open_from c.is_closed.result _ c.is_closed.ensures.closed driven),
      λ leads.
          let inside = leads_inside bytes c.args.arc c.args.from c.args.to leads in
          open_where c.is_closed.result _ c.is_closed.ensures.closed (leads_what bytes roads c.args.arc inside c.args.from c.args.to leads).0,
    )

pub returns-else-has_ranks : goal.returns-else-has_ranks
returns-else-has_ranks c =
    let bytes = c.args.sections.now in
    let roads = c.requires.graph.roads in (
      λ h. absurd (cc (h, c.if-has_ranks.false)),
      λ leads.
          let inside = leads_inside bytes c.args.arc c.args.from c.args.to leads in
          let all = leads_what bytes roads c.args.arc inside c.args.from c.args.to leads in
          c.has_ranks.ensures.1 (subst (λ (road : RoadArc). HaveRanks bytes road c.args.from c.args.to) (sym c.arc-road.ensures.road) (all.1, all.2)),
    )
