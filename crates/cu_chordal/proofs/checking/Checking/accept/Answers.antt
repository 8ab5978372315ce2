use Rattle.std.proofs.Common.{◌≡◌, ◌+◌, List, ℕ, arith, ap, drop, length, subst, sym, take, ◌++◌, ◌∙◌}
use Rattle.std.proofs.lemmas.List.{take_at}
use Rattle.cu_chordal.specs.Lists.{edges_below, part_at}
use Rattle.cu_chordal.specs.Steps.Checking.{AreFoundRight, Climbs, IsSourcePart}
use Rattle.cu_chordal.proofs.Checked.{climbed_sources, counted_low, right_more, sources_climb}
use Rattle.cu_chordal.proofs.checking.Checking.accept.Goals as goal
use Rattle.cu_chordal.proofs.checking.Checking.accept.Goals.{then-part-count-via-then-part-count, then-part-count-via-else-part-count+then-not-climbs}

pub returns-then-part-count-clause-no : goal.returns-then-part-count-clause-no
returns-then-part-count-clause-no c = λ e f.
    let both = sources_climb (edges_below c.args.starts.now c.args.uppers.now c.args.rank) c.args.links.now (length c.args.self.now.stamps.items) c.args.rank
    c.stamp_sources-count.result c.stamp_sources-count.new.stamps (part_at c.args.starts.now c.args.uppers.now c.args.rank) c.requires.before.edges c.requires.links
    c.stamp_sources-count.ensures.counts f.rising f.exact in
    let stamps_long : length c.stamp_sources-count.new.stamps ≡ length c.args.self.now.stamps.items =
    omega (arith, c.stamp_sources-count.auto.stamps, c.deref_mut.ensures.len, c.args.self.now.stamps.ok.0, ap length c.deref_mut.ensures.value) in
    let kept = take_at c.stamp_sources-count.new.stamps (drop (length c.stamp_sources-count.new.stamps) c.args.self.now.stamps.items) c.args.self.now.stamps.len
    (omega (arith, stamps_long, c.args.self.now.stamps.ok.0)) in
    elim c.then-part-count.branch [
      | then-part-count-via-then-part-count w ↦ absurd (omega (arith, ap length c.part-part.ensures, both.0, w.if-part-count.true))
      | then-part-count-via-else-part-count+then-not-climbs w ↦
          w.climbs.ensures.no w.if-not-climbs.true
          (subst (λ ss. Climbs c.args.rank ss c.part-part.result.now) (sym (w.deref.ensures.value ∙ kept))
          (subst (Climbs c.args.rank c.stamp_sources-count.new.stamps) (sym c.part-part.ensures) both.1))
    ]

stamps_long : (c : goal.After-hand_on) → length c.stamp_sources-count.new.stamps ≡ length c.args.self.now.stamps.items
stamps_long c = omega (arith, c.stamp_sources-count.auto.stamps, c.deref_mut.ensures.len, c.args.self.now.stamps.ok.0, ap length c.deref_mut.ensures.value)

kept : (c : goal.After-hand_on)
    → take c.args.self.now.stamps.len (c.stamp_sources-count.new.stamps ++ drop (length c.stamp_sources-count.new.stamps) c.args.self.now.stamps.items) ≡ c.stamp_sources-count.new.stamps
kept c = take_at c.stamp_sources-count.new.stamps _ c.args.self.now.stamps.len (omega (arith, stamps_long c, c.args.self.now.stamps.ok.0))

source_part : (c : goal.After-hand_on) → IsSourcePart c.args.starts.now c.args.uppers.now c.args.links.now c.args.rank
source_part c =
    let starts : List ℕ = c.args.starts.now in
    let uppers : List ℕ = c.args.uppers.now in
    let climbs : Climbs c.args.rank c.stamp_sources-count.new.stamps (part_at starts uppers c.args.rank) =
    subst (λ ss. Climbs c.args.rank ss (part_at starts uppers c.args.rank)) (c.deref.ensures.value ∙ kept c)
    (subst (Climbs c.args.rank c.deref.result.now) c.part-part.ensures (c.climbs.ensures.yes c.if-not-climbs.false)) in
    let long : length (part_at starts uppers c.args.rank) ≡ c.stamp_sources-count.result = omega (arith, ap length c.part-part.ensures, c.if-part-count.false) in
    record {
      laid = (omega (arith, c.if-end-start.false), omega (arith, c.if-end-uppers.false));
      rising = climbs.rising;
      exact = climbed_sources (edges_below starts uppers c.args.rank) c.args.links.now c.args.rank c.stamp_sources-count.result c.stamp_sources-count.new.stamps
          (part_at starts uppers c.args.rank) c.stamp_sources-count.ensures.counts long climbs;
    }

pub returns-clause-yes : goal.returns-clause-yes
returns-clause-yes c = λ e. source_part c

pub returns-clause-before : goal.returns-clause-before
returns-clause-before c = λ e.
    let low = counted_low (edges_below c.args.starts.now c.args.uppers.now c.args.rank) c.args.links.now c.args.rank c.stamp_sources-count.result c.stamp_sources-count.new.stamps
    c.stamp_sources-count.ensures.counts in
    subst (AreFoundRight (length c.args.self.now.stamps.items) (c.args.rank + 1) c.args.starts.now c.args.uppers.now c.hand_on.new.self) (sym (kept c))
    (right_more (length c.args.self.now.stamps.items) c.args.rank c.args.starts.now c.args.uppers.now c.args.links.now c.part-part.result.now c.args.self.now.children
    c.hand_on.new.self c.args.self.now.stamps.items c.stamp_sources-count.new.stamps c.requires.below c.requires.before c.requires.few_edges c.requires.links
    (source_part c) c.part-part.ensures c.hand_on.ensures (stamps_long c) low)
