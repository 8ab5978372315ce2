use Rattle.std.proofs.Common.{◌≡◌, ◌+◌, arith, length, ap, subst, sym}
use Rattle.std.proofs.lemmas.List.{take_at}
use Rattle.cu_chordal.specs.Steps.Closing.{IsBefore}
use Rattle.cu_chordal.specs.Steps.Flat.{edges_in}
use Rattle.cu_chordal.proofs.Adding.{IsPart, before_more, part_added, part_in_range, part_sorted}
use Rattle.cu_chordal.proofs.closure.Closing.add_rank.Goals as goal

pub hand_on-requires-clause-in_range : goal.hand_on-requires-clause-in_range
hand_on-requires-clause-in_range c =
    let part_is : IsPart (edges_in c.args.self.now.table) c.args.links.now (length c.args.self.now.stamps.items) c.args.rank c.sort_unstable.new.self.items =
    part_sorted (length c.args.self.now.stamps.items) c.args.rank c.args.self.now c.args.links.now c.in_ok-part.part.items c.sort_unstable.new.self.items c.requires.before c.requires.links
    c.in_ok-part.ensures.exact c.in_ok-part.ensures.once c.in_ok-part.ensures.room c.sort_unstable.ensures.permutation c.sort_unstable.ensures.sorted in
    part_in_range (edges_in c.args.self.now.table) c.args.links.now (length c.args.self.now.stamps.items) c.args.rank
    (length c.args.self.now.children.latest.items) c.sort_unstable.new.self.items c.deref-2.result.now part_is c.deref-2.ensures.value
    c.requires.before.handed.latest_long

pub returns-clause-before : goal.returns-clause-before
returns-clause-before c =
    let part_is : IsPart (edges_in c.args.self.now.table) c.args.links.now (length c.args.self.now.stamps.items) c.args.rank c.sort_unstable.new.self.items =
    part_sorted (length c.args.self.now.stamps.items) c.args.rank c.args.self.now c.args.links.now c.in_ok-part.part.items c.sort_unstable.new.self.items c.requires.before c.requires.links
    c.in_ok-part.ensures.exact c.in_ok-part.ensures.once c.in_ok-part.ensures.room c.sort_unstable.ensures.permutation c.sort_unstable.ensures.sorted in
    let stamps_long : length c.gather_all.new.stamps ≡ length c.args.self.now.stamps.items =
    omega (arith, c.gather_all.auto.stamps, c.deref_mut.ensures.len, c.args.self.now.stamps.ok.0, ap length c.deref_mut.ensures.value) in
    let kept = take_at c.gather_all.new.stamps _ c.args.self.now.stamps.len (omega (arith, stamps_long, c.args.self.now.stamps.ok.0)) in
    let all = before_more (length c.args.self.now.stamps.items) c.args.rank c.args.self.now c.append.new.self c.hand_on.new.self c.args.links.now
    c.sort_unstable.new.self.items c.deref.result.now c.deref-2.result.now c.gather_all.new.stamps
    c.requires.below c.requires.before part_is c.deref.ensures.value c.deref-2.ensures.value c.in_ok-append.ensures c.hand_on.ensures stamps_long c.in_ok-part.ensures.stamps in
    subst (IsBefore (length c.args.self.now.stamps.items) (c.args.rank + 1) c.append.new.self c.hand_on.new.self) (sym kept) all

pub returns-clause-added : goal.returns-clause-added
returns-clause-added c =
    let part_is : IsPart (edges_in c.args.self.now.table) c.args.links.now (length c.args.self.now.stamps.items) c.args.rank c.sort_unstable.new.self.items =
    part_sorted (length c.args.self.now.stamps.items) c.args.rank c.args.self.now c.args.links.now c.in_ok-part.part.items c.sort_unstable.new.self.items c.requires.before c.requires.links
    c.in_ok-part.ensures.exact c.in_ok-part.ensures.once c.in_ok-part.ensures.room c.sort_unstable.ensures.permutation c.sort_unstable.ensures.sorted in
    part_added c.args.links.now c.args.rank (length c.args.self.now.stamps.items) c.args.self.now.table c.append.new.self
    c.sort_unstable.new.self.items c.deref.result.now c.requires.before.layout c.requires.before.edges part_is c.deref.ensures.value c.in_ok-append.ensures
