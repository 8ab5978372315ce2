use Rattle.std.proofs.Common.{◌≡◌, true, false, length, sym, subst, rules}
use Rattle.cu_interval.proofs.EndsLaws.{number_within}
use Rattle.cu_unpack.specs.Steps.Rebuilding.{HasHalves, IsWayOf}
use Rattle.cu_unpack.proofs.HalfEdges.{first_missing, halves_lower, halves_there, second_missing}
use Rattle.cu_unpack.proofs.missing.missing_half_of.Goals as goal

pub is_known-requires : goal.is_known-requires
is_known-requires g c =
    let h = g.W.Ways.hierarchy c.args.ways.now in
    let way = subst (IsWayOf h c.args.shortcut) c.in-Via.is c.requires.way in
    let lower = halves_lower h c.requires.sound c.args.shortcut c.halves.result.0 c.halves.result.1 c.in-Via.middle way c.halves.ensures.halves in
    rw c.requires.size (number_within c.halves.result.0.edge (length h.edges) c.halves.result.0.dir lower.0.0.0)

pub returns-then-not-is_known : goal.returns-then-not-is_known
returns-then-not-is_known g c =
    let h = g.W.Ways.hierarchy c.args.ways.now in
    let way = subst (IsWayOf h c.args.shortcut) c.in-Via.is c.requires.way in
    let no : c.is_known.result ≡ false = search rules in
    record {
      missing = first_missing h c.requires.sound (g.K.Known.knows c.args.known.now) c.args.shortcut c.halves.result.0 c.halves.result.1 c.in-Via.middle way c.halves.ensures.halves
          (λ there. let yes = c.is_known.ensures.1 there in absurd (cc (yes, no)));
    }

pub is_known-requires-2 : goal.is_known-requires-2
is_known-requires-2 g c =
    let h = g.W.Ways.hierarchy c.args.ways.now in
    let way = subst (IsWayOf h c.args.shortcut) c.in-Via.is c.requires.way in
    let lower = halves_lower h c.requires.sound c.args.shortcut c.halves.result.0 c.halves.result.1 c.in-Via.middle way c.halves.ensures.halves in
    rw c.requires.size (number_within c.halves.result.1.edge (length h.edges) c.halves.result.1.dir lower.1.0.0)

pub returns-then-not-is_known-2 : goal.returns-then-not-is_known-2
returns-then-not-is_known-2 g c =
    let h = g.W.Ways.hierarchy c.args.ways.now in
    let way = subst (IsWayOf h c.args.shortcut) c.in-Via.is c.requires.way in
    let no : c.is_known-2.result ≡ false = search rules in
    record {
      missing = second_missing h c.requires.sound (g.K.Known.knows c.args.known.now) c.args.shortcut c.halves.result.0 c.halves.result.1 c.in-Via.middle way c.halves.ensures.halves
          (λ there. let yes = c.is_known-2.ensures.1 there in absurd (cc (yes, no)));
    }

pub returns : goal.returns
returns g c =
    let h = g.W.Ways.hierarchy c.args.ways.now in
    let first : c.is_known.result ≡ true = search rules in
    let second : c.is_known-2.result ≡ true = search rules in
    record {
      missing = subst (HasHalves h (g.K.Known.knows c.args.known.now) c.args.shortcut) (sym c.in-Via.is)
          (halves_there h c.requires.sound (g.K.Known.knows c.args.known.now) c.args.shortcut c.halves.result.0 c.halves.result.1 c.in-Via.middle c.halves.ensures.halves
          (c.is_known.ensures.0 first) (c.is_known-2.ensures.0 second));
    }
