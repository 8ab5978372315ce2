use Rattle.std.proofs.Common.{ap, sym}
use Rattle.cu_chordal.specs.Graphs.{ChordalValue}
use Rattle.cu_recall.proofs.Entries.{asked_some, middle_there, parts_over, way_over}
use Rattle.cu_interval.specs.declared.ways.Way.TheVariants as way
use Rattle.cu_recall.proofs.looking.look_up.Goals as goal

pub unreachable-requires : goal.unreachable-requires
unreachable-requires c =
    asked_some c.args.view.now c.ways.ensures.sound c.args.asked c.direction-dir.result c.ways.result c.requires.asked c.ways.ensures.list c.direction-dir.ensures c.in_default.ensures.found

pub halves-parts-requires : goal.halves-parts-requires
halves-parts-requires c =
    let force = c.in-Some.ensures.found in
    record {
      middle = (
        c.args.view.now,
        sym (ap (λ (graph : ChordalValue). graph.edges) c.requires.graph),
        middle_there c.args.view.now c.ways.ensures.sound c.args.asked c.direction-dir.result c.in-Via.middle c.args.asked.second c.requires.asked c.direction-dir.ensures
            (λ u v is. way_over c.args.view.now c.ways.ensures.sound c.args.asked c.direction-dir.result c.ways.result c.in-Some.found (way.Via c.in-Via.middle)
            c.ways.ensures.list c.direction-dir.ensures force c.in-Via.is
            u v is c.args.asked.second force.0.0 force.0.1),
      );
    }

pub returns-in-Road : goal.returns-in-Road
returns-in-Road c =
    let force = c.in-Some.ensures.found in
    record {
      met = (
        (
          force.0.2,
          λ u v is some.
              way_over c.args.view.now c.ways.ensures.sound c.args.asked c.direction-dir.result c.ways.result c.in-Some.found (way.Road c.in-Road.road)
              c.ways.ensures.list c.direction-dir.ensures force c.in-Road.is u v is,
        ),
        force.0.0,
        force.0.1,
      );
    }

pub returns-in-Via : goal.returns-in-Via
returns-in-Via c =
    let force = c.in-Some.ensures.found in
    record {
      met = (
        (
          force.0.2,
          λ u v is some.
              parts_over c.args.view.now c.args.asked.list c.direction-dir.result c.in-Via.middle c.halves-parts.result u v c.in-Some.found.from
              c.in-Some.found.until (c.halves-parts.ensures.halves c.args.view.now (sym (ap (λ (graph : ChordalValue). graph.edges) c.requires.graph)))
              c.direction-dir.ensures is
              (way_over c.args.view.now c.ways.ensures.sound c.args.asked c.direction-dir.result c.ways.result c.in-Some.found (way.Via c.in-Via.middle)
              c.ways.ensures.list c.direction-dir.ensures force c.in-Via.is u v is),
        ),
        force.0.0,
        force.0.1,
      );
    }
