use Rattle.std.proofs.Common.{◌≡◌, ◌<◌, ◌/◌, Some, length, subst, sym}
use Rattle.std.specs.Prelude.{slice_get}
use Rattle.cu_chordal.specs.Graphs.{ChordalValue}
use Rattle.cu_recall.specs.declared.pending.Asked.{Asked}
use Rattle.cu_recall.specs.Steps.Looks.{IsMetAt}
use Rattle.cu_recall.proofs.Middles.{first_there, middle_way, road_way}
use Rattle.cu_recall.proofs.recalled.way_over.Goals as goal

pub ends-requires : goal.ends-requires
ends-requires c =
    let h = c.args.view.now in
    let met = subst (λ (asked : Asked). IsMetAt h asked c.in-Some.met) c.asked_of-asked.ensures (c.in-Some.ensures.met h c.requires.knows) in
    let there = first_there h c.requires.sound c.args.edge c.args.dir c.args.second c.requires.edge c.in-Some.met met c.in-Halves.first c.in-Halves.second c.in-Halves.is in
    subst (λ (graph : ChordalValue). c.in-Halves.first / 2 < length graph.edges) (sym c.requires.graph) there

pub returns-in-Road : goal.returns-in-Road
returns-in-Road c =
    let h = c.args.view.now in
    let met = subst (λ (asked : Asked). IsMetAt h asked c.in-Some.met) c.asked_of-asked.ensures (c.in-Some.ensures.met h c.requires.knows) in
    record { way = sym (road_way h c.requires.sound c.args.edge c.args.dir c.args.second c.requires.edge c.in-Some.met met c.in-Road.road c.in-Road.is) }

pub returns-in-Halves : goal.returns-in-Halves
returns-in-Halves c =
    let h = c.args.view.now in
    let met = subst (λ (asked : Asked). IsMetAt h asked c.in-Some.met) c.asked_of-asked.ensures (c.in-Some.ensures.met h c.requires.knows) in
    let ends : slice_get h.edges (c.in-Halves.first / 2) ≡ Some c.ends.result =
    subst (λ (graph : ChordalValue). slice_get graph.edges (c.in-Halves.first / 2) ≡ Some c.ends.result) c.requires.graph c.ends.ensures.there in
    record {
      way = sym
          (middle_way h c.requires.sound c.args.edge c.args.dir c.args.second c.requires.edge c.in-Some.met met c.in-Halves.first c.in-Halves.second c.ends.result c.in-Halves.is ends);
    }
