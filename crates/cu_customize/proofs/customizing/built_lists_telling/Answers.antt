use Rattle.cu_customize.proofs.Whole.{made_built}
use Rattle.cu_customize.proofs.customizing.built_lists_telling.Goals as goal

pub build_lists-requires : goal.build_lists-requires
build_lists-requires g c = record {
  network = c.nodes.ensures.sound;
  order = c.nodes-2.ensures.sound;
  chordal = c.ranks.ensures.sound;
  closed = c.requires.closed;
  arcs = c.in_ok-arcs.ensures;
  stays = c.staying-stay.ensures.function;
  stay = c.staying-stay.ensures.value;
}

pub returns-clause-built : goal.returns-clause-built
returns-clause-built g c =
    let (whole, built) = c.in_ok-building.ensures in
    made_built c.args.network.now c.args.order.now c.args.graph.now whole c.in_ok-building.building.lists.items c.nodes.ensures.sound c.nodes-2.ensures.sound
    c.requires.same c.ranks.ensures.sound c.requires.closed built
