use Rattle.std.proofs.Common.{◌≡◌, take}
use Rattle.cu_dissect.specs.Steps.Parts.{far_ends, near_ends}
use Rattle.cu_dissect.proofs.splitting.road_ends.Given as goal

abbrev pub invariant-loop-number : goal.invariant-loop-number
invariant-loop-number l = record {
  near : l.near.items ≡ near_ends (take l.number l.network.arcs);
  far : l.far.items ≡ far_ends (take l.number l.network.arcs);
}
