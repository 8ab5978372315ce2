-- So many roads were driven, and the next one is entered at this second.
use Rattle.std.proofs.Common.{◌≡◌, ◌≤◌, ◌+◌, ◌*◌, take}
use Rattle.cu_model.specs.declared.limits.TheConstants.{MAX_UNTIL}
use Rattle.cu_model.specs.Roads.{drive}
use Rattle.cu_recall.proofs.walking.drive_roads.Given as goal

abbrev pub invariant-roads : goal.invariant-roads
invariant-roads l = record {
  entered : l.entered ≡ drive l.view.network (take l.road-index l.roads) l.at;
  near : l.entered ≤ l.at + MAX_UNTIL * l.road-index;
}
