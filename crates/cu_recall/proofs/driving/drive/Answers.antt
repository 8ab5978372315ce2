use Rattle.std.proofs.Common.{◌<◌, arith}
use Rattle.cu_model.specs.Days.{day}
use Rattle.cu_recall.proofs.RoadDrives.{drives_road, rule_onward}
use Rattle.cu_recall.proofs.driving.drive.Goals as goal

pub drive_by-requires-clause-onward : goal.drive_by-requires-clause-onward
drive_by-requires-clause-onward c =
    let some = c.requires.window.1 in
    let until = c.requires.window.2 in
    let early : c.args.second < day = omega (arith, some, until) in
    rule_onward c.args.view.now.network c.requires.sound.network c.args.road c.args.second c.rule_in_force.result c.requires.road early c.rule_in_force.ensures.found

pub returns : goal.returns
returns c = record {
  drives = drives_road c.args.view.now.network c.args.road c.args.second c.args.back c.args.ahead c.rule_in_force.result c.drive_by.result c.rule_in_force.ensures.found c.drive_by.ensures.drives;
}
