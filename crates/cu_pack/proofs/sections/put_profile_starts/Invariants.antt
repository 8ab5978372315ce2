-- What is put and the starts from the next profile on are all that is to be put.
use Rattle.std.proofs.Common.{◌≡◌, ◌++◌, List, ℕ, take, drop, flat_map}
use Rattle.cu_pack.specs.Spelling.{long, starts_from, total}
use Rattle.cu_pack.proofs.sections.put_profile_starts.Given as goal

abbrev pub invariant-loop-profile : goal.invariant-loop-profile
invariant-loop-profile g l = record {
  start : l.start ≡ total (take l.profile (g.R.Roads.network l.roads).profiles);
  done : List ℕ;
  grows : g.T.Target.grows l.fn.bytes l.bytes done;
  put : done ++ flat_map long (starts_from l.start (drop l.profile (g.R.Roads.network l.roads).profiles)) ≡ flat_map long (starts_from 0 (g.R.Roads.network l.roads).profiles);
}
