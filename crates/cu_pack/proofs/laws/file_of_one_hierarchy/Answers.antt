use Rattle.cu_pack.proofs.Spelled.Again.{one_hierarchy}
use Rattle.cu_pack.proofs.Spelled.Parts.{file_long}
use Rattle.cu_pack.proofs.laws.file_of_one_hierarchy.Goals as goal

pub returns-clause-long : goal.returns-clause-long
returns-clause-long c version h known sound = file_long version h sound

pub returns-clause-one : goal.returns-clause-one
returns-clause-one c = one_hierarchy
