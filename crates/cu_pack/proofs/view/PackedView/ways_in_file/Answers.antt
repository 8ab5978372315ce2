use Rattle.cu_pack.specs.Reading.{decoded}
use Rattle.cu_pack.proofs.Spelled.Again.{spelled_sections}
use Rattle.cu_pack.proofs.view.PackedView.ways_in_file.Goals as goal

pub of-requires : goal.of-requires
of-requires c = record { spelled = spelled_sections c.self.inside.sections (decoded c.self.inside.sections) c.self.invariant }
