-- A file cut into its sections.
use Rattle.std.specs.Prelude.{ℕ, List, ◌≡◌, length}
use Rattle.cu_pack.specs.declared.layout.Counts.{Counts}
use Rattle.cu_pack.specs.declared.layout.Layout.{Layout}
use Rattle.cu_pack.specs.Layouts.{AreInLimits, file_length, layout_of}
use Rattle.cu_pack.specs.Reading.{counts_in}

-- the counts of the header are within their limits, the file is as long as they ask, and its sections lie as they say
pub record IsCut (bytes : List ℕ) (c : Counts) (l : Layout) : Type 0 where
  pub counts : c ≡ counts_in bytes
  pub limits : AreInLimits (counts_in bytes)
  pub size : file_length (counts_in bytes) ≡ length bytes
  pub layout : l ≡ layout_of (counts_in bytes)
