-- How many bytes the files of small networks have in each version, and where the digest stands.
use Rattle.std.proofs.Common.{◌≡◌, [], ◌∷◌, refl}
use Rattle.cu_interval.proofs.Examples.{forged, three_built}
use Rattle.cu_pack.specs.Layouts.{bounds_at, digest_at, file_length}
use Rattle.cu_pack.specs.Spelling.{counts_of}

lengths : file_length (counts_of 1 three_built) ∷ file_length (counts_of 2 three_built) ∷ file_length (counts_of 1 forged) ∷ file_length (counts_of 2 forged) ∷ []
    ≡ 392 ∷ 440 ∷ 580 ∷ 676 ∷ []
lengths = refl

places : bounds_at (counts_of 2 three_built) ∷ digest_at (counts_of 2 three_built) ∷ digest_at (counts_of 1 three_built) ∷ [] ≡ 360 ∷ 408 ∷ 360 ∷ []
places = refl
