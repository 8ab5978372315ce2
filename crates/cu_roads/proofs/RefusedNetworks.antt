-- What a refusal says of what the texts give.
use Rattle.std.proofs.Common.{◌≡◌, ◌≢◌, List, false, refl}
use Rattle.std.specs.Prelude.{Result, Err}
use Rattle.cu_model.specs.declared.profiles.Piece.{Piece}
use Rattle.cu_tables.specs.Checks.{IsRefused}
use Rattle.cu_profile.specs.declared.refusals.ProfileRefusal.{ProfileRefusal}
use Rattle.cu_roads.specs.declared.refusals.RoadRefusal.{RoadRefusal}
use Rattle.cu_roads.specs.declared.refusals.RoadRefusal.TheVariants as refusal
use Rattle.cu_roads.specs.NetworkTexts.{NetworkRead}
use Rattle.cu_roads.specs.Steps.TableRows.{IsRefusedForProfiles, is_of_profiles}

-- the refusal of the profiles is the network's, where what the network's texts give is refused as they are
pub gives_refused_profiles : (why : RoadRefusal) (given : Result (List (List Piece)) ProfileRefusal) (network : Result NetworkRead RoadRefusal)
    → ((inner : ProfileRefusal) → given ≡ Err inner → network ≡ Err (refusal.Profiles inner)) → IsRefusedForProfiles given why → IsRefused refusal.NoMemory network why
gives_refused_profiles (refusal.Header file) given network h r n = absurd r
gives_refused_profiles (refusal.Fields file row) given network h r n = absurd r
gives_refused_profiles (refusal.Number file row) given network h r n = absurd r
gives_refused_profiles (refusal.TooManyNodes row) given network h r n = absurd r
gives_refused_profiles (refusal.TooManyArcs row) given network h r n = absurd r
gives_refused_profiles (refusal.Sequence file row) given network h r n = absurd r
gives_refused_profiles (refusal.NodeRange row) given network h r n = absurd r
gives_refused_profiles (refusal.ProfileRange row) given network h r n = absurd r
gives_refused_profiles (refusal.Profiles why) given network h r n = h why r.0
gives_refused_profiles refusal.NoMemory given network h r n = absurd (n refl)

-- a refusal of a table isn't one of the profiles
pub of_table : {T : Type 0} (why : RoadRefusal) (answer : Result T RoadRefusal) (inner : ProfileRefusal) → is_of_profiles why ≡ false → answer ≡ Err why → answer ≢ Err (refusal.Profiles inner)
of_table why answer inner h e k =
    let same : why ≡ refusal.Profiles inner = cc (e, k) in
    let two = rw same at h in
    cc two
