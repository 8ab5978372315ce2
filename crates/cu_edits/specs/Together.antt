-- Which edits are settled together: one, or all of a list.
use Rattle.std.specs.Prelude.{ℕ, List, Option, Some, None, ◌≡◌, ◌<◌, ◌∷◌, [], length, slice_get}
use Rattle.std.specs.Borrow.{Bor}
use Rattle.cu_model.specs.declared.profiles.Piece.{Piece}
use Rattle.cu_model.specs.declared.roads.Edit.{Edit}
use Rattle.cu_model.specs.Edits.{IsEditInRange}
use Rattle.cu_model.specs.Networks.{NetworkValue}
use Rattle.cu_resettled.specs.ResettlingAll.{edited_all}
use Rattle.cu_edits.specs.declared.edits.Edits.{Edits}
use Rattle.cu_edits.specs.declared.edits.Edits.TheVariants.{One, All}
use Rattle.cu_edits.specs.EditLists.{FitsNetwork}

abbrev pub edits_of : Edits → List Edit
edits_of (One edit) = edit.now ∷ []
edits_of (All list) = list.now.edits

-- they are edits of this network
abbrev pub FitEdits : NetworkValue → Edits → Type 0
FitEdits g (One edit) = IsEditInRange g edit.now
FitEdits g (All list) = FitsNetwork g list.now

-- they give the profile with this number these pieces, or leave it
abbrev pub GiveProfile : NetworkValue → List Edit → ℕ → Option (Bor (List Piece)) → Type 0
GiveProfile g edits profile None = slice_get (edited_all g edits).profiles profile ≡ slice_get g.profiles profile
GiveProfile g edits profile (Some pieces) = profile < length g.profiles → slice_get (edited_all g edits).profiles profile ≡ Some pieces.now
