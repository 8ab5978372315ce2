-- What is written by the points that are kept is the drive of whoever waits as little as serves.
use Rattle.std.proofs.Common.{◌≡◌, ◌∙◌, ℕ, zero, suc, List, [], ◌∷◌, ◌++◌, Bool, true, false, Option, Some, None, refl, sym, subst, ap, map}
use Rattle.std.specs.Prelude.{codes, decimal, slice_get, slice_set}
use Rattle.std.specs.List.{flat_map, join_by}
use Rattle.cu_model.specs.declared.profiles.Piece.{Piece}
use Rattle.cu_model.specs.declared.roads.Edit.{Edit}
use Rattle.cu_model.specs.declared.roads.Edit.TheVariants.{Set, Assign}
use Rattle.cu_model.specs.declared.roads.RoadArc.{RoadArc}
use Rattle.cu_model.specs.Networks.{IsNetwork, NetworkValue}
use Rattle.cu_model.specs.Profiles.{IsProfile, profile_value}
use Rattle.cu_model.specs.Roads.{drive}
use Rattle.cu_model.proofs.RoadLaws.{all_at}
use Rattle.cu_drive.specs.RoadTexts.{driven_text}
use Rattle.cu_wait.specs.declared.points.Point.{Point}
use Rattle.cu_wait.specs.Converted.{IsConverted, StandFor}
use Rattle.cu_wait.specs.KeptPoints.{kept_after, kept_of, kept_text, left_by, left_of_road, says_kept, waited_road_text}
use Rattle.cu_wait.specs.LeftSeconds.{IsLeft, left_at}
use Rattle.cu_wait.specs.Networks.{InPieces, IsRawWalk, LeadsRaw, Measured, RawNetwork, RawProfile, raw_arc_value, raw_edited, raw_value}
use Rattle.cu_wait.specs.WaitingDrives.{Waited, says_waits, waited, waited_text}
use Rattle.cu_wait.specs.Waits.{IsLeastFrom}
use Rattle.cu_wait.proofs.LeftLaws.{left_is_at, left_one}
use Rattle.cu_wait.proofs.WaitingDriveLaws.{arrives_left, pieces_left, points_left, road_days}
use Rattle.cu_wait.proofs.WaitingLaws.{least_alike, raw_by, stands_some}

get_kept : (profiles : List RawProfile) (number : ℕ) (profile : RawProfile) → slice_get profiles number ≡ Some profile → slice_get (map kept_of profiles) number ≡ Some (kept_of profile)
get_kept [] number profile is = absurd (cc is)
get_kept (x ∷ xs) zero profile is = let e : x ≡ profile = cc is in ap (λ (p : RawProfile). Some (kept_of p)) e
get_kept (x ∷ xs) (suc number) profile is = get_kept xs number profile is

-- where functions are the same one leaves at the same second
left_alike : (f g : ℕ → ℕ) → ((t : ℕ) → f t ≡ g t) → (second left : ℕ) → IsLeft f second left → IsLeft g second left
left_alike f g same second left is = record {
  later = is.later;
  least = subst (IsLeastFrom g second) (same left) (least_alike f g same second (f left) is.least);
  first = λ s le least. is.first s le (least_alike g f (λ t. sym (same t)) second (f s) (subst (IsLeastFrom g second) (sym (same s)) least));
}

module _ (raw : RawNetwork) (g : NetworkValue) (c : IsConverted raw g) (n : IsNetwork g) where
  profile_left : (profile : RawProfile) (pieces : List Piece) → StandFor profile pieces → IsProfile pieces → (second : ℕ) → IsLeft (raw_value profile) second (left_by (Some (kept_of profile)) second)
  profile_left (Measured points) pieces stands valid second = points_left points second
  profile_left (InPieces own) pieces stands valid second =
      subst (λ (x : List Piece). IsLeft (profile_value x) second second) stands (pieces_left pieces valid second)

  -- by the points that are kept one leaves when that serves
  kept_left : (road u v t : ℕ) → LeadsRaw raw road u v → left_of_road (map kept_of raw.profiles) (slice_get g.arcs road) t ≡ left_at (raw_arc_value raw road) t
  kept_left road u v t (arc, profile, at, tail, head, there, free) =
      let leads : LeadsRaw raw road u v = (arc, profile, at, tail, head, there, free) in
      let (pieces, is, stands) = stands_some _ _ profile there (c.profiles arc.profile) in
      let valid = all_at IsProfile g.profiles arc.profile pieces n.valid is in
      let here : slice_get g.arcs road ≡ Some arc = ap (λ (arcs : List RoadArc). slice_get arcs road) c.arcs ∙ at in
      let kept = get_kept raw.profiles arc.profile profile there in
      let own = left_alike (raw_value profile) (raw_arc_value raw road) (raw_by raw road arc profile at there) t (left_by (Some (kept_of profile)) t) (profile_left profile pieces stands valid t) in
      let one = left_one (raw_arc_value raw road) t (left_at (raw_arc_value raw road) t) (left_by (Some (kept_of profile)) t) (left_is_at (raw_arc_value raw road) (road_days raw g c n road u v leads) t) own in
      ap (λ (o : Option RoadArc). left_of_road (map kept_of raw.profiles) o t) here ∙ ap (λ (o : Option (Option (List Point))). left_by o t) kept ∙ one

  abbrev road_told : Bool → ℕ → ℕ → List ℕ
  road_told = kept_text (map kept_of raw.profiles) g.arcs

  told_behind : (u : ℕ) (walk : List ℕ) (v t : ℕ) → IsRawWalk raw u walk v
      → driven_text road_told g false walk t ≡ flat_map (λ (stop : Waited). (32 ∷ []) ++ waited_text stop) (waited raw walk t)
  told_behind u [] v t w = refl
  told_behind u (road ∷ walk) v t (x, leads, more) =
      let left = left_at (raw_arc_value raw road) t in
      let here = kept_left road u x t leads in
      let on = arrives_left raw g c n road u x t left leads (left_is_at (raw_arc_value raw road) (road_days raw g c n road u x leads) t) in
      ap (λ (l : ℕ). waited_road_text false road t l ++ driven_text road_told g false walk (drive g (road ∷ []) t)) here
      ∙ ap (λ (s : ℕ). waited_road_text false road t left ++ driven_text road_told g false walk s) (sym on)
      ∙ ap (λ (w : List ℕ). waited_road_text false road t left ++ w) (told_behind x walk v (raw_arc_value raw road left) more)

  -- what is written of a walk is the drive with the seconds that are defined, a blank between two roads
  waits_told : (u : ℕ) (walk : List ℕ) (v t : ℕ) → IsRawWalk raw u walk v
      → driven_text road_told g true walk t ≡ join_by waited_text (32 ∷ []) (waited raw walk t)
  waits_told u [] v t w = refl
  waits_told u (road ∷ walk) v t (x, leads, more) =
      let left = left_at (raw_arc_value raw road) t in
      let here = kept_left road u x t leads in
      let on = arrives_left raw g c n road u x t left leads (left_is_at (raw_arc_value raw road) (road_days raw g c n road u x leads) t) in
      ap (λ (l : ℕ). waited_road_text true road t l ++ driven_text road_told g false walk (drive g (road ∷ []) t)) here
      ∙ ap (λ (s : ℕ). waited_road_text true road t left ++ driven_text road_told g false walk s) (sym on)
      ∙ ap (λ (w : List ℕ). waited_road_text true road t left ++ w) (told_behind x walk v (raw_arc_value raw road left) more)

  -- and so is an arrival said
  pub waits_said : (u : ℕ) (walk : List ℕ) (v t arrival : ℕ) → IsRawWalk raw u walk v → says_kept (map kept_of raw.profiles) g t arrival walk ≡ says_waits raw t arrival walk
  waits_said u walk v t arrival w = ap (λ (roads : List ℕ). codes "arrive=" ++ decimal arrival ++ codes " drive=" ++ roads) (waits_told u walk v t w)

set_kept : (profiles : List RawProfile) (number : ℕ) (pieces : List Piece) → map kept_of (slice_set profiles number (InPieces pieces)) ≡ slice_set (map kept_of profiles) number None
set_kept [] number pieces = refl
set_kept (x ∷ xs) zero pieces = refl
set_kept (x ∷ xs) (suc number) pieces = ap (λ (rest : List (Option (List Point))). kept_of x ∷ rest) (set_kept xs number pieces)

-- what is kept of a network after an edit is so of what was kept before
pub kept_edited : (raw : RawNetwork) (edit : Edit) → map kept_of (raw_edited raw edit).profiles ≡ kept_after edit (map kept_of raw.profiles)
kept_edited raw (Set profile pieces) = set_kept raw.profiles profile pieces
kept_edited raw (Assign a profile) = refl
