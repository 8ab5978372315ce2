-- Replies over measured profiles, by the hierarchy and by the points that are kept.
use Rattle.std.proofs.Common.{◌≡◌, ◌≢◌, ◌++◌, ℕ, List, Result, Ok, decimal, length, refl, inl}
use Rattle.std.specs.Prelude.{codes}
use Rattle.cu_model.specs.declared.queries.Query.{Query}
use Rattle.cu_model.specs.declared.queries.QueryRefusal.{QueryRefusal}
use Rattle.cu_model.specs.declared.roads.Edit.{Edit}
use Rattle.cu_drive.specs.DriveLines.{drive_of}
use Rattle.cu_interval.specs.Hierarchies.{HierarchyValue}
use Rattle.cu_router.specs.Answers.{IsHeldWaits}
use Rattle.cu_router.specs.Edited.{IsEdited}
use Rattle.cu_script.specs.declared.lines.EditRefusal.{EditRefusal}
use Rattle.cu_script.specs.EditLines.{edit_of}
use Rattle.cu_wait.specs.KeptPoints.{kept_after}
use Rattle.cu_session.specs.declared.questions.Kind.{Kind}
use Rattle.cu_session.specs.declared.questions.Kind.TheVariants as kind
use Rattle.cu_session.specs.Held.{IsHeldReplyTo}
use Rattle.cu_session.specs.Kept.{IsKeptDrive, IsKeptEdit, IsKeptReplyAs, KeptValue, asked_in}
use Rattle.cu_session.proofs.EditLaws.{counted}

-- a question that isn't for a drive
pub held_alone : (k : Kind) → k ≢ kind.Drive → k ≢ kind.Edit → (w : KeptValue) (text reply : List ℕ) (after : HierarchyValue)
    → IsHeldReplyTo w.hierarchy (asked_in w.hierarchy k text) reply after → IsKeptReplyAs k w text reply (record { hierarchy = after; kept = w.kept })
held_alone kind.Query drive edit w text reply after held = (held, refl)
held_alone kind.Drive drive edit w text reply after held = absurd (drive refl)
held_alone kind.Day drive edit w text reply after held = (held, refl)
held_alone kind.Reach drive edit w text reply after held = (held, refl)
held_alone kind.Table drive edit w text reply after held = (held, refl)
held_alone kind.Latest drive edit w text reply after held = (held, refl)
held_alone kind.Edit drive edit w text reply after held = absurd (edit refl)

-- a question for a drive
pub drive_alone : (k : Kind) → k ≡ kind.Drive → (w after : KeptValue) (text reply : List ℕ) → IsKeptDrive w (drive_of w.hierarchy.network.nodes text) reply → after ≡ w
    → IsKeptReplyAs k w text reply after
drive_alone k is w after text reply told same = rw is (told, same)

-- a line that is no question
pub edit_alone : (k : Kind) → k ≡ kind.Edit → (w after : KeptValue) (text reply : List ℕ)
    → IsKeptEdit w (edit_of (length w.hierarchy.network.arcs) (length w.hierarchy.network.profiles) text) reply after → IsKeptReplyAs k w text reply after
edit_alone k is w after text reply made = rw is made

-- the drive of a query
pub drive_kept : (w : KeptValue) (query : Query) (reply : List ℕ) (asked : Result Query QueryRefusal) → asked ≡ Ok query → IsHeldWaits w.kept w.hierarchy query reply
    → IsKeptDrive w asked reply
drive_kept w query reply asked is answer = rw is answer

-- an edit that was made
pub edit_kept : (w after : KeptValue) (edit : Edit) (count : ℕ) (asked : Result Edit EditRefusal) → asked ≡ Ok edit → IsEdited w.hierarchy edit after.hierarchy count
    → after.kept ≡ kept_after edit w.kept → IsKeptEdit w asked (codes "done " ++ decimal count) after
edit_kept w after edit count asked is made kept = rw is (inl (counted w.hierarchy after.hierarchy edit count made, kept))
