-- What is answered over measured profiles by a hierarchy that is held and the points that are kept, and what an edit makes of both.
use Rattle.std.specs.Prelude.{ℕ, List, ◌++◌, ◌≡◌, ◌⊎◌, Option, Result, Ok, Err, codes, length}
use Rattle.cu_model.specs.declared.queries.Query.{Query}
use Rattle.cu_model.specs.declared.queries.QueryRefusal.{QueryRefusal}
use Rattle.cu_model.specs.declared.roads.Edit.{Edit}
use Rattle.cu_drive.specs.DriveLines.{drive_of}
use Rattle.cu_interval.specs.Hierarchies.{HierarchyValue}
use Rattle.cu_router.specs.Answers.{IsHeldWaits}
use Rattle.cu_script.specs.declared.lines.EditRefusal.{EditRefusal}
use Rattle.cu_script.specs.EditLines.{edit_of}
use Rattle.cu_wait.specs.declared.points.Point.{Point}
use Rattle.cu_wait.specs.KeptPoints.{kept_after}
use Rattle.cu_session.specs.declared.questions.Kind.{Kind}
use Rattle.cu_session.specs.declared.questions.Kind.TheVariants as kind
use Rattle.cu_session.specs.Held.{IsHeldDone, IsHeldReplyTo}
use Rattle.cu_session.specs.Questions.{Asked, asked_as, kind_of}
use Rattle.cu_session.specs.Refusals.{check_word, edit_check_words}
use Rattle.cu_session.specs.Scripts.{IsLineReply}

-- a hierarchy, and the points that are kept of the profile of each number
pub record KeptValue : Type 0 where
  pub hierarchy : HierarchyValue
  pub kept : List (Option (List Point))

-- the reply to a line that asks for the drive of a query
abbrev pub IsKeptDrive : KeptValue → Result Query QueryRefusal → List ℕ → Type 0
IsKeptDrive w (Ok query) reply = IsHeldWaits w.kept w.hierarchy query reply
IsKeptDrive w (Err refusal) reply = reply ≡ codes "refused: " ++ check_word refusal

-- The reply to a line that may be an edit, and what is kept after it. An edit is made, or there was no memory for it, and nothing has
-- changed.
abbrev pub IsKeptEdit : KeptValue → Result Edit EditRefusal → List ℕ → KeptValue → Type 0
IsKeptEdit w (Ok edit) reply after =
    (IsHeldDone w.hierarchy edit reply after.hierarchy × (after.kept ≡ kept_after edit w.kept))
    ⊎ ((reply ≡ codes "no memory") × (after ≡ w))
IsKeptEdit w (Err refusal) reply after = (reply ≡ codes "refused: " ++ edit_check_words refusal) × (after ≡ w)

-- what the text of a line of a kind asks for over the network of a hierarchy
abbrev pub asked_in : HierarchyValue → Kind → List ℕ → Asked
asked_in h k text = asked_as k h.network.nodes (length h.network.arcs) (length h.network.profiles) text

-- the reply to the text of a line of a kind; a question that isn't for a drive is answered by the hierarchy alone
abbrev pub IsKeptReplyAs : Kind → KeptValue → List ℕ → List ℕ → KeptValue → Type 0
IsKeptReplyAs kind.Drive w text reply after = IsKeptDrive w (drive_of w.hierarchy.network.nodes text) reply × (after ≡ w)
IsKeptReplyAs kind.Edit w text reply after =
    IsKeptEdit w (edit_of (length w.hierarchy.network.arcs) (length w.hierarchy.network.profiles) text) reply after
IsKeptReplyAs other w text reply after =
    IsHeldReplyTo w.hierarchy (asked_in w.hierarchy other text) reply after.hierarchy × (after.kept ≡ w.kept)

-- the reply to the text of a line
abbrev pub IsKeptText : KeptValue → List ℕ → List ℕ → KeptValue → Type 0
IsKeptText w text reply after = IsKeptReplyAs (kind_of text) w text reply after

-- the reply to a line of the script, without the line feed that ends it
abbrev pub IsKeptReply : KeptValue → List ℕ → List ℕ → KeptValue → Type 0
IsKeptReply w line reply after = IsLineReply IsKeptText w line reply after
