-- Lines of edits whose edits are planned, and what is said of them once all are made.
use Rattle.std.specs.Prelude.{ℕ, List, [], ◌∷◌, ◌++◌, ◌≡◌, ◌≤◌, Result, Ok, Err, codes, decimal, take}
use Rattle.cu_io.specs.Counts.{Rose}
use Rattle.cu_io.specs.Lines.{lines_of}
use Rattle.cu_io.specs.Sinks.{SinkState}
use Rattle.cu_io.specs.Transfers.{Appends}
use Rattle.cu_io.specs.declared.sink.SinkFailed.{SinkFailed}
use Rattle.cu_interval.specs.Hierarchies.{HierarchyValue}
use Rattle.cu_edits.specs.EditLists.{EditListValue, FitsList}
use Rattle.cu_session.specs.declared.editing.Said.{Said}
use Rattle.cu_session.specs.declared.editing.Said.TheVariants.{Long, Refused, Done}
use Rattle.cu_session.specs.AtOnce.{AreSaid}
use Rattle.cu_session.specs.Refusals.{edit_check_words}
use Rattle.cu_session.specs.Sessions.{IsFlushed}

-- the reply to a line
abbrev pub said_text : Said → List ℕ
said_text Long = codes "refused: long"
said_text (Refused refusal) = codes "refused: " ++ edit_check_words refusal
said_text (Done count) = codes "done " ++ decimal count

-- the replies, each ended by a line feed
abbrev pub said_texts : List Said → List ℕ
said_texts [] = []
said_texts (said ∷ more) = (said_text said ++ 10 ∷ []) ++ said_texts more

-- the first lines of a text were planned over a hierarchy: so much is said of them, and these are their edits
pub record IsPlanning (h : HierarchyValue) (text rest : List ℕ) (said : List Said) (edits : EditListValue) : Type 0 where
  pub fits : FitsList h edits
  pub lines : List (List ℕ)
  pub cut : lines_of text ≡ lines ++ lines_of rest
  pub are : AreSaid h.network h.order lines (said_texts said) edits.edits

-- a text was written and flushed; or the sink failed in it
abbrev pub WritesText : Result (Unit {0}) SinkFailed → List ℕ → SinkState → SinkState → Type 0
WritesText (Ok value) text before now =
    Appends before.written now.written text × IsFlushed before now × (now.faults ≡ before.faults) × (before.flushed ≤ now.flushed)
WritesText (Err failed) text before now =
    ((n : ℕ) × Appends before.written now.written (take n text)) × Rose before.faults now.faults × (before.faults ≤ now.faults) × (before.flushed ≤ now.flushed)
