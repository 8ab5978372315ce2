-- What a desk says of what it did.
use Rattle.std.specs.Prelude.{ℕ, Bool, false, true, List, ◌≡◌, ◌++◌, codes, decimal}
use Rattle.cu_model.specs.declared.roads.Edit.{Edit}
use Rattle.cu_interval.specs.Hierarchies.{HierarchyValue}
use Rattle.cu_desk.specs.declared.begun.Begun.{Begun}
use Rattle.cu_desk.specs.declared.begun.Begun.TheVariants as begun
use Rattle.cu_desk.specs.declared.stepped.Stepped.{Stepped}
use Rattle.cu_desk.specs.declared.stepped.Stepped.TheVariants as stepped
use Rattle.cu_desk.specs.HeldDesks.{MakesHeld}

-- what a step says
abbrev pub stepped_text : Stepped → List ℕ
stepped_text stepped.Idle = codes "idle"
stepped_text (stepped.Left edges) = codes "left " ++ decimal edges
stepped_text (stepped.Published client) = codes "published " ++ decimal client
stepped_text stepped.NoMemory = codes "no memory"

-- what the beginning of an edit says to its client
abbrev pub begun_text : Begun → List ℕ
begun_text begun.Done = codes "done 0"
begun_text (begun.Begun edges) = codes "begun " ++ decimal edges
begun_text begun.NoMemory = codes "no memory"

-- what a cancel says to its client, by whether that client's edit was in work
abbrev pub cancel_text : Bool → List ℕ
cancel_text true = codes "cancelled"
cancel_text false = codes "refused: none"

-- an edit that touches no edge was made, or there was no memory for it and nothing has changed
abbrev pub PublishedAtOnce : HierarchyValue → Edit → Begun → HierarchyValue → Type 0
PublishedAtOnce old edit begun.Done new = MakesHeld old edit new
PublishedAtOnce old edit (begun.Begun edges) new = ⊥
PublishedAtOnce old edit begun.NoMemory new = new ≡ old
