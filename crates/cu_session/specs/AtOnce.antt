-- Lines of edits, answered by a network and an order alone: what is said of each, and the edits that they make in turn.
use Rattle.std.specs.Prelude.{ℕ, List, [], ◌∷◌, ◌++◌, ◌≡◌, codes, decimal, length, nat_lt}
use Rattle.std.specs.Bool.{MatchBool}
use Rattle.cu_io.specs.Lines.{without_return}
use Rattle.cu_model.specs.declared.roads.Edit.{Edit}
use Rattle.cu_model.specs.Edits.{IsEditInRange, edited}
use Rattle.cu_model.specs.Networks.{IsNetwork, NetworkValue}
use Rattle.cu_model.specs.Orders.{OrderValue}
use Rattle.cu_resettled.specs.ResettlingAll.{edited_all}
use Rattle.cu_script.specs.EditLines.{edit_of}
use Rattle.cu_session.specs.Questions.{Asked, Asks, AsksEdit, Fails, asked_by_edit}
use Rattle.cu_session.specs.Replies.{Touches}
use Rattle.cu_session.specs.Scripts.{line_limit}

-- an edit that leaves a network is said to be done, and how many edges it touches
pub record IsCounted (g : NetworkValue) (order : OrderValue) (edit : Edit) (reply : List ℕ) : Type 0 where
  pub count : ℕ
  pub touches : Touches g order edit count
  pub said : reply ≡ codes "done " ++ decimal count
  pub range : IsEditInRange g edit
  pub network : IsNetwork (edited g edit)

-- what is said of what a line of edits asks for, and the edits that it makes: one or none
abbrev pub IsSaidOf : NetworkValue → OrderValue → Asked → List ℕ → List Edit → Type 0
IsSaidOf g order (Asks question) reply made = ⊥
IsSaidOf g order (AsksEdit edit) reply made = IsCounted g order edit reply × (made ≡ edit ∷ [])
IsSaidOf g order (Fails words) reply made = (reply ≡ codes "refused: " ++ words) × (made ≡ [])

-- the same of a line; one that is too long makes none
abbrev pub IsSaid : NetworkValue → OrderValue → List ℕ → List ℕ → List Edit → Type 0
IsSaid g order line reply made =
    MatchBool (nat_lt line_limit (length line)) ((reply ≡ codes "refused: long") × (made ≡ []))
    (IsSaidOf g order (asked_by_edit (edit_of (length g.arcs) (length g.profiles) (without_return line))) reply made)

-- the same of lines in turn, each over the network as edited by those before it, and each ended by a line feed
abbrev pub AreSaid : NetworkValue → OrderValue → List (List ℕ) → List ℕ → List Edit → Type 0
AreSaid g order [] output edits = (output ≡ []) × (edits ≡ [])
AreSaid g order (line ∷ lines) output edits =
    (reply : List ℕ) × (made : List Edit) × (rest : List ℕ) × (more : List Edit) × IsSaid g order line reply made
    × AreSaid (edited_all g made) order lines rest more × (output ≡ (reply ++ 10 ∷ []) ++ rest) × (edits ≡ made ++ more)
