-- An edit in work, whose touched edges are settled one a step.
use Rattle.std.specs.Prelude.{ℕ, List, ◌++◌, ◌∷◌, [], ◌≡◌, ◌≤◌, ◌-◌, length}
use Rattle.cu_chordal.specs.declared.graph.TheConstants.{MAX_EDGES}
use Rattle.cu_interval.specs.declared.ways.TouchedEdge.{TouchedEdge}
use Rattle.cu_edits.specs.Steps.Settled.{AreSettled}
use Rattle.cu_edits.specs.Settling.{IsResettledEdge, SettlingValue, numbers_of, settled_so_far}
use Rattle.cu_resettled.specs.ResettlingAll.{NumbersTouchedBySome}

-- whose edit it is, the edges that it touches, and what of them is settled
pub record InWorkValue : Type 0 where
  pub client : ℕ
  pub edges : List ℕ
  pub state : SettlingValue

-- how many edges are left
abbrev pub left_of : InWorkValue → ℕ
left_of work = length work.edges - length work.state.settled

-- what is kept of it beside its settler
pub record PapersValue : Type 0 where
  pub client : ℕ
  pub edges : List ℕ
  pub lists : List TouchedEdge

abbrev pub in_work_of : PapersValue → SettlingValue → InWorkValue
in_work_of papers state = record { client = papers.client; edges = papers.edges; state = state }

-- the edges are all that the edit touches, and those settled are the first of them
pub record IsInWork (work : InWorkValue) : Type 0 where
  pub touched : NumbersTouchedBySome work.state.before work.state.edit work.edges
  pub few : length work.edges ≤ MAX_EDGES
  pub rest : List ℕ
  pub parts : numbers_of work.state.settled ++ rest ≡ work.edges
  pub are : AreSettled work.state

-- exactly the next edge is settled
pub record SettlesNext (old new : InWorkValue) : Type 0 where
  pub list : TouchedEdge
  pub more : List ℕ
  pub next : numbers_of old.state.settled ++ (list.edge ∷ more) ≡ old.edges
  pub settled : new ≡ record old { state = record (old.state) { settled = old.state.settled ++ (list ∷ []) } }
  pub resettled : IsResettledEdge (settled_so_far new.state) list
