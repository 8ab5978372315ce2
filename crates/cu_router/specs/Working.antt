-- An edit in work over the hierarchy that is held.
use Rattle.std.specs.Prelude.{ℕ, ◌≡◌, ◌∷◌, [], ◌-◌, length}
use Rattle.cu_interval.specs.Hierarchies.{HierarchyValue}
use Rattle.cu_edits.specs.InWork.{IsInWork, in_work_of}
use Rattle.cu_edits.specs.Paused.{FitsPaused}
use Rattle.cu_router.specs.declared.busy.Busy.{Busy}

-- what is kept of an edit in work is of an edit of this hierarchy, of which the first edges are settled
pub record FitsBusy (h : HierarchyValue) (busy : Busy) : Type 0 where
  pub work : IsInWork (in_work_of busy.papers (record { before = h; edit = busy.edit ∷ []; settled = busy.settler.settled }))
  pub lists : busy.papers.lists ≡ busy.settler.settled
  pub fits : FitsPaused h (busy.edit ∷ []) busy.settler

-- how many of the edges that it touches are left
abbrev pub edges_left : Busy → ℕ
edges_left busy = length busy.papers.edges - length busy.papers.lists
