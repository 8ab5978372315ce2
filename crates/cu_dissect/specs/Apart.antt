-- How the two sides of a split lie to each other.
use Rattle.std.specs.Prelude.{ℕ, Some, ◌≡◌, ◌⊎◌, slice_get}
use Rattle.std.specs.List.{Contains}
use Rattle.cu_model.specs.Networks.{NetworkValue}
use Rattle.cu_model.specs.Orders.{OrderValue}
use Rattle.cu_model.specs.Roads.{Links}
use Rattle.cu_chordal.specs.Graphs.{ChordalValue}
use Rattle.cu_elimtree.specs.SweepArcs.{ancestors_in}
use Rattle.cu_dissect.specs.Dissection.{SplitValue}

-- no road leads from the left of a split to its right, nor back
abbrev pub IsApart : NetworkValue → SplitValue → Type 0
IsApart g split = (arc u v : ℕ) → Contains split.left u → Contains split.right v → (Links g arc u v ⊎ Links g arc v u) → ⊥

-- no rank of a node on the left is an ancestor of one on the right, nor the other way round
abbrev pub IsUnrelated : ChordalValue → OrderValue → SplitValue → Type 0
IsUnrelated graph order split = (u v x y : ℕ) → Contains split.left u → Contains split.right v → slice_get order.rank_of u ≡ Some x → slice_get order.rank_of v ≡ Some y
    → (Contains (ancestors_in graph x) y ⊎ Contains (ancestors_in graph y) x) → ⊥
