-- How many nodes, roads and profiles a network has after an edit: as many as before.
use Rattle.std.proofs.Common.{◌≡◌, ℕ, List, Option, Some, None, refl, length}
use Rattle.std.specs.Prelude.{slice_get}
use Rattle.std.proofs.lemmas.List.{length-set}
use Rattle.cu_model.specs.declared.roads.Edit.{Edit}
use Rattle.cu_model.specs.declared.roads.Edit.TheVariants.{Assign, Set}
use Rattle.cu_model.specs.declared.roads.RoadArc.{RoadArc}
use Rattle.cu_model.specs.Edits.{edited, reassigned}
use Rattle.cu_model.specs.Networks.{NetworkValue}

pub nodes_edited : (g : NetworkValue) (edit : Edit) → (edited g edit).nodes ≡ g.nodes
nodes_edited g (Set profile pieces) = refl
nodes_edited g (Assign arc profile) = refl

pub reassigned_long : (found : Option RoadArc) (arc profile : ℕ) (arcs : List RoadArc) → length (reassigned found arc profile arcs) ≡ length arcs
reassigned_long None arc profile arcs = refl
reassigned_long (Some road) arc profile arcs = length-set arcs arc (record road { profile = profile })

pub arcs_edited : (g : NetworkValue) (edit : Edit) → length (edited g edit).arcs ≡ length g.arcs
arcs_edited g (Set profile pieces) = refl
arcs_edited g (Assign arc profile) = reassigned_long (slice_get g.arcs arc) arc profile g.arcs

pub profiles_edited : (g : NetworkValue) (edit : Edit) → length (edited g edit).profiles ≡ length g.profiles
profiles_edited g (Set profile pieces) = length-set g.profiles profile pieces
profiles_edited g (Assign arc profile) = refl
