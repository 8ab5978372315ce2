-- The network after edits in turn is one.
use Rattle.std.proofs.Common.{◌≡◌, ◌∙◌, List, [], ◌∷◌, length, refl}
use Rattle.cu_model.specs.declared.roads.Edit.{Edit}
use Rattle.cu_model.specs.Edits.{edited}
use Rattle.cu_model.specs.Networks.{IsNetwork, NetworkValue}
use Rattle.cu_model.proofs.EditLaws.{arcs_edited, nodes_edited, profiles_edited}
use Rattle.cu_resettled.specs.ResettlingAll.{edited_all}
use Rattle.cu_edits.specs.Lists.{AreInRange, AreSound}
use Rattle.cu_edits.proofs.EditedNetworks.{edited_network}

pub edited_networks : (g : NetworkValue) (edits : List Edit) → IsNetwork g → AreInRange g edits → AreSound edits → IsNetwork (edited_all g edits)
edited_networks g [] sound range sets = sound
edited_networks g (edit ∷ edits) sound range sets = edited_networks (edited g edit) edits (edited_network g edit sound range.0 sets.0) range.1 sets.1

-- it has as many roads, profiles and nodes
pub arcs_all : (g : NetworkValue) (edits : List Edit) → length (edited_all g edits).arcs ≡ length g.arcs
arcs_all g [] = refl
arcs_all g (edit ∷ edits) = arcs_all (edited g edit) edits ∙ arcs_edited g edit

pub profiles_all : (g : NetworkValue) (edits : List Edit) → length (edited_all g edits).profiles ≡ length g.profiles
profiles_all g [] = refl
profiles_all g (edit ∷ edits) = profiles_all (edited g edit) edits ∙ profiles_edited g edit

pub nodes_all : (g : NetworkValue) (edits : List Edit) → (edited_all g edits).nodes ≡ g.nodes
nodes_all g [] = refl
nodes_all g (edit ∷ edits) = nodes_all (edited g edit) edits ∙ nodes_edited g edit
