-- Which roads an edit changes.
use Rattle.std.proofs.Common.{◌≡◌, ℕ, List, Some, sym, subst, eqb}
use Rattle.std.specs.Prelude.{slice_get}
use Rattle.std.specs.Bool.{Decides}
use Rattle.std.proofs.lemmas.Bool.Decides.{Decides-eqb, Decides-like}
use Rattle.cu_model.specs.declared.profiles.Piece.{Piece}
use Rattle.cu_model.specs.declared.roads.RoadArc.{RoadArc}
use Rattle.cu_model.specs.declared.roads.Edit.{Edit}
use Rattle.cu_model.specs.declared.roads.Edit.TheVariants.{Set, Assign}
use Rattle.cu_model.specs.Networks.{NetworkValue}
use Rattle.cu_interval.specs.Touching.{IsChanged}

set_there : (g : NetworkValue) (a profile : ℕ) (pieces : List Piece) (road : RoadArc) → slice_get g.arcs a ≡ Some road → IsChanged g (Set profile pieces) a → road.profile ≡ profile
set_there g a profile pieces road at (arc, there, is) =
    let same : arc ≡ road = cc (there, at) in
    subst (λ (r : RoadArc). r.profile ≡ profile) same is

pub decides_set : (g : NetworkValue) (a profile : ℕ) (pieces : List Piece) (road : RoadArc) (edit : Edit) → edit ≡ Set profile pieces → slice_get g.arcs a ≡ Some road
    → Decides (eqb road.profile profile) (IsChanged g edit a)
decides_set g a profile pieces road edit same at =
    subst (λ (e : Edit). Decides (eqb road.profile profile) (IsChanged g e a)) (sym same)
    (Decides-like (eqb road.profile profile) (λ is. (road, at, is)) (set_there g a profile pieces road at) (Decides-eqb road.profile profile))

pub decides_assign : (g : NetworkValue) (a b profile : ℕ) (edit : Edit) → edit ≡ Assign b profile → Decides (eqb a b) (IsChanged g edit a)
decides_assign g a b profile edit same = subst (λ (e : Edit). Decides (eqb a b) (IsChanged g e a)) (sym same) (Decides-eqb a b)
