-- Roads that an edit doesn't change lead where they led, and arrive when they did.
use Rattle.std.proofs.Common.{◌≡◌, ◌∙◌, ℕ, Option, Some, None, refl, sym, ap}
use Rattle.std.specs.Prelude.{slice_get}
use Rattle.cu_model.specs.declared.roads.RoadArc.{RoadArc}
use Rattle.cu_model.specs.declared.roads.Edit.{Edit}
use Rattle.cu_model.specs.declared.roads.Edit.TheVariants.{Set, Assign}
use Rattle.cu_model.specs.Edits.{edited}
use Rattle.cu_model.specs.Networks.{NetworkValue}
use Rattle.cu_model.specs.Orders.{OrderValue}
use Rattle.cu_model.specs.Profiles.{is_closed}
use Rattle.cu_model.specs.Roads.{arc_value, is_closed_arc, is_closed_by, pieces_or_none, value_by, value_of}
use Rattle.cu_model.proofs.ListLaws.{get_other}
use Rattle.cu_interval.specs.Low.{LeadsRanks}
use Rattle.cu_interval.specs.Touching.{IsChanged}
use Rattle.cu_resettled.proofs.Unchanged.{other_road}

-- the road is the same in both networks, and so is its profile
pub record IsSameRoad (g h : NetworkValue) (a : ℕ) : Type 0 where
  pub arc : slice_get g.arcs a ≡ slice_get h.arcs a
  pub profile : (road : RoadArc) → slice_get g.arcs a ≡ Some road → slice_get g.profiles road.profile ≡ slice_get h.profiles road.profile

pub same_back : (g h : NetworkValue) (a : ℕ) → IsSameRoad g h a → IsSameRoad h g a
same_back g h a same = record { arc = sym same.arc; profile = λ road at. sym (same.profile road (same.arc ∙ at)) }

pub same_road : (g : NetworkValue) (a : ℕ) → IsSameRoad g g a
same_road g a = record { arc = refl; profile = λ road at. refl }

pub same_then : (g h k : NetworkValue) (a : ℕ) → IsSameRoad g h a → IsSameRoad h k a → IsSameRoad g k a
same_then g h k a one two = record {
  arc = one.arc ∙ two.arc;
  profile = λ road at. one.profile road at ∙ two.profile road (sym one.arc ∙ at);
}

-- what isn't changed is the same
pub unchanged_same : (g : NetworkValue) (edit : Edit) (a : ℕ) → (IsChanged g edit a → ⊥) → IsSameRoad g (edited g edit) a
unchanged_same g (Set profile pieces) a off = record {
  arc = refl;
  profile = λ road at. sym (get_other g.profiles profile road.profile pieces (λ same. off (road, at, sym same)));
}
unchanged_same g (Assign b profile) a off = record {
  arc = sym (other_road g b profile a (slice_get g.arcs b) (λ same. off (sym same)));
  profile = λ road at. refl;
}

value_same : (g h : NetworkValue) (o : Option RoadArc) (t : ℕ)
    → ((road : RoadArc) → o ≡ Some road → slice_get g.profiles road.profile ≡ slice_get h.profiles road.profile) → value_by g o t ≡ value_by h o t
value_same g h None t profile = refl
value_same g h (Some road) t profile = ap (λ p. value_of p t) (profile road refl)

-- it arrives at the same second
pub same_arrives : (g h : NetworkValue) (a t : ℕ) → IsSameRoad g h a → arc_value g a t ≡ arc_value h a t
same_arrives g h a t same = value_same g h (slice_get g.arcs a) t same.profile ∙ ap (λ o. value_by h o t) same.arc

closed_same : (g h : NetworkValue) (o : Option RoadArc)
    → ((road : RoadArc) → o ≡ Some road → slice_get g.profiles road.profile ≡ slice_get h.profiles road.profile) → is_closed_by g o ≡ is_closed_by h o
closed_same g h None profile = refl
closed_same g h (Some road) profile = ap (λ p. is_closed (pieces_or_none p)) (profile road refl)

-- and leads from and to the same ranks
pub same_leads : (g h : NetworkValue) (o : OrderValue) (a u v : ℕ) → IsSameRoad g h a → LeadsRanks g o a u v → LeadsRanks h o a u v
same_leads g h o a u v same (p, q, ((road, at, tail, head), free), from, to) =
    let closed : is_closed_arc g a ≡ is_closed_arc h a = closed_same g h (slice_get g.arcs a) same.profile ∙ ap (is_closed_by h) same.arc in
    (p, q, ((road, sym same.arc ∙ at, tail, head), sym closed ∙ free), from, to)
