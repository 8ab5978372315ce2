-- Roads that an edit leaves as they are.
use Rattle.std.proofs.Common.{◌≡◌, ◌≢◌, ◌∙◌, ℕ, List, Option, Some, None, refl, ap, sym, false}
use Rattle.std.specs.Prelude.{slice_get}
use Rattle.cu_model.specs.declared.profiles.Piece.{Piece}
use Rattle.cu_model.specs.declared.roads.RoadArc.{RoadArc}
use Rattle.cu_model.specs.declared.roads.Edit.{Edit}
use Rattle.cu_model.specs.declared.roads.Edit.TheVariants.{Set, Assign}
use Rattle.cu_model.specs.Edits.{edited, reassigned}
use Rattle.cu_model.specs.Networks.{NetworkValue}
use Rattle.cu_model.specs.Orders.{OrderValue}
use Rattle.cu_model.specs.Profiles.{is_closed}
use Rattle.cu_model.specs.Roads.{arc_value, is_closed_arc, is_closed_by, pieces_or_none, value_by, value_of}
use Rattle.cu_model.proofs.ListLaws.{get_other}
use Rattle.cu_chordal.specs.Edges.{LinksRanks}
use Rattle.cu_interval.specs.Low.{LeadsRanks}
use Rattle.cu_interval.specs.Touching.{IsChanged}
use Rattle.cu_resettled.proofs.Unmoved.{links_edited, links_kept}

-- a road is driven alike, and is closed in both or in none
pub record IsDrivenAlike (g h : NetworkValue) (a : ℕ) : Type 0 where
  pub value : (t : ℕ) → arc_value h a t ≡ arc_value g a t
  pub closed : is_closed_arc h a ≡ is_closed_arc g a

-- a road whose profile isn't set
other_profile : (g : NetworkValue) (profile : ℕ) (pieces : List Piece) (a : ℕ) (road : Option RoadArc) → slice_get g.arcs a ≡ road
    → ((arc : RoadArc) → road ≡ Some arc → arc.profile ≢ profile) → IsDrivenAlike g (edited g (Set profile pieces)) a
other_profile g profile pieces a None at other =
    let h = edited g (Set profile pieces) in record {
      value = λ t. ap (λ (o : Option RoadArc). value_by h o t) at ∙ sym (ap (λ (o : Option RoadArc). value_by g o t) at);
      closed = ap (is_closed_by h) at ∙ sym (ap (is_closed_by g) at);
    }
other_profile g profile pieces a (Some arc) at other =
    let h = edited g (Set profile pieces) in
    let same : slice_get h.profiles arc.profile ≡ slice_get g.profiles arc.profile = get_other g.profiles profile arc.profile pieces (λ is. other arc refl (sym is)) in record {
      value = λ t. ap (λ (o : Option RoadArc). value_by h o t) at ∙ ap (λ (o : Option (List Piece)). value_of o t) same ∙ sym (ap (λ (o : Option RoadArc). value_by g o t) at);
      closed = ap (is_closed_by h) at ∙ ap (λ (o : Option (List Piece)). is_closed (pieces_or_none o)) same ∙ sym (ap (is_closed_by g) at);
    }

-- a road to which no profile is assigned
pub other_road : (g : NetworkValue) (b profile a : ℕ) (old : Option RoadArc) → b ≢ a → slice_get (reassigned old b profile g.arcs) a ≡ slice_get g.arcs a
other_road g b profile a None ne = refl
other_road g b profile a (Some road) ne = get_other g.arcs b a (record road { profile = profile }) ne

pub unchanged_alike : (g : NetworkValue) (edit : Edit) (a : ℕ) → (IsChanged g edit a → ⊥) → IsDrivenAlike g (edited g edit) a
unchanged_alike g (Set profile pieces) a not_changed = other_profile g profile pieces a (slice_get g.arcs a) refl (λ arc at is. not_changed (arc, at, is))
unchanged_alike g (Assign b profile) a not_changed =
    let h = edited g (Assign b profile) in
    let same : slice_get h.arcs a ≡ slice_get g.arcs a = other_road g b profile a (slice_get g.arcs b) (λ is. not_changed (sym is)) in record {
      value = λ t. ap (λ (o : Option RoadArc). value_by g o t) same;
      closed = ap (is_closed_by g) same;
    }

pub ranks_edited : (g : NetworkValue) (o : OrderValue) (edit : Edit) (a x y : ℕ) → LinksRanks g o a x y → LinksRanks (edited g edit) o a x y
ranks_edited g o edit a x y (u, v, links, from, to) = (u, v, links_edited g edit a u v links, from, to)

pub ranks_kept : (g : NetworkValue) (o : OrderValue) (edit : Edit) (a x y : ℕ) → LinksRanks (edited g edit) o a x y → LinksRanks g o a x y
ranks_kept g o edit a x y (u, v, links, from, to) = (u, v, links_kept g edit a u v links, from, to)

-- a road that may be driven joins its ranks, and one that joins them may be driven where it isn't closed
pub leads_joins : (g : NetworkValue) (o : OrderValue) (a x y : ℕ) → LeadsRanks g o a x y → LinksRanks g o a x y × (is_closed_arc g a ≡ false)
leads_joins g o a x y (u, v, (links, open_now), from, to) = ((u, v, links, from, to), open_now)

pub joins_leads : (g : NetworkValue) (o : OrderValue) (a x y : ℕ) → LinksRanks g o a x y → is_closed_arc g a ≡ false → LeadsRanks g o a x y
joins_leads g o a x y (u, v, links, from, to) open_now = (u, v, (links, open_now), from, to)

-- so an unchanged road leads where it led
pub leads_still : (g : NetworkValue) (o : OrderValue) (edit : Edit) (a x y : ℕ) → (IsChanged g edit a → ⊥) → LeadsRanks g o a x y → LeadsRanks (edited g edit) o a x y
leads_still g o edit a x y not_changed leads =
    let (joins, open_now) = leads_joins g o a x y leads in
    joins_leads (edited g edit) o a x y (ranks_edited g o edit a x y joins) ((unchanged_alike g edit a not_changed).closed ∙ open_now)
