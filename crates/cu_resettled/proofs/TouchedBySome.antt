-- What some of several edits touches: rising pairs, closed over lower triangles, and outside of them no road is changed.
use Rattle.std.proofs.Common.{◌≡◌, ◌<◌, ◌∙◌, ◌⊎◌, ◌++◌, ℕ, List, [], ◌∷◌, refl, inl, inr}
use Rattle.std.specs.Prelude.{◌↔◌}
use Rattle.cu_model.specs.declared.roads.Edit.{Edit}
use Rattle.cu_model.specs.Edits.{edited}
use Rattle.cu_model.specs.Networks.{NetworkValue}
use Rattle.cu_model.specs.Orders.{OrderValue}
use Rattle.cu_model.specs.Roads.{Links}
use Rattle.cu_chordal.specs.Edges.{IsEdge, LinksRanks}
use Rattle.cu_chordal.proofs.Decided.{Decided, either_decided}
use Rattle.cu_interval.specs.Low.{LeadsRanks}
use Rattle.cu_interval.specs.Resettling.{IsResettled}
use Rattle.cu_resettled.specs.ResettlingAll.{IsChangedBySome, IsResettledAll, IsTouchedBySome, IsTouchedEdgeBySome, NumbersTouchedBySome, edited_all}
use Rattle.cu_interval.specs.Hierarchies.{HierarchyValue}
use Rattle.cu_interval.specs.Touching.{IsChanged, IsTouched, IsTouchedEdge, NumbersTouched, by_first, by_road, by_second}
use Rattle.cu_resettled.proofs.ResettledDecided.{touched_decided, touched_rises}
use Rattle.cu_resettled.proofs.ResettledRoads.{IsSameRoad, same_road, same_then, unchanged_same}
use Rattle.cu_resettled.proofs.Unchanged.{IsDrivenAlike, joins_leads, leads_joins, unchanged_alike}
use Rattle.cu_resettled.proofs.Unmoved.{edge, links_edited, links_kept, ranks_linked}

-- pairs of ranks x below y, decided and closed over lower triangles, between whose ranks alone two networks have different roads
pub record Covers (g h : NetworkValue) (o : OrderValue) (IsIn : ℕ → ℕ → Type 0) : Type 0 where
  pub rises : (x y : ℕ) → IsIn x y → x < y
  pub roads : (a x y : ℕ) → LinksRanks g o a x y ⊎ LinksRanks g o a y x → x < y → (IsIn x y → ⊥) → IsSameRoad g h a
  pub first : (m x y : ℕ) → IsIn m x → m < x → x < y → IsEdge g o m x → IsEdge g o m y → IsIn x y
  pub second : (m x y : ℕ) → IsIn m y → m < x → x < y → IsEdge g o m x → IsEdge g o m y → IsIn x y
  pub decided : (x y : ℕ) → Decided (IsIn x y)

covers_none : (g : NetworkValue) (o : OrderValue) → Covers g g o (λ x y. ⊥)
covers_none g o = record {
  rises = λ x y none. absurd none;
  roads = λ a x y links lt off. same_road g a;
  first = λ m x y none low lt one two. none;
  second = λ m x y none low lt one two. none;
  decided = λ x y. inr (λ none. none);
}

covers_one : (g : NetworkValue) (o : OrderValue) (edit : Edit) → Covers g (edited g edit) o (IsTouched g o edit)
covers_one g o edit = record {
  rises = touched_rises g o edit;
  roads = λ a x y links lt off. unchanged_same g edit a (λ changed. off (by_road a x y changed links lt));
  first = λ m x y touched low lt one two. by_first m x y touched low lt one two;
  second = λ m x y touched low lt one two. by_second m x y touched low lt one two;
  decided = touched_decided g o edit;
}

links_over : (g h : NetworkValue) (o : OrderValue) → ((a u v : ℕ) → Links g a u v → Links h a u v) → (a x y : ℕ)
    → LinksRanks g o a x y ⊎ LinksRanks g o a y x → LinksRanks h o a x y ⊎ LinksRanks h o a y x
links_over g h o same a x y (inl links) = inl (ranks_linked g h o same a x y links)
links_over g h o same a x y (inr links) = inr (ranks_linked g h o same a y x links)

to_left : (P Q R S : Type 0) → (Q → R ⊎ S) → P ⊎ Q → (P ⊎ R) ⊎ S
to_left P Q R S f (inl p) = inl (inl p)
to_left P Q R S f (inr q) = elim (f q) [ inl r ↦ inl (inr r) | inr s ↦ inr s ]

to_right : (P Q R S : Type 0) → (R ⊎ S → Q) → (P ⊎ R) ⊎ S → P ⊎ Q
to_right P Q R S f (inl (inl p)) = inl p
to_right P Q R S f (inl (inr r)) = inr (f (inl r))
to_right P Q R S f (inr s) = inr (f (inr s))

-- the pairs of one change, and of the next
module _ (g h k : NetworkValue) (o : OrderValue) (Fst Snd : ℕ → ℕ → Type 0) (same : (a u v : ℕ) → Links g a u v → Links h a u v)
    (one : Covers g h o Fst) (two : Covers h k o Snd) where
  either_rises : (x y : ℕ) → Fst x y ⊎ Snd x y → x < y
  either_rises x y (inl is) = one.rises x y is
  either_rises x y (inr is) = two.rises x y is

  either_first : (m x y : ℕ) → Fst m x ⊎ Snd m x → m < x → x < y → IsEdge g o m x → IsEdge g o m y → Fst x y ⊎ Snd x y
  either_first m x y (inl is) low lt p q = inl (one.first m x y is low lt p q)
  either_first m x y (inr is) low lt p q = inr (two.first m x y is low lt (edge g h o same m x p) (edge g h o same m y q))

  either_second : (m x y : ℕ) → Fst m y ⊎ Snd m y → m < x → x < y → IsEdge g o m x → IsEdge g o m y → Fst x y ⊎ Snd x y
  either_second m x y (inl is) low lt p q = inl (one.second m x y is low lt p q)
  either_second m x y (inr is) low lt p q = inr (two.second m x y is low lt (edge g h o same m x p) (edge g h o same m y q))

  covers_both : Covers g k o (λ x y. Fst x y ⊎ Snd x y)
  covers_both = record {
    rises = either_rises;
    roads = λ a x y links lt off. same_then g h k a (one.roads a x y links lt (λ is. off (inl is))) (two.roads a x y (links_over g h o same a x y links) lt (λ is. off (inr is)));
    first = either_first;
    second = either_second;
    decided = λ x y. either_decided _ _ (one.decided x y) (two.decided x y);
  }

-- edits made in turn
pub covered : (g : NetworkValue) (o : OrderValue) (edits : List Edit) → Covers g (edited_all g edits) o (IsTouchedBySome g o edits)
covered g o [] = covers_none g o
covered g o (edit ∷ edits) =
    covers_both g (edited g edit) (edited_all (edited g edit) edits) o (IsTouched g o edit) (IsTouchedBySome (edited g edit) o edits)
    (links_edited g edit) (covers_one g o edit) (covered (edited g edit) o edits)

pub all_links_kept : (g : NetworkValue) (edits : List Edit) (a u v : ℕ) → Links (edited_all g edits) a u v → Links g a u v
all_links_kept g [] a u v links = links
all_links_kept g (edit ∷ edits) a u v links = links_kept g edit a u v (all_links_kept (edited g edit) edits a u v links)

pub all_links_edited : (g : NetworkValue) (edits : List Edit) (a u v : ℕ) → Links g a u v → Links (edited_all g edits) a u v
all_links_edited g [] a u v links = links
all_links_edited g (edit ∷ edits) a u v links = all_links_edited (edited g edit) edits a u v (links_edited g edit a u v links)

-- a road that none of the edits changes is the same
pub unchanged_by_some : (g : NetworkValue) (edits : List Edit) (a : ℕ) → (IsChangedBySome g edits a → ⊥) → IsSameRoad g (edited_all g edits) a
unchanged_by_some g [] a off = same_road g a
unchanged_by_some g (edit ∷ edits) a off =
    same_then g (edited g edit) (edited_all (edited g edit) edits) a (unchanged_same g edit a (λ changed. off (inl changed)))
    (unchanged_by_some (edited g edit) edits a (λ changed. off (inr changed)))

-- and one that some edit changes touches its ranks
pub changed_by_some : (g : NetworkValue) (o : OrderValue) (edits : List Edit) (a x y : ℕ) → IsChangedBySome g edits a
    → LinksRanks g o a x y ⊎ LinksRanks g o a y x → x < y → IsTouchedBySome g o edits x y
changed_by_some g o [] a x y changed links lt = changed
changed_by_some g o (edit ∷ edits) a x y (inl changed) links lt = inl (by_road a x y changed links lt)
changed_by_some g o (edit ∷ edits) a x y (inr changed) links lt =
    inr (changed_by_some (edited g edit) o edits a x y changed (links_over g (edited g edit) o (links_edited g edit) a x y links) lt)

-- so is how it is driven, and where it leads
pub all_alike : (g : NetworkValue) (edits : List Edit) (a : ℕ) → (IsChangedBySome g edits a → ⊥) → IsDrivenAlike g (edited_all g edits) a
all_alike g [] a off = record { value = λ t. refl; closed = refl }
all_alike g (edit ∷ edits) a off =
    let one = unchanged_alike g edit a (λ changed. off (inl changed)) in
    let rest = all_alike (edited g edit) edits a (λ changed. off (inr changed)) in
    record { value = λ t. rest.value t ∙ one.value t; closed = rest.closed ∙ one.closed }

pub all_ranks_edited : (g : NetworkValue) (o : OrderValue) (edits : List Edit) (a x y : ℕ) → LinksRanks g o a x y → LinksRanks (edited_all g edits) o a x y
all_ranks_edited g o edits a x y (u, v, links, from, to) = (u, v, all_links_edited g edits a u v links, from, to)

pub all_ranks_kept : (g : NetworkValue) (o : OrderValue) (edits : List Edit) (a x y : ℕ) → LinksRanks (edited_all g edits) o a x y → LinksRanks g o a x y
all_ranks_kept g o edits a x y (u, v, links, from, to) = (u, v, all_links_kept g edits a u v links, from, to)

pub all_leads_still : (g : NetworkValue) (o : OrderValue) (edits : List Edit) (a x y : ℕ) → (IsChangedBySome g edits a → ⊥) → LeadsRanks g o a x y
    → LeadsRanks (edited_all g edits) o a x y
all_leads_still g o edits a x y off leads =
    let (joins, open_now) = leads_joins g o a x y leads in
    joins_leads (edited_all g edits) o a x y (all_ranks_edited g o edits a x y joins) ((all_alike g edits a off).closed ∙ open_now)

-- an edit more, behind the others
pub edited_more : (g : NetworkValue) (edits : List Edit) (edit : Edit) → edited_all g (edits ++ edit ∷ []) ≡ edited (edited_all g edits) edit
edited_more g [] edit = refl
edited_more g (first ∷ edits) edit = edited_more (edited g first) edits edit

pub changed_more : (g : NetworkValue) (edits : List Edit) (edit : Edit) (a : ℕ)
    → IsChangedBySome g (edits ++ edit ∷ []) a ↔ (IsChangedBySome g edits a ⊎ IsChanged (edited_all g edits) edit a)
changed_more g [] edit a = (one_more, one_less)
  where
    one_more : IsChanged g edit a ⊎ ⊥ → ⊥ ⊎ IsChanged g edit a
    one_more (inl changed) = inr changed
    one_more (inr none) = inl none

    one_less : ⊥ ⊎ IsChanged g edit a → IsChanged g edit a ⊎ ⊥
    one_less (inl none) = inr none
    one_less (inr changed) = inl changed
changed_more g (first ∷ edits) edit a =
    let rest = changed_more (edited g first) edits edit a in
    (to_left _ _ _ _ rest.0, to_right _ _ _ _ rest.1)

pub touched_more : (g : NetworkValue) (o : OrderValue) (edits : List Edit) (edit : Edit) (x y : ℕ)
    → IsTouchedBySome g o (edits ++ edit ∷ []) x y ↔ (IsTouchedBySome g o edits x y ⊎ IsTouched (edited_all g edits) o edit x y)
touched_more g o [] edit x y = (one_more, one_less)
  where
    one_more : IsTouched g o edit x y ⊎ ⊥ → ⊥ ⊎ IsTouched g o edit x y
    one_more (inl touched) = inr touched
    one_more (inr none) = inl none

    one_less : ⊥ ⊎ IsTouched g o edit x y → IsTouched g o edit x y ⊎ ⊥
    one_less (inl none) = inr none
    one_less (inr touched) = inl touched
touched_more g o (first ∷ edits) edit x y =
    let rest = touched_more (edited g first) o edits edit x y in
    (to_left _ _ _ _ rest.0, to_right _ _ _ _ rest.1)

-- one edit is a list of one
pub one_touched : (h : HierarchyValue) (edit : Edit) (number : ℕ) → IsTouchedEdge h edit number → IsTouchedEdgeBySome h (edit ∷ []) number
one_touched h edit number (ends, at, touched) = (ends, at, inl touched)

touched_alone : (h : HierarchyValue) (edit : Edit) (number : ℕ) → IsTouchedEdgeBySome h (edit ∷ []) number → IsTouchedEdge h edit number
touched_alone h edit number (ends, at, inl touched) = (ends, at, touched)
touched_alone h edit number (ends, at, inr none) = absurd none

pub numbers_of_one : (h : HierarchyValue) (edit : Edit) (numbers : List ℕ) → NumbersTouched h edit numbers ↔ NumbersTouchedBySome h (edit ∷ []) numbers
numbers_of_one h edit numbers = (
  λ one. record {
    rising = one.rising;
    exact = λ edge. ((λ among. one_touched h edit edge ((one.exact edge).0 among)), (λ touched. (one.exact edge).1 (touched_alone h edit edge touched)));
  },
  λ all. record {
    rising = all.rising;
    exact = λ edge. ((λ among. touched_alone h edit edge ((all.exact edge).0 among)), (λ touched. (all.exact edge).1 (one_touched h edit edge touched)));
  },
)

pub all_of_one : (old new : HierarchyValue) (edit : Edit) → IsResettled old edit new → IsResettledAll old (edit ∷ []) new
all_of_one old new edit settled = record {
  network = settled.network;
  order = settled.order;
  edges = settled.edges;
  lists = settled.lists;
  kept = λ number dir off. settled.kept number dir (λ touched. off (one_touched old edit number touched));
  resettled = λ number dir ends at touched. settled.resettled number dir ends at (touched_alone old edit number touched);
}

pub one_of_all : (old new : HierarchyValue) (edit : Edit) → IsResettledAll old (edit ∷ []) new → IsResettled old edit new
one_of_all old new edit settled = record {
  network = settled.network;
  order = settled.order;
  edges = settled.edges;
  lists = settled.lists;
  kept = λ number dir off. settled.kept number dir (λ touched. off (touched_alone old edit number touched));
  resettled = λ number dir ends at touched. settled.resettled number dir ends at (one_touched old edit number touched);
}
