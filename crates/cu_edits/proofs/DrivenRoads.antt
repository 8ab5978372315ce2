-- The roads of each profile, and those that have one behind some edits.
use Rattle.std.proofs.Common.{◌≡◌, ◌<◌, ◌+◌, ◌∙◌, ◌⊎◌, ℕ, zero, suc, List, [], ◌∷◌, ◌++◌, Some, refl, ap, sym, subst, arith, inl, inr, length, get_or}
use Rattle.std.specs.Prelude.{◌↔◌, All, slice_get, slice_set}
use Rattle.std.specs.List.{Contains}
use Rattle.std.proofs.lemmas.Bool.{cases_eq}
use Rattle.std.proofs.lemmas.List.{get_or_append_left, get_or_default, get_or_push, length-set, length_push}
use Rattle.std.proofs.lemmas.List.Elements.{All-nil, All-push, Contains-append_left, Contains-get_or, Contains-push, Contains-push_cases}
use Rattle.std.proofs.lemmas.Option.{same_Some, slice_get_within}
use Rattle.cu_model.specs.declared.profiles.Piece.{Piece}
use Rattle.cu_model.specs.declared.roads.Edit.{Edit}
use Rattle.cu_model.specs.declared.roads.Edit.TheVariants.{Set, Assign}
use Rattle.cu_model.specs.declared.roads.RoadArc.{RoadArc}
use Rattle.cu_model.specs.Networks.{IsArcInRange, IsNetwork, NetworkValue}
use Rattle.cu_model.proofs.RoadLaws.{all_at}
use Rattle.cu_model.proofs.ListLaws.{get_other, item_there}
use Rattle.cu_chordal.specs.Groups.{AreGroups, group_of}
use Rattle.cu_chordal.proofs.Linked.{group_member, in_group}
use Rattle.cu_chordal.proofs.Members.{all_from_members, none_in_nil}
use Rattle.cu_resettled.specs.ResettlingAll.{edited_all}
use Rattle.cu_edits.specs.EditLists.{AreByProfile, EditListValue, FitsNetwork, HasProfile, IsAssigned}
use Rattle.cu_edits.specs.Steps.Adding.{AreFirstProfiles, AreMoved, assigned_by}
use Rattle.cu_edits.specs.Steps.Found.{AddsDriven}
use Rattle.cu_edits.proofs.EditedLists.{arcs_all}
use Rattle.cu_edits.proofs.ListLaws.{either}

-- the first roads
pub profiles_none : (g : NetworkValue) → AreFirstProfiles g 0 [] []
profiles_none g = record {
  long = refl;
  as_many = refl;
  each = λ i road lt. absurd (omega (arith, lt));
  own = λ i lt. absurd (omega (arith, lt));
  within = All-nil (λ profile. profile < length g.profiles);
}

-- and one more
pub profiles_more : (g : NetworkValue) → IsNetwork g → (count : ℕ) (profiles arcs : List ℕ) (road : RoadArc) → slice_get g.arcs count ≡ Some road
    → AreFirstProfiles g count profiles arcs → AreFirstProfiles g (count + 1) (profiles ++ road.profile ∷ []) (arcs ++ count ∷ [])
profiles_more g sound count profiles arcs road at first = record {
  long = let long = length_push profiles road.profile in let before = first.long in omega (arith, long, before);
  as_many = let long = length_push arcs count in let before = first.as_many in omega (arith, long, before);
  each = λ i own lt there. elim (cases_eq i count) [
    | inl same ↦
        let is : road ≡ own = same_Some road own (sym at ∙ subst (λ (k : ℕ). slice_get g.arcs k ≡ Some own) same there) in
        subst (λ (k : ℕ). get_or (profiles ++ road.profile ∷ []) k 0 ≡ own.profile) (first.long ∙ sym same) (get_or_push profiles road.profile 0 (length profiles) refl ∙ ap (λ (r : RoadArc). r.profile) is)
    | inr other ↦
        let before = first.long in
        get_or_append_left profiles (road.profile ∷ []) 0 i (omega (arith, lt, other, before)) ∙ first.each i own (omega (arith, lt, other)) there
  ];
  own = λ i lt. elim (cases_eq i count) [
    | inl same ↦ subst (λ (k : ℕ). get_or (arcs ++ count ∷ []) k 0 ≡ i) (first.as_many ∙ sym same) (get_or_push arcs count 0 (length arcs) refl ∙ sym same)
    | inr other ↦
        let before = first.as_many in
        get_or_append_left arcs (count ∷ []) 0 i (omega (arith, lt, other, before)) ∙ first.own i (omega (arith, lt, other))
  ];
  within = All-push (λ profile. profile < length g.profiles) profiles road.profile first.within (all_at (IsArcInRange g) g.arcs count road sound.in_range at).2;
}

-- grouped by profile
pub grouped : (g : NetworkValue) (profiles arcs : List ℕ) (groups : List (List ℕ)) → AreFirstProfiles g (length g.arcs) profiles arcs
    → AreGroups profiles arcs (length g.profiles) groups → AreByProfile g groups
grouped g profiles arcs groups first are = record {
  long = are.long;
  each = λ profile some at arc.
      let inside = slice_get_within groups profile some at in
      let count = are.long in
      let same : some ≡ group_of profiles arcs profile = same_Some some (group_of profiles arcs profile) (sym at ∙ are.each profile (omega (arith, inside, count))) in (
        (λ c.
            let (i, in_profiles, in_arcs, key, value) = group_member profiles arcs profile arc (subst (λ (xs : List ℕ). Contains xs arc) same c) in
            let long = first.long in
            let lt : i < length g.arcs = omega (arith, in_profiles, long) in
            let (road, there) = item_there g.arcs i lt in
            let is : i ≡ arc = sym (first.own i lt) ∙ value in
            subst (HasProfile g profile) is (road, there, sym (first.each i road lt there) ∙ key)),
        λ own.
            let (road, there, is) = own in
            let lt = slice_get_within g.arcs arc road there in
            let long = first.long in
            let numbers = first.as_many in
            subst (λ (xs : List ℕ). Contains xs arc) (sym same)
            (in_group profiles arcs profile arc arc (omega (arith, lt, long)) (omega (arith, lt, numbers)) (first.each arc road lt there ∙ is) (first.own arc lt)),
      );
}

-- no road was assigned a profile yet
pub moved_none : (assigned : List ℕ) → ((arc n : ℕ) → slice_get assigned arc ≡ Some n → n ≡ 0) → AreMoved assigned []
moved_none assigned zeros = record {
  each = λ arc profile at. let none = zeros arc (suc profile) at in absurd (omega (arith, none));
  within = All-nil (λ arc. arc < length assigned);
}

-- a road is assigned a profile, and is noted
assigned_one : (assigned now : List ℕ) (arc profile : ℕ) → All (λ k. k < length assigned) now → Contains now arc
    → ((k own : ℕ) → slice_get assigned k ≡ Some (suc own) → Contains now k) → AreMoved (slice_set assigned arc (profile + 1)) now
assigned_one assigned now arc profile within noted before = record {
  each = λ k own at. elim (cases_eq arc k) [
    | inl same ↦ subst (Contains now) same noted
    | inr other ↦ before k own (sym (get_other assigned arc k (profile + 1) other) ∙ at)
  ];
  within = subst (λ (n : ℕ). All (λ k. k < n) now) (sym (length-set assigned arc (profile + 1))) within;
}

-- a road that was assigned one before is noted
pub noted_before : (assigned moved : List ℕ) (arc n : ℕ) → AreMoved assigned moved → slice_get assigned arc ≡ Some n → (n ≡ 0 → ⊥) → Contains moved arc
noted_before assigned moved arc zero are at some = absurd (some refl)
noted_before assigned moved arc (suc profile) are at some = are.each arc profile at

-- an edit that assigns none, one that assigns a road that was noted, and one that assigns another
pub moved_set : (assigned moved : List ℕ) (edit : Edit) (profile : ℕ) (pieces : List Piece) → edit ≡ Set profile pieces → AreMoved assigned moved → AreMoved (assigned_by assigned edit) moved
moved_set assigned moved edit profile pieces is are = subst (λ (e : Edit). AreMoved (assigned_by assigned e) moved) (sym is) are

pub moved_again : (assigned moved : List ℕ) (edit : Edit) (arc profile n : ℕ) → edit ≡ Assign arc profile → AreMoved assigned moved → slice_get assigned arc ≡ Some n → (n ≡ 0 → ⊥)
    → AreMoved (assigned_by assigned edit) moved
moved_again assigned moved edit arc profile n is are at some =
    subst (λ (e : Edit). AreMoved (assigned_by assigned e) moved) (sym is)
    (assigned_one assigned moved arc profile are.within (noted_before assigned moved arc n are at some) are.each)

pub moved_more : (assigned moved : List ℕ) (edit : Edit) (arc profile : ℕ) → edit ≡ Assign arc profile → arc < length assigned → AreMoved assigned moved
    → AreMoved (assigned_by assigned edit) (moved ++ arc ∷ [])
moved_more assigned moved edit arc profile is inside are =
    subst (λ (e : Edit). AreMoved (assigned_by assigned e) (moved ++ arc ∷ [])) (sym is)
    (assigned_one assigned (moved ++ arc ∷ []) arc profile (All-push (λ arc. arc < length assigned) moved arc are.within inside) (Contains-push moved arc)
    (λ k own at. Contains-append_left moved (arc ∷ []) k (are.each k own at)))

-- where memory runs out as well
pub moved_stays : (assigned moved : List ℕ) (arc : ℕ) → arc < length assigned → AreMoved assigned moved → AreMoved assigned (moved ++ arc ∷ [])
moved_stays assigned moved arc inside are = record {
  each = λ k own at. Contains-append_left moved (arc ∷ []) k (are.each k own at);
  within = All-push (λ k. k < length assigned) moved arc are.within inside;
}

-- of some roads those with a profile were added, one after the other
abbrev pub AddsFirst : NetworkValue → ℕ → List ℕ → ℕ → List ℕ → List ℕ → Type 0
AddsFirst g profile some count old now = (arc : ℕ) → Contains now arc ↔ (Contains old arc ⊎ ((i : ℕ) × (i < count) × (get_or some i 0 ≡ arc) × HasProfile g profile arc))

pub adds_first_none : (g : NetworkValue) (profile : ℕ) (some old : List ℕ) → AddsFirst g profile some 0 old old
adds_first_none g profile some old arc = ((λ c. inl c), λ e. either e (λ c. c) (λ t. absurd (omega (arith, t.1))))

pub adds_first_one : (g : NetworkValue) (profile count : ℕ) (some old now : List ℕ) (road : RoadArc) → slice_get g.arcs (get_or some count 0) ≡ Some road → road.profile ≡ profile
    → AddsFirst g profile some count old now → AddsFirst g profile some (count + 1) old (now ++ get_or some count 0 ∷ [])
adds_first_one g profile count some old now road at has first arc =
    let own = get_or some count 0 in (
      (λ c. elim (Contains-push_cases now own arc c) [
        | inl before ↦ either ((first arc).0 before) (λ o. inl o) (λ t. inr (t.0, omega (arith, t.1), t.2, t.3))
        | inr same ↦ inr (count, omega arith, same, subst (HasProfile g profile) same (road, at, has))
      ]),
      λ e. either e (λ o. Contains-append_left now (own ∷ []) arc ((first arc).1 (inl o))) (λ t. elim (cases_eq t.0 count) [
        | inl same ↦ subst (Contains (now ++ own ∷ [])) (subst (λ (k : ℕ). get_or some k 0 ≡ arc) same t.2) (Contains-push now own)
        | inr other ↦ Contains-append_left now (own ∷ []) arc ((first arc).1 (inr (t.0, omega (arith, t.1, other), t.2, t.3)))
      ]),
    )

pub adds_first_other : (g : NetworkValue) (profile count : ℕ) (some old now : List ℕ) (road : RoadArc) → slice_get g.arcs (get_or some count 0) ≡ Some road → (road.profile ≡ profile → ⊥)
    → AddsFirst g profile some count old now → AddsFirst g profile some (count + 1) old now
adds_first_other g profile count some old now road at other first arc = (
  (λ c. either ((first arc).0 c) (λ o. inl o) (λ t. inr (t.0, omega (arith, t.1), t.2, t.3))),
  λ e. either e (λ o. (first arc).1 (inl o)) (λ t. elim (cases_eq t.0 count) [
    | inl same ↦
        let (has, there, is) = t.3 in
        let key : get_or some count 0 ≡ arc = subst (λ (k : ℕ). get_or some k 0 ≡ arc) same t.2 in
        let own : slice_get g.arcs (get_or some count 0) ≡ Some has = subst (λ (k : ℕ). slice_get g.arcs k ≡ Some has) (sym key) there in
        absurd (other (ap (λ (r : RoadArc). r.profile) (same_Some road has (sym at ∙ own)) ∙ is))
    | inr ne ↦ (first arc).1 (inr (t.0, omega (arith, t.1, ne), t.2, t.3))
  ]),
)

pub adds_first_all : (g : NetworkValue) (profile count : ℕ) (some old now : List ℕ) → count ≡ length some → AddsFirst g profile some count old now → AddsDriven g profile some old now
adds_first_all g profile count some old now all first arc = (
  (λ c. either ((first arc).0 c) (λ o. inl o) (λ t. inr (subst (Contains some) t.2 (Contains-get_or some t.0 0 (omega (arith, t.1, all))), t.3))),
  λ e. either e (λ o. (first arc).1 (inl o)) (λ b.
      let ((i, inside, read), own) = b in
      (first arc).1 (inr (i, omega (arith, inside, all), sym (get_or_default some i arc 0 inside) ∙ read, own))),
)

-- the roads that have a profile behind edits are among those that had it and those that were assigned one
pub driven_behind : (g : NetworkValue) (list : EditListValue) (moved before first all : List ℕ) (profile : ℕ) → FitsNetwork g list → AreMoved list.assigned moved
    → slice_get list.roads profile ≡ Some before → first ≡ [] → (mid : List ℕ) → AddsDriven (edited_all g list.edits) profile before first mid
    → AddsDriven (edited_all g list.edits) profile moved mid all → (arc : ℕ) → Contains all arc ↔ HasProfile (edited_all g list.edits) profile arc
driven_behind g list moved before first all profile fits are at empty mid one two arc = (there, back)
  where
    now : NetworkValue
    now = edited_all g list.edits

    there : Contains all arc → HasProfile now profile arc
    there c =
        either ((two arc).0 c)
        (λ m. either ((one arc).0 m) (λ o. absurd (none_in_nil arc (subst (λ (xs : List ℕ). Contains xs arc) empty o))) (λ b. b.1)) (λ b. b.1)

    by_number : (n : ℕ) → slice_get list.assigned arc ≡ Some n → IsAssigned g now arc n → HasProfile now profile arc → Contains all arc
    by_number zero at_arc is own =
        let (road, there, has) = own in
        (two arc).1 (inl ((one arc).1 (inr ((fits.roads.each profile before at arc).1 (road, sym is ∙ there, has), own))))
    by_number (suc n) at_arc is own = (two arc).1 (inr (are.each arc n at_arc, own))

    back : HasProfile now profile arc → Contains all arc
    back own =
        let (road, there, has) = own in
        let inside = slice_get_within now.arcs arc road there in
        let count = arcs_all g list.edits in
        let long = fits.arcs in
        let (n, at_arc) = item_there list.assigned arc (omega (arith, inside, count, long)) in
        by_number n at_arc (fits.assigns arc n at_arc) own

-- those that had it are in range
pub driven_within : (g : NetworkValue) (roads : List (List ℕ)) (profile : ℕ) (some : List ℕ) → AreByProfile g roads → slice_get roads profile ≡ Some some → All (λ arc. arc < length g.arcs) some
driven_within g roads profile some are at =
    all_from_members (λ arc. arc < length g.arcs) some (λ arc c. let (road, there, is) = (are.each profile some at arc).0 c in slice_get_within g.arcs arc road there)
