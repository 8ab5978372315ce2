-- A list of edits: none at first, what it says of a road and of a profile, and its touched edges in turn.
use Rattle.std.proofs.Common.{◌≡◌, ◌≤◌, ◌<◌, ◌+◌, ◌∙◌, ◌⊎◌, ℕ, zero, suc, Bool, true, false, List, [], ◌∷◌, ◌++◌, Option, Some, None, refl, ap, sym, subst, arith, inl, inr, length}
use Rattle.std.specs.Prelude.{◌↔◌, IsTrue, replicate, slice_get}
use Rattle.std.specs.Borrow.{Bor}
use Rattle.std.specs.List.{AllPairs, Contains}
use Rattle.std.proofs.lemmas.Bool.{cases_eq, cases_lt}
use Rattle.std.proofs.lemmas.List.{length-replicate}
use Rattle.std.proofs.lemmas.List.Elements.{All-replicate, Contains-append_left, Contains-push, Contains-push_cases}
use Rattle.std.proofs.lemmas.Option.{same_Some, slice_get_past, slice_get_within}
use Rattle.cu_model.specs.declared.profiles.Piece.{Piece}
use Rattle.cu_model.specs.declared.roads.Edit.{Edit}
use Rattle.cu_model.specs.declared.roads.Edit.TheVariants.{Set, Assign}
use Rattle.cu_model.specs.declared.roads.RoadArc.{RoadArc}
use Rattle.cu_model.specs.Networks.{NetworkValue}
use Rattle.cu_model.proofs.ListLaws.{item_there}
use Rattle.cu_model.proofs.RoadLaws.{all_at}
use Rattle.cu_chordal.proofs.Members.{member_cases, none_in_nil, pairs_append}
use Rattle.cu_chordal.proofs.Tables.{increasing_from_pairs}
use Rattle.cu_interval.specs.Hierarchies.{HierarchyValue}
use Rattle.cu_resettled.specs.ResettlingAll.{NumbersTouchedBySome, edited_all}
use Rattle.cu_edits.specs.EditLists.{AreByProfile, EditListValue, FitsList, FitsNetwork, IsAssigned, IsGiven}
use Rattle.cu_edits.specs.Steps.Adding.{SetsPieces}
use Rattle.cu_edits.specs.Together.{GiveProfile}
use Rattle.cu_edits.proofs.EditedLists.{profiles_all}

-- no edits
assigned_none : (g : NetworkValue) (arc n : ℕ) → n ≡ 0 → IsAssigned g g arc n
assigned_none g arc zero none = refl
assigned_none g arc (suc n) none = absurd (omega (arith, none))

given_none : (g : NetworkValue) (profile n : ℕ) → n ≡ 0 → IsGiven g [] g profile n
given_none g profile zero none = refl
given_none g profile (suc n) none = absurd (omega (arith, none))

pub all_zero : (count k n : ℕ) → slice_get (replicate count 0) k ≡ Some n → n ≡ 0
all_zero count k n at = all_at (λ (x : ℕ). x ≡ 0) (replicate count 0) k n (All-replicate (λ (x : ℕ). x ≡ 0) count 0 refl) at

unmarked : (count k : ℕ) (mark : Bool) (P : Type 0) → (P → ⊥) → slice_get (replicate count false) k ≡ Some mark → IsTrue mark ↔ P
unmarked count k mark P none at =
    let is : mark ≡ false = all_at (λ (x : Bool). x ≡ false) (replicate count false) k mark (All-replicate (λ (x : Bool). x ≡ false) count false refl) at in
    ((λ t. absurd (cc (is, t))), λ p. absurd (none p))

pub fits_none : (h : HierarchyValue) (list : EditListValue) → list.edits ≡ [] → list.assigned ≡ replicate (length h.network.arcs) 0
    → list.given ≡ replicate (length h.network.profiles) 0 → list.changed ≡ replicate (length h.network.arcs) false → list.touched ≡ replicate (length h.edges) false
    → AreByProfile h.network list.roads → FitsList h list
fits_none h list edits assigned given changed touched roads =
    let g = h.network in
    let empty : EditListValue = record {
      edits = [];
      assigned = replicate (length g.arcs) 0;
      given = replicate (length g.profiles) 0;
      changed = replicate (length g.arcs) false;
      touched = replicate (length h.edges) false;
      roads = list.roads;
    } in
    let one = ap (λ (xs : List Edit). record empty { edits = xs }) (sym edits) in
    let two = ap (λ (xs : List ℕ). record list { given = replicate (length g.profiles) 0; changed = replicate (length g.arcs) false; touched = replicate (length h.edges) false; assigned = xs }) (sym assigned) in
    let three = ap (λ (xs : List ℕ). record list { changed = replicate (length g.arcs) false; touched = replicate (length h.edges) false; given = xs }) (sym given) in
    let four = ap (λ (xs : List Bool). record list { touched = replicate (length h.edges) false; changed = xs }) (sym changed) in
    let five = ap (λ (xs : List Bool). record list { touched = xs }) (sym touched) in
    let same : empty ≡ list = one ∙ two ∙ three ∙ four ∙ five in
    subst (FitsList h) same (record {
      network = record {
        range = tt;
        sets = tt;
        arcs = length-replicate (length g.arcs) 0;
        assigns = λ arc n at. assigned_none g arc n (all_zero (length g.arcs) arc n at);
        profiles = length-replicate (length g.profiles) 0;
        gives = λ profile n at. given_none g profile n (all_zero (length g.profiles) profile n at);
        marks = length-replicate (length g.arcs) false;
        changes = λ arc mark at. unmarked (length g.arcs) arc mark ⊥ (λ none. none) at;
        roads = roads;
      };
      edges = length-replicate (length h.edges) false;
      touches = λ edge mark at. unmarked (length h.edges) edge mark _ (λ none. absurd none.2) at;
    })

-- a road has the profile that it was assigned last
module _ (g : NetworkValue) (list : EditListValue) (fits : FitsNetwork g list) (arc : ℕ) (road : RoadArc) (at : slice_get g.arcs arc ≡ Some road) where
  number_there : (n : ℕ) → (arc < length list.assigned → slice_get list.assigned arc ≡ Some n) → slice_get list.assigned arc ≡ Some n
  number_there n there =
      let inside = slice_get_within g.arcs arc road at in
      let long = fits.arcs in
      there (omega (arith, inside, long))

  road_by : (n profile : ℕ) → IsAssigned g (edited_all g list.edits) arc n → n ≡ suc profile
      → slice_get (edited_all g list.edits).arcs arc ≡ Some (record road { profile = profile })
  road_by zero profile is some = absurd (omega (arith, some))
  road_by (suc own) profile (same, there, has) some =
      let number : own ≡ profile = omega (arith, some) in
      has ∙ ap (λ (r : RoadArc). Some (record r { profile = own })) (same_Some same road (sym there ∙ at)) ∙ ap (λ (p : ℕ). Some (record road { profile = p })) number

  pub road_assigned : (n profile : ℕ) → (arc < length list.assigned → slice_get list.assigned arc ≡ Some n) → n ≡ suc profile
      → slice_get (edited_all g list.edits).arcs arc ≡ Some (record road { profile = profile })
  road_assigned n profile there some = road_by n profile (fits.assigns arc n (number_there n there)) some

  road_kept_by : (n : ℕ) → IsAssigned g (edited_all g list.edits) arc n → n ≡ 0 → slice_get (edited_all g list.edits).arcs arc ≡ Some road
  road_kept_by zero is none = is ∙ at
  road_kept_by (suc n) is none = absurd (omega (arith, none))

  pub road_kept : (n : ℕ) → (arc < length list.assigned → slice_get list.assigned arc ≡ Some n) → n ≡ 0 → slice_get (edited_all g list.edits).arcs arc ≡ Some road
  road_kept n there none = road_kept_by n (fits.assigns arc n (number_there n there)) none

-- a profile has the pieces that it was given last
module _ (g : NetworkValue) (list : EditListValue) (fits : FitsNetwork g list) (profile : ℕ) where
  none_by : (n : ℕ) → IsGiven g list.edits (edited_all g list.edits) profile n → n ≡ 0 → GiveProfile g list.edits profile None
  none_by zero is none = is
  none_by (suc n) is none = absurd (omega (arith, none))

  pub none_given : (n : ℕ) → (profile < length list.given → slice_get list.given profile ≡ Some n) → n ≡ 0 → GiveProfile g list.edits profile None
  none_given n there none =
      let long = fits.profiles in
      let count = profiles_all g list.edits in
      elim (cases_lt profile (length list.given)) [
        | inl lt ↦ none_by n (fits.gives profile n (there lt)) none
        | inr past ↦
            slice_get_past (edited_all g list.edits).profiles profile (omega (arith, past, long, count)) ∙ sym (slice_get_past g.profiles profile (omega (arith, past, long)))
      ]

  given_by : (n index : ℕ) → IsGiven g list.edits (edited_all g list.edits) profile n → n ≡ suc index
      → (pieces : List Piece) × (slice_get list.edits index ≡ Some (Set profile pieces)) × (slice_get (edited_all g list.edits).profiles profile ≡ Some pieces)
  given_by zero index is some = absurd (omega (arith, some))
  given_by (suc n) index (pieces, found, has) some =
      let number : n ≡ index = omega (arith, some) in
      (pieces, subst (λ (k : ℕ). slice_get list.edits k ≡ Some (Set profile pieces)) number found, has)

  -- the number is that of an edit, which sets the pieces
  module _ (n index : ℕ) (there : profile < length list.given → slice_get list.given profile ≡ Some n) (past : length list.given ≤ profile → n ≡ 0) (some : n ≡ suc index) where
    edit_there : (pieces : List Piece) × (slice_get list.edits index ≡ Some (Set profile pieces)) × (slice_get (edited_all g list.edits).profiles profile ≡ Some pieces)
    edit_there = elim (cases_lt profile (length list.given)) [
      | inl lt ↦ given_by n index (fits.gives profile n (there lt)) some
      | inr beyond ↦ let none = past beyond in absurd (omega (arith, none, some))
    ]

    pub index_within : length list.edits < n → ⊥
    index_within beyond =
        let (pieces, found, has) = edit_there in
        let inside = slice_get_within list.edits index (Set profile pieces) found in
        omega (arith, inside, beyond, some)

    set_by : (edit : Edit) (found : Option (Bor (List Piece))) (pieces : List Piece) → edit ≡ Set profile pieces → SetsPieces edit found
        → slice_get (edited_all g list.edits).profiles profile ≡ Some pieces → GiveProfile g list.edits profile found
    set_by (Set own had) None pieces same sets has = absurd sets
    set_by (Set own had) (Some given) pieces same sets has =
        let equal : had ≡ pieces = cc same in
        λ inside. has ∙ ap (λ (ps : List Piece). Some ps) (sym equal ∙ sym sets)
    set_by (Assign arc own) found pieces same sets has = absurd (cc same)

    pub given_last : (edit : Edit) (found : Option (Bor (List Piece))) → slice_get list.edits index ≡ Some edit → SetsPieces edit found → GiveProfile g list.edits profile found
    given_last edit found at sets =
        let (pieces, own, has) = edit_there in
        set_by edit found pieces (same_Some edit (Set profile pieces) (sym at ∙ own)) sets has

-- the touched edges, found one after the other
pub record AreFirstTouched (marks : List Bool) (count : ℕ) (edges : List ℕ) : Type 0 where
  pub rising : AllPairs (λ x y. x < y) edges
  pub exact : (edge : ℕ) → Contains edges edge ↔ ((edge < count) × (slice_get marks edge ≡ Some true))

pub touched_none : (marks : List Bool) → AreFirstTouched marks 0 []
touched_none marks = record {
  rising = λ i j d lt inside. absurd (omega (arith, inside));
  exact = λ edge. ((λ c. absurd (none_in_nil edge c)), λ own. absurd (omega (arith, own.0)));
}

pub touched_one : (marks : List Bool) (count : ℕ) (edges : List ℕ) → slice_get marks count ≡ Some true → AreFirstTouched marks count edges
    → AreFirstTouched marks (count + 1) (edges ++ count ∷ [])
touched_one marks count edges at first = record {
  rising = pairs_append (λ x y. x < y) edges (count ∷ []) first.rising (λ i j d lt inside. absurd (omega (arith, lt, inside))) (λ x y c last. elim (member_cases count [] y last) [
    | inl here ↦ let (lt, own) = (first.exact x).0 c in omega (arith, lt, here)
    | inr past ↦ absurd (none_in_nil y past)
  ]);
  exact = λ edge. (
    (λ c. elim (Contains-push_cases edges count edge c) [
      | inl before ↦ let (lt, own) = (first.exact edge).0 before in (omega (arith, lt), own)
      | inr same ↦ (omega (arith, same), subst (λ (k : ℕ). slice_get marks k ≡ Some true) same at)
    ]),
    λ own. elim (cases_eq count edge) [
      | inl same ↦ subst (Contains (edges ++ count ∷ [])) same (Contains-push edges count)
      | inr other ↦ Contains-append_left edges (count ∷ []) edge ((first.exact edge).1 (omega (arith, own.0, other), own.1))
    ],
  );
}

pub touched_other : (marks : List Bool) (count : ℕ) (edges : List ℕ) (mark : Bool) → slice_get marks count ≡ Some mark → mark ≡ false → AreFirstTouched marks count edges
    → AreFirstTouched marks (count + 1) edges
touched_other marks count edges mark at off first = record {
  rising = first.rising;
  exact = λ edge. (
    (λ c. let (lt, own) = (first.exact edge).0 c in (omega (arith, lt), own)),
    λ own. elim (cases_eq count edge) [
      | inl same ↦
          let here : slice_get marks count ≡ Some true = subst (λ (k : ℕ). slice_get marks k ≡ Some true) (sym same) own.1 in
          absurd (cc (at, here, off))
      | inr other ↦ (first.exact edge).1 (omega (arith, own.0, other), own.1)
    ],
  );
}

pub touched_all : (h : HierarchyValue) (list : EditListValue) (count : ℕ) (edges : List ℕ) → count ≡ length list.touched → AreFirstTouched list.touched count edges
    → FitsList h list → NumbersTouchedBySome h list.edits edges
touched_all h list count edges all first fits = record {
  rising = increasing_from_pairs edges first.rising;
  exact = λ edge. (
    (λ c. let (lt, at) = (first.exact edge).0 c in (fits.touches edge true at).0 refl),
    λ touched.
        let inside = slice_get_within h.edges edge touched.0 touched.1 in
        let long = fits.edges in
        let (mark, at) = item_there list.touched edge (omega (arith, inside, long)) in
        let set : mark ≡ true = (fits.touches edge mark at).1 touched in
        (first.exact edge).1 (omega (arith, inside, long, all), at ∙ ap (λ (m : Bool). Some m) set),
  );
}

-- what stood in a list stands there once one more is behind it
pub get_front : {X : Type 0} (xs : List X) (y x : X) (i : ℕ) → slice_get xs i ≡ Some x → slice_get (xs ++ y ∷ []) i ≡ Some x
get_front [] y x i at = absurd (cc at)
get_front (z ∷ zs) y x zero at = at
get_front (z ∷ zs) y x (suc i) at = get_front zs y x i at

-- either of two leads there
pub either : {A B C : Type 0} → A ⊎ B → (A → C) → (B → C) → C
either (inl a) f g = f a
either (inr b) f g = g b
