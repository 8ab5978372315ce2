-- One way more beside a list of ways: what holds at each second, and until when.
use Rattle.std.proofs.Common.{◌≡◌, ◌≢◌, ◌≤◌, ◌<◌, ◌+◌, ◌⊎◌, ◌∙◌, ℕ, suc, List, [], ◌∷◌, Option, Some, None, refl, sym, ap, subst, arith, inl, inr, get_or, min}
use Rattle.std.specs.Prelude.{slice_get, All}
use Rattle.std.specs.Option.{option_map}
use Rattle.std.proofs.lemmas.Option.{slice_get-get_or, get_or_from_slice_get, slice_get_within}
use Rattle.cu_model.specs.Begun.{last_begun, Rises}
use Rattle.cu_model.specs.Days.{day}
use Rattle.cu_model.proofs.Begun.{begun_until}
use Rattle.cu_model.proofs.RoadLaws.{all_at}
use Rattle.cu_arrival.specs.declared.runs.Choice.{Choice}
use Rattle.cu_arrival.specs.Choices.{choice_at}
use Rattle.cu_model.specs.Growing.{IsPushed}
use Rattle.cu_model.proofs.Growing.{IsGrown, grown_none, grown_push}
use Rattle.cu_interval.specs.declared.ways.Way.{Way}
use Rattle.cu_interval.specs.declared.ways.Entry.{Entry}
use Rattle.cu_interval.specs.WayLists.{BeginsAtZero, IsWayList, entry_in, way_in}
use Rattle.cu_interval.proofs.Spelled.{entries_rise}
use Rattle.cu_customize.specs.declared.choosing.Front.{Front}
use Rattle.cu_customize.specs.Steps.Choosing.{AreTurns, IsFront, IsInForce, IsMoved, IsNextFront, begin_or_day, chosen, chosen_by}

-- an item, or the end of the day
item_or_end : {A : Type 0} (from : A → ℕ) (o : Option A) → ((x : A) × (o ≡ Some x) × (begin_or_day (option_map from o) ≡ from x)) ⊎ ((o ≡ None) × (begin_or_day (option_map from o) ≡ day))
item_or_end from None = inr (refl, refl)
item_or_end from (Some x) = inl (x, refl, refl)

begin_within : {A : Type 0} (from : A → ℕ) (items : List A) (k : ℕ) → All (λ (x : A). from x < day) items → begin_or_day (option_map from (slice_get items k)) ≤ day
begin_within {A} from items k all =
    elim (item_or_end from (slice_get items k)) [
      | inl (x, there, is) ↦ let lt = all_at (λ (y : A). from y < day) items k x all there in omega (arith, lt, is)
      | inr (none, is) ↦ omega (arith, is)
    ]

-- while an item is in force, it is the last that has begun
pub force_begun : {A : Type 0} (from : A → ℕ) (items : List A) (index t s : ℕ) → Rises from items → (x : A) → slice_get items index ≡ Some x → from x ≤ t → t ≤ s
    → s < begin_or_day (option_map from (slice_get items (index + 1))) → last_begun from items s ≡ Some x
force_begun {A} from items index t s rises x there begun after lasts =
    let inside = slice_get_within items index x there in
    let same : get_or items index x ≡ x = get_or_from_slice_get items index x x there in
    let found : last_begun from items s ≡ Some (get_or items index x) =
    begun_until from items rises x index s inside (subst (λ (y : A). from y ≤ s) (sym same) (omega (arith, begun, after)))
    (λ more.
    let sum : suc index ≡ index + 1 = omega arith in
    let next : slice_get items (index + 1) ≡ Some (get_or items (index + 1) x) = slice_get-get_or items (index + 1) x (omega (arith, more)) in
    let end : begin_or_day (option_map from (slice_get items (index + 1))) ≡ from (get_or items (index + 1) x) = ap (λ (o : Option A). begin_or_day (option_map from o)) next in
    let lt : s < from (get_or items (index + 1) x) = omega (arith, lasts, end) in
    subst (λ (k : ℕ). s < from (get_or items k x)) (sym sum) lt) in
    found ∙ ap Some same

-- the item in force at the next second at which one may end
moved_force : {A : Type 0} (from : A → ℕ) (items : List A) (old new at end : ℕ) → Rises from items → IsInForce from items old at → end ≡ begin_or_day (option_map from (slice_get items (old + 1)))
    → (next : ℕ) → at < next → next ≤ end → next < day → IsMoved end next old new → IsInForce from items new next
moved_force {A} from items old new at end rises force is next later within in_day (inr (apart, kept)) =
    let (x, there, begun) = force.begun in
    let claim : IsInForce from items old next = record {
      begun = (x, there, omega (arith, begun, later));
      lasts = let lt : next < end = omega (arith, within, apart) in omega (arith, lt, is);
    } in
    subst (λ (k : ℕ). IsInForce from items k next) (sym kept) claim
moved_force {A} from items old new at end rises force is next later within in_day (inl (ends, moved)) =
    let claim : IsInForce from items (old + 1) next =
    elim (item_or_end from (slice_get items (old + 1))) [
      | inl (x, there, begins) ↦ record {
        begun = (x, there, omega (arith, begins, ends, is));
        lasts = elim (item_or_end from (slice_get items ((old + 1) + 1))) [
          | inl (y, after, starts) ↦
              let inside = slice_get_within items ((old + 1) + 1) y after in
              let step = rises (old + 1) x inside in
              let one : get_or items (old + 1) x ≡ x = get_or_from_slice_get items (old + 1) x x there in
              let two : get_or items ((old + 1) + 1) x ≡ y = get_or_from_slice_get items ((old + 1) + 1) y x after in
              let first : from (get_or items (old + 1) x) ≡ from x = ap from one in
              let second : from (get_or items ((old + 1) + 1) x) ≡ from y = ap from two in
              omega (arith, step, first, second, begins, ends, is, starts)
          | inr (none, past) ↦ omega (arith, past, in_day)
        ];
      }
      | inr (none, past) ↦ absurd (omega (arith, past, ends, is, in_day))
    ] in
    subst (λ (k : ℕ). IsInForce from items k next) (sym moved) claim

pub next_front : (entries : List Entry) (choices : List Choice) (old new : Front) → IsWayList entries → AreTurns choices → IsFront entries choices old → old.at < day
    → (entry_end choice_end : ℕ) → entry_end ≡ begin_or_day (option_map (λ (e : Entry). e.from) (slice_get entries (old.entry + 1)))
    → choice_end ≡ begin_or_day (option_map (λ (c : Choice). c.from) (slice_get choices (old.choice + 1)))
    → new.at ≡ min entry_end choice_end → IsMoved entry_end new.at old.entry new.entry → IsMoved choice_end new.at old.choice new.choice → IsNextFront entries choices old new
next_front entries choices old new list turns front in_day entry_end choice_end entry_is choice_is at_is entry_moved choice_moved =
    let entry = front.entry in_day in
    let choice = front.choice in_day in
    let entry_last = entry.lasts in
    let choice_last = choice.lasts in
    let limit = begin_within (λ (e : Entry). e.from) entries (old.entry + 1) list.within in
    let later : old.at < new.at = omega (arith, entry_last, choice_last, entry_is, choice_is, at_is) in
    record {
      front = record {
        within = omega (arith, limit, entry_is, at_is);
        entry = λ more. moved_force (λ (e : Entry). e.from) entries old.entry new.entry old.at entry_end (entries_rise entries list) entry entry_is new.at later
            (omega (arith, at_is)) more entry_moved;
        choice = λ more. moved_force (λ (c : Choice). c.from) choices old.choice new.choice old.at choice_end turns.rises choice choice_is new.at later (omega (arith, at_is)) more choice_moved;
      };
      later = later;
      entry = omega (arith, entry_is, at_is);
      choice = omega (arith, choice_is, at_is);
    }

-- the list so far: at each second before this one the chosen way
abbrev pub IsChosenTo : List Entry → List Choice → Way → List Entry → ℕ → Type 0
IsChosenTo entries choices way merged t = IsGrown (λ (e : Entry). e.from) (λ (e : Entry). e.way) (λ (w : Way) (s : ℕ). chosen entries choices way s ≡ Some w) merged t

-- nothing is chosen before second 0
pub chosen_none : (entries : List Entry) (choices : List Choice) (way : Way) (merged : List Entry) → merged ≡ [] → IsChosenTo entries choices way merged 0
chosen_none entries choices way merged empty =
    subst (λ (es : List Entry). IsChosenTo entries choices way es 0) (sym empty)
    (grown_none (λ (e : Entry). e.from) (λ (e : Entry). e.way) (λ (w : Way) (s : ℕ). chosen entries choices way s ≡ Some w))

-- an item that holds from second 0
first_force : {A : Type 0} (from : A → ℕ) (items : List A) → Rises from items → option_map from (slice_get items 0) ≡ Some 0 → IsInForce from items 0 0
first_force {A} from items rises starts =
    elim (item_or_end from (slice_get items 0)) [
      | inl (x, there, begins) ↦
          let zero_is : from x ≡ 0 = cc starts in
          record {
            begun = (x, there, omega (arith, zero_is));
            lasts = elim (item_or_end from (slice_get items (0 + 1))) [
              | inl (y, after, next) ↦
                  let inside = slice_get_within items (0 + 1) y after in
                  let step = rises 0 x inside in
                  let two : get_or items (0 + 1) x ≡ y = get_or_from_slice_get items (0 + 1) y x after in
                  let second : from (get_or items (0 + 1) x) ≡ from y = ap from two in
                  omega (arith, step, second, next)
              | inr (none, past) ↦ omega (arith, past)
            ];
          }
      | inr (none, past) ↦ absurd (cc starts)
    ]

list_starts : (entries : List Entry) → IsWayList entries → entries ≢ [] → option_map (λ (e : Entry). e.from) (slice_get entries 0) ≡ Some 0
list_starts [] list some = absurd (some refl)
list_starts (e ∷ es) list some = ap Some list.begins

pub first_front : (entries : List Entry) (choices : List Choice) (front : Front) → IsWayList entries → entries ≢ [] → AreTurns choices
    → front ≡ record { at = 0; entry = 0; choice = 0 } → IsFront entries choices front
first_front entries choices front list some turns is =
    let claim : IsFront entries choices (record { at = 0; entry = 0; choice = 0 }) = record {
      within = omega arith;
      entry = λ lt. first_force (λ (e : Entry). e.from) entries (entries_rise entries list) (list_starts entries list some);
      choice = λ lt. first_force (λ (c : Choice). c.from) choices turns.rises turns.starts;
    } in
    subst (λ (f : Front). IsFront entries choices f) (sym is) claim

-- one more entry: the way that is chosen until the next front
pub chosen_step : (entries : List Entry) (choices : List Choice) (way : Way) (old new : Front) (before after : List Entry) (entry : Entry) → IsWayList entries → AreTurns choices
    → IsFront entries choices old → old.at < day → IsNextFront entries choices old new → IsChosenTo entries choices way before old.at → entry.from ≡ old.at
    → chosen_by (slice_get choices old.choice) (option_map (λ (e : Entry). e.way) (slice_get entries old.entry)) way ≡ Some entry.way
    → IsPushed (λ (e : Entry). e.way) before entry after → IsChosenTo entries choices way after new.at
chosen_step entries choices way old new before after entry list turns front in_day next grown at is pushed =
    let (x, x_at, x_begun) = (front.entry in_day).begun in
    let (y, y_at, y_begun) = (front.choice in_day).begun in
    let entry_end = next.entry in
    let choice_end = next.choice in
    grown_push (λ (e : Entry). e.from) (λ (e : Entry). e.way) (λ (w : Way) (s : ℕ). chosen entries choices way s ≡ Some w) before after entry old.at new.at grown pushed at next.later
    (λ s a b.
    let one : entry_in entries s ≡ Some x = force_begun (λ (e : Entry). e.from) entries old.entry old.at s (entries_rise entries list) x x_at x_begun a (omega (arith, b, entry_end)) in
    let two : choice_at choices s ≡ Some y = force_begun (λ (c : Choice). c.from) choices old.choice old.at s turns.rises y y_at y_begun a (omega (arith, b, choice_end)) in
    ap (λ (o : Option Choice). chosen_by o (way_in entries s) way) two
    ∙ ap (λ (o : Option Entry). chosen_by (Some y) (option_map (λ (e : Entry). e.way) o) way) one
    ∙ ap (λ (o : Option Choice). chosen_by o (option_map (λ (e : Entry). e.way) (Some x)) way) (sym y_at)
    ∙ ap (λ (o : Option Entry). chosen_by (slice_get choices old.choice) (option_map (λ (e : Entry). e.way) o) way) (sym x_at) ∙ is)

zero_begins : (entries : List Entry) → option_map (λ (e : Entry). e.from) (slice_get entries 0) ≡ Some 0 → BeginsAtZero entries
zero_begins [] e = tt
zero_begins (x ∷ xs) e = cc e

pub chosen_list : (entries : List Entry) (choices : List Choice) (way : Way) (merged : List Entry) (t : ℕ) → t ≤ day → day ≤ t → IsChosenTo entries choices way merged t → IsWayList merged
chosen_list entries choices way merged t within over grown = record {
  begins = zero_begins merged (grown.tiled.starts (omega (arith, over)));
  within = λ k d h. let lt = grown.tiled.below k d h in omega (arith, lt, within);
  turns = λ k d h. (grown.tiled.rises k d h, grown.differs k d h);
}

pub chosen_some : (entries : List Entry) (choices : List Choice) (way : Way) (merged : List Entry) (t : ℕ) → day ≤ t → IsChosenTo entries choices way merged t → merged ≢ []
chosen_some entries choices way [] t over grown = λ e. let s = grown.tiled.starts (omega (arith, over)) in absurd (cc s)
chosen_some entries choices way (x ∷ xs) t over grown = λ e. absurd (cc e)

pub chosen_at : (entries : List Entry) (choices : List Choice) (way : Way) (merged : List Entry) (t s : ℕ) → day ≤ t → s < day
    → IsChosenTo entries choices way merged t → way_in merged s ≡ chosen entries choices way s
chosen_at entries choices way merged t s over lt grown =
    let (x, last, said) = grown.tiled.holds s (omega (arith, lt, over)) in
    ap (option_map (λ (e : Entry). e.way)) last ∙ sym said
