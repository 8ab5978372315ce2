-- The best of some ways and one more that comes after them.
use Rattle.std.proofs.Common.{◌≡◌, ◌≢◌, ◌≤◌, ◌<◌, ◌∙◌, ◌++◌, ◌⊎◌, ℕ, Bool, List, [], ◌∷◌, Option, Some, None, refl, sym, ap, subst, arith, inl, inr, true, false, leb, ltb, min, get_or, zero, suc}
use Rattle.std.specs.Prelude.{All}
use Rattle.std.specs.Option.{option_map}
use Rattle.std.proofs.lemmas.Bool.{cases_lt}
use Rattle.std.proofs.lemmas.List.Elements.{All-contains, Contains-append_cases, Contains-append_left, Contains-append_right}
use Rattle.cu_model.specs.Days.{day}
use Rattle.cu_model.proofs.Begun.{le_test}
use Rattle.cu_arrival.specs.declared.runs.Choice.{Choice}
use Rattle.cu_arrival.specs.declared.runs.Run.{Run}
use Rattle.cu_arrival.specs.Choices.{IsChoices, choice_at, is_second}
use Rattle.cu_arrival.specs.Runs.{IsArrivalFunction, arrival_value}
use Rattle.cu_chordal.specs.declared.graph.Ends.{Ends}
use Rattle.cu_chordal.proofs.Members.{here, member_cases, none_in_nil}
use Rattle.cu_interval.specs.declared.ways.Entry.{Entry}
use Rattle.cu_interval.specs.declared.ways.Way.{Way}
use Rattle.cu_interval.specs.declared.ways.Way.TheVariants.{Road, Via}
use Rattle.cu_interval.specs.WayLists.{GoesFirst, IsFirstEarliest, IsRunsOf, IsWayList, way_in}
use Rattle.cu_interval.proofs.Unpacked.{way_there}
use Rattle.cu_interval.proofs.LowLists.{runs_by}
use Rattle.cu_customize.specs.declared.settling.Settled.{Settled}
use Rattle.cu_customize.specs.Functions.{FunctionsState}
use Rattle.cu_customize.specs.Settling.{ArrivesBy}
use Rattle.cu_customize.specs.Steps.Best.{IsBestOf, IsOpenAmong, IsOpenWay, IsWayFunction}
use Rattle.cu_customize.specs.Steps.Choosing.{AreTurns, chosen, chosen_by, side}

-- a way arrives at one second
pub arrives_once : (edges : List Ends) (f : FunctionsState) (u v t : ℕ) (way : Way) (a b : ℕ) → ArrivesBy edges f u v t way a → ArrivesBy edges f u v t way b → a ≡ b
arrives_once edges f u v t (Road r) a b p q = cc (p, q)
arrives_once edges f u v t (Via m) a b p q = cc (p, q)

pub among_more : (edges : List Ends) (f : FunctionsState) (u v : ℕ) (ways : List Way) (way other : Way) → IsOpenAmong edges f u v ways other → IsOpenAmong edges f u v (ways ++ way ∷ []) other
among_more edges f u v ways way other (held, free) = (Contains-append_left ways (way ∷ []) other held, free)

pub among_last : (edges : List Ends) (f : FunctionsState) (u v : ℕ) (ways : List Way) (way : Way) → IsOpenWay edges f u v way → IsOpenAmong edges f u v (ways ++ way ∷ []) way
among_last edges f u v ways way free = (Contains-append_right ways (way ∷ []) way (here way []), free)

pub among_cases : (edges : List Ends) (f : FunctionsState) (u v : ℕ) (ways : List Way) (way other : Way) → IsOpenAmong edges f u v (ways ++ way ∷ []) other
    → IsOpenAmong edges f u v ways other ⊎ (way ≡ other)
among_cases edges f u v ways way other (held, free) =
    elim (Contains-append_cases ways (way ∷ []) other held) [
      | inl before ↦ inl (before, free)
      | inr last ↦ elim (member_cases way [] other last) [ inl same ↦ inr same | inr none ↦ absurd (none_in_nil other none) ]
    ]

-- a way that has no function changes nothing
pub best_without : (edges : List Ends) (f : FunctionsState) (u v : ℕ) (ways : List Way) (way : Way) (best : Settled) → IsBestOf edges f u v ways best → (IsOpenWay edges f u v way → ⊥)
    → IsBestOf edges f u v (ways ++ way ∷ []) best
best_without edges f u v ways way best is closed = record {
  runs = runs_by (IsOpenAmong edges f u v ways) (IsOpenAmong edges f u v (ways ++ way ∷ [])) (ArrivesBy edges f u v) (ArrivesBy edges f u v) best.ways (among_more edges f u v ways way)
      (λ other held. elim (among_cases edges f u v ways way other held) [
        | inl before ↦ before
        | inr same ↦ absurd (closed (subst (λ (w : Way). IsOpenWay edges f u v w) (sym same) held.1))
      ])
      (λ s a other lt d e. e) (λ s a other lt d e. e) is.runs;
  value = is.value;
}

entry_begins : (x : Entry) (k : ℕ) (d : Entry) → x.from ≡ 0 → k < 1 → (get_or (x ∷ []) k d).from < day
entry_begins x zero d e h = omega (arith, e)
entry_begins x (suc k) d e h = absurd (omega (arith, h))

one_list : (way : Way) → IsWayList (record { from = 0; way = way } ∷ [])
one_list way = record {
  begins = refl;
  within = λ k d h. entry_begins (record { from = 0; way = way }) k d refl h;
  turns = λ k d h. absurd (omega (arith, h));
}

one_way_in : (way : Way) (s : ℕ) → way_in (record { from = 0; way = way } ∷ []) s ≡ Some way
one_way_in way s = let test : leb 0 s ≡ true = le_test 0 s (omega arith) in rw test refl

first_only : (edges : List Ends) (f : FunctionsState) (u v : ℕ) (ways : List Way) (way : Way) (runs : List Run) → ((other : Way) → IsOpenAmong edges f u v ways other → ⊥) → IsOpenWay edges f u v way
    → (s : ℕ) → ArrivesBy edges f u v s way (arrival_value runs s) → IsFirstEarliest (IsOpenAmong edges f u v (ways ++ way ∷ [])) (ArrivesBy edges f u v s) way
first_only edges f u v ways way runs none free s arrives = record {
  candidate = among_last edges f u v ways way free;
  arrival = arrival_value runs s;
  arrives = arrives;
  first = λ other later held at. elim (among_cases edges f u v ways way other held) [
    | inl before ↦ absurd (none other before)
    | inr same ↦ inr (arrives_once edges f u v s way (arrival_value runs s) later arrives (subst (λ (w : Way). ArrivesBy edges f u v s w later) (sym same) at), inl same)
  ];
}

-- the first way that has a function is taken at every second
pub best_only : (edges : List Ends) (f : FunctionsState) (u v : ℕ) (ways : List Way) (way : Way) (old : List Entry) (list : List Entry) (runs : List Run)
    → IsBestOf edges f u v ways (record { ways = old; function = None }) → IsWayFunction edges f u v way (Some runs) → list ≡ record { from = 0; way = way } ∷ []
    → IsBestOf edges f u v (ways ++ way ∷ []) (record { ways = list; function = Some runs })
best_only edges f u v ways way old list runs is (free, sound, arrives) made =
    let none : (other : Way) → IsOpenAmong edges f u v ways other → ⊥ = is.runs.none is.value in
    let claim : IsBestOf edges f u v (ways ++ way ∷ []) (record { ways = record { from = 0; way = way } ∷ []; function = Some runs }) = record {
      runs = record {
        spelled = one_list way;
        first = λ s w lt e. let same : way ≡ w = cc (e, one_way_in way s) in
            subst (λ (x : Way). IsFirstEarliest (IsOpenAmong edges f u v (ways ++ way ∷ [])) (ArrivesBy edges f u v s) x) same (first_only edges f u v ways way runs none free s (arrives s lt));
        none = λ empty. absurd (cc empty);
      };
      value = (
        λ empty. absurd (cc empty),
        sound,
        λ t w lt e. let same : way ≡ w = cc (e, one_way_in way t) in
            subst (λ (x : Way). ArrivesBy edges f u v t x (arrival_value runs t)) same (arrives t lt),
      );
    } in
    subst (λ (es : List Entry). IsBestOf edges f u v (ways ++ way ∷ []) (record { ways = es; function = Some runs })) (sym made) claim

-- the choice at a second
told : (o : Option Choice) (b : Bool) (standing : Option Way) (way : Way) → option_map (λ (choice : Choice). choice.second) o ≡ Some b → chosen_by o standing way ≡ side b standing way
told None b standing way e = absurd (cc e)
told (Some choice) b standing way e = let same : choice.second ≡ b = cc e in ap (λ (x : Bool). side x standing way) same

chosen_cases : (entries : List Entry) (choices : List Choice) (way : Way) (first second : List Run) (s : ℕ) → IsChoices first second choices → s < day
    → ((arrival_value second s < arrival_value first s) × (chosen entries choices way s ≡ Some way))
    ⊎ ((arrival_value first s ≤ arrival_value second s) × (chosen entries choices way s ≡ way_in entries s))
chosen_cases entries choices way first second s are lt =
    let said = told (choice_at choices s) (is_second first second s) (way_in entries s) way (are.earlier s lt) in
    elim (cases_lt (arrival_value second s) (arrival_value first s)) [
      | inl less ↦ let test : ltb (arrival_value second s) (arrival_value first s) ≡ true = grind (arith, less) in inl (less, said ∙ ap (λ (b : Bool). side b (way_in entries s) way) test)
      | inr more ↦ let test : ltb (arrival_value second s) (arrival_value first s) ≡ false = grind (arith, more) in inr (more, said ∙ ap (λ (b : Bool). side b (way_in entries s) way) test)
    ]

pub choices_turn : (first second : List Run) (choices : List Choice) → IsChoices first second choices → AreTurns choices
choices_turn first second choices are = record { limits = are.limits; starts = are.starts; rises = are.rises }

-- the first of some ways stays it where one more, that comes after them, isn't earlier
first_stays : (edges : List Ends) (f : FunctionsState) (u v : ℕ) (ways : List Way) (way w : Way) (s : ℕ) (old : IsFirstEarliest (IsOpenAmong edges f u v ways) (ArrivesBy edges f u v s) w)
    → All (λ (x : Way). GoesFirst x way) ways → ((later : ℕ) → ArrivesBy edges f u v s way later → old.arrival ≤ later)
    → IsFirstEarliest (IsOpenAmong edges f u v (ways ++ way ∷ [])) (ArrivesBy edges f u v s) w
first_stays edges f u v ways way w s old goes late = record {
  candidate = among_more edges f u v ways way w old.candidate;
  arrival = old.arrival;
  arrives = old.arrives;
  first = λ other later held at. elim (among_cases edges f u v ways way other held) [
    | inl before ↦ old.first other later before at
    | inr last ↦
        let more = late later (subst (λ (x : Way). ArrivesBy edges f u v s x later) (sym last) at) in
        elim (cases_lt old.arrival later) [
          | inl less ↦ inl less
          | inr tie ↦ inr (omega (arith, tie, more), inr (subst (λ (x : Way). GoesFirst w x) last (All-contains (λ (x : Way). GoesFirst x way) ways w goes old.candidate.0)))
        ]
  ];
}

-- what is known of two functions, of the list by the first, and of the way by the second
record AreTwo (edges : List Ends) (f : FunctionsState) (u v : ℕ) (ways : List Way) (way : Way) (entries : List Entry) (first second : List Run) (choices : List Choice) : Type 0 where
  runs : IsRunsOf (IsOpenAmong edges f u v ways) (ArrivesBy edges f u v) entries
  some : entries ≢ []
  value : (t : ℕ) (w : Way) → t < day → way_in entries t ≡ Some w → ArrivesBy edges f u v t w (arrival_value first t)
  before : All (λ (w : Way). GoesFirst w way) ways
  free : IsOpenWay edges f u v way
  arrives : (t : ℕ) → t < day → ArrivesBy edges f u v t way (arrival_value second t)
  chosen_by_value : IsChoices first second choices

module _ (edges : List Ends) (f : FunctionsState) (u v : ℕ) (ways : List Way) (way : Way) (entries : List Entry) (first second : List Run) (choices : List Choice)
    (two : AreTwo edges f u v ways way entries first second choices) where
  abbrev IsFirst : ℕ → Way → Type 0
  IsFirst s w = IsFirstEarliest (IsOpenAmong edges f u v (ways ++ way ∷ [])) (ArrivesBy edges f u v s) w

  later_of_last : (s later : ℕ) (other : Way) → s < day → way ≡ other → ArrivesBy edges f u v s other later → later ≡ arrival_value second s
  later_of_last s later other lt same at =
      arrives_once edges f u v s way later (arrival_value second s) (subst (λ (w : Way). ArrivesBy edges f u v s w later) (sym same) at) (two.arrives s lt)

  -- where the way is strictly earlier
  first_new : (s : ℕ) → s < day → arrival_value second s < arrival_value first s → IsFirst s way
  first_new s lt less =
      let (w, e) = way_there entries two.runs.spelled two.some s in
      let old = two.runs.first s w lt e in
      let same : old.arrival ≡ arrival_value first s = arrives_once edges f u v s w old.arrival (arrival_value first s) old.arrives (two.value s w lt e) in
      record {
        candidate = among_last edges f u v ways way two.free;
        arrival = arrival_value second s;
        arrives = two.arrives s lt;
        first = λ other later held at. elim (among_cases edges f u v ways way other held) [
          | inl before ↦ elim (old.first other later before at) [
            | inl sooner ↦ inl (omega (arith, sooner, same, less))
            | inr tie ↦ inl (let is = tie.0 in omega (arith, is, same, less))
          ]
          | inr last ↦ inr (sym (later_of_last s later other lt last at), inl last)
        ];
      }

  -- where it isn't
  first_old : (s : ℕ) (w : Way) → s < day → way_in entries s ≡ Some w → arrival_value first s ≤ arrival_value second s → IsFirst s w
  first_old s w lt e more =
      let old = two.runs.first s w lt e in
      let same : old.arrival ≡ arrival_value first s = arrives_once edges f u v s w old.arrival (arrival_value first s) old.arrives (two.value s w lt e) in
      first_stays edges f u v ways way w s old two.before
      (λ later at. let is = arrives_once edges f u v s way later (arrival_value second s) at (two.arrives s lt) in omega (arith, is, same, more))

  merged_first : (merged : List Entry) → ((t : ℕ) → t < day → way_in merged t ≡ chosen entries choices way t) → (s : ℕ) (w : Way) → s < day → way_in merged s ≡ Some w → IsFirst s w
  merged_first merged is s w lt e =
      elim (chosen_cases entries choices way first second s two.chosen_by_value lt) [
        | inl (less, taken) ↦ let same : way ≡ w = cc (is s lt, e, taken) in subst (λ (x : Way). IsFirst s x) same (first_new s lt less)
        | inr (more, kept) ↦ first_old s w lt (sym kept ∙ sym (is s lt) ∙ e) more
      ]

  merged_value : (merged : List Entry) (least : List Run) → ((t : ℕ) → t < day → way_in merged t ≡ chosen entries choices way t)
      → ((t : ℕ) → t < day → arrival_value least t ≡ min (arrival_value first t) (arrival_value second t))
      → (t : ℕ) (w : Way) → t < day → way_in merged t ≡ Some w → ArrivesBy edges f u v t w (arrival_value least t)
  merged_value merged least is lesser t w lt e =
      let value = lesser t lt in
      elim (chosen_cases entries choices way first second t two.chosen_by_value lt) [
        | inl (less, taken) ↦
            let same : way ≡ w = cc (is t lt, e, taken) in
            let second_is : arrival_value second t ≡ arrival_value least t = omega (arith, value, less) in
            subst (λ (x : Way). ArrivesBy edges f u v t x (arrival_value least t)) same (subst (λ (a : ℕ). ArrivesBy edges f u v t way a) second_is (two.arrives t lt))
        | inr (more, kept) ↦
            let first_is : arrival_value first t ≡ arrival_value least t = omega (arith, value, more) in
            subst (λ (a : ℕ). ArrivesBy edges f u v t w a) first_is (two.value t w lt (sym kept ∙ sym (is t lt) ∙ e))
      ]

-- one more way that has a function: where it is strictly earlier it is taken
pub best_lesser : (edges : List Ends) (f : FunctionsState) (u v : ℕ) (ways : List Way) (way : Way) (entries merged : List Entry) (first second least : List Run) (choices : List Choice)
    → IsBestOf edges f u v ways (record { ways = entries; function = Some first }) → All (λ (w : Way). GoesFirst w way) ways → IsWayFunction edges f u v way (Some second)
    → IsChoices first second choices → IsArrivalFunction least → ((t : ℕ) → t < day → arrival_value least t ≡ min (arrival_value first t) (arrival_value second t))
    → IsWayList merged → merged ≢ [] → ((t : ℕ) → t < day → way_in merged t ≡ chosen entries choices way t)
    → IsBestOf edges f u v (ways ++ way ∷ []) (record { ways = merged; function = Some least })
best_lesser edges f u v ways way entries merged first second least choices is before (free, sound, arrives) are good lesser list some chosen_is =
    let two : AreTwo edges f u v ways way entries first second choices = record {
      runs = is.runs;
      some = is.value.0;
      value = is.value.2;
      before = before;
      free = free;
      arrives = arrives;
      chosen_by_value = are;
    } in
    record {
      runs = record {
        spelled = list;
        first = merged_first edges f u v ways way entries first second choices two merged chosen_is;
        none = λ empty. absurd (some empty);
      };
      value = (some, good, merged_value edges f u v ways way entries first second choices two merged least chosen_is lesser);
    }
