-- Where some way is first at every second, there is a list of their runs; and each way of such runs is a candidate.
use Rattle.std.proofs.Common.{◌≡◌, ◌≢◌, ◌≤◌, ◌<◌, ◌+◌, ◌∙◌, ℕ, zero, suc, Bool, List, [], ◌∷◌, Option, Some, None, refl, sym, ap, subst, arith, inl, inr, length, get_or, leb, true, if◌then◌else◌}
use Rattle.std.specs.Prelude.{All, slice_get}
use Rattle.std.specs.Option.{option_map}
use Rattle.std.proofs.lemmas.Bool.{cases_eq}
use Rattle.std.proofs.lemmas.List.Elements.{All-cons, All-nil}
use Rattle.std.proofs.lemmas.Option.{same_Some, get_or_from_slice_get, slice_get-get_or, slice_get_within}
use Rattle.cu_model.specs.Begun.{later_of}
use Rattle.cu_model.specs.Days.{day}
use Rattle.cu_model.proofs.Begun.{le_test, gt_test, last_begun-at, rises_between}
use Rattle.cu_chordal.proofs.Decided.{Decided}
use Rattle.cu_interval.specs.declared.ways.Way.{Way}
use Rattle.cu_interval.specs.declared.ways.Way.TheVariants.{Road, Via}
use Rattle.cu_interval.specs.declared.ways.Entry.{Entry}
use Rattle.cu_interval.specs.WayLists.{IsFirstEarliest, IsRunsOf, IsWayList, Turns, entry_in, way_in}
use Rattle.cu_interval.proofs.Spelled.{IsSpelledFrom, entries_rise}
use Rattle.cu_interval.proofs.Spelled.{beyond, from_day, head_at, tail_spelled}

way_decided : (v w : Way) → Decided (v ≡ w)
way_decided (Road a) (Road b) = elim (cases_eq a b) [ inl same ↦ inl (ap (λ (k : ℕ). Road k) same) | inr other ↦ inr (λ e. other (cc e)) ]
way_decided (Road a) (Via m) = inr (λ e. absurd (cc e))
way_decided (Via m) (Road a) = inr (λ e. absurd (cc e))
way_decided (Via m) (Via n) = elim (cases_eq m n) [ inl same ↦ inl (ap (λ (k : ℕ). Via k) same) | inr other ↦ inr (λ e. other (cc e)) ]

-- what is spelled from a second on is a way list, where it begins at second 0
within_from : (least : ℕ) (es : List Entry) → IsSpelledFrom least es → All (λ (x : Entry). x.from < day) es
within_from least [] h = All-nil (λ (x : Entry). x.from < day)
within_from least (e ∷ es) h =
    All-cons (λ (x : Entry). x.from < day) e es (from_day least e es h).1 (within_from (suc e.from) es (tail_spelled least e es h))

turns_from : (least : ℕ) (es : List Entry) → IsSpelledFrom least es → (k : ℕ) (d : Entry) → k + 1 < length es → Turns (get_or es k d) (get_or es (k + 1) d)
turns_from least [] h k d lt = absurd (omega (arith, lt))
turns_from least (e ∷ []) h k d lt = absurd (omega (arith, lt))
turns_from least (e ∷ f ∷ es) h zero d lt = let next = (from_day (suc e.from) f es h.3).0 in (omega (arith, next), h.2)
turns_from least (e ∷ f ∷ es) h (suc k) d lt =
    let same : suc (k + 1) ≡ suc k + 1 = omega arith in
    subst (λ (j : ℕ). Turns (get_or (e ∷ f ∷ es) (suc k) d) (get_or (e ∷ f ∷ es) j d)) same (turns_from (suc e.from) (f ∷ es) h.3 k d (omega (arith, lt)))

way_list : (e : Entry) (es : List Entry) → e.from ≡ 0 → IsSpelledFrom 0 (e ∷ es) → IsWayList (e ∷ es)
way_list e es begins spelled = record { begins = begins; within = within_from 0 (e ∷ es) spelled; turns = λ k d lt. turns_from 0 (e ∷ es) spelled k d lt }

-- the same from an earlier second
spelled_before : (least more : ℕ) (es : List Entry) → more ≤ least → IsSpelledFrom least es → IsSpelledFrom more es
spelled_before least more [] le h = tt
spelled_before least more (e ∷ []) le h = let after = h.0 in (omega (arith, le, after), h.1)
spelled_before least more (e ∷ f ∷ es) le h = let after = h.0 in (omega (arith, le, after), h.1, h.2, h.3)

-- with its first entry from an earlier second
abbrev earlier : ℕ → Entry → Entry
earlier s e = record { from = s; way = e.way }

spelled_earlier : (s : ℕ) (e : Entry) (es : List Entry) → IsSpelledFrom (suc s) (e ∷ es) → IsSpelledFrom s (earlier s e ∷ es)
spelled_earlier s e [] h = let after = h.0 in let lt = h.1 in (omega arith, omega (arith, after, lt))
spelled_earlier s e (f ∷ es) h =
    let after = h.0 in
    let lt = h.1 in
    (omega arith, omega (arith, after, lt), h.2, spelled_before (suc e.from) (suc s) (f ∷ es) (omega (arith, after)) h.3)

-- the way in force once an entry has begun
abbrev shown : Entry → Option Entry → Way
shown e None = e.way
shown e (Some x) = x.way

shown_by : (e : Entry) (b : Bool) (o : Option Entry) → b ≡ true
    → option_map (λ (entry : Entry). entry.way) (later_of (if b then Some e else None) o) ≡ Some (shown e o)
shown_by e b None is = rw is refl
shown_by e b (Some x) is = refl

way_begun : (e : Entry) (es : List Entry) (t : ℕ) → e.from ≤ t → way_in (e ∷ es) t ≡ Some (shown e (entry_in es t))
way_begun e es t le = shown_by e (leb e.from t) (entry_in es t) (le_test e.from t le)

shown_earlier : (s : ℕ) (e : Entry) (o : Option Entry) → shown (earlier s e) o ≡ shown e o
shown_earlier s e None = refl
shown_earlier s e (Some x) = refl

way_earlier : (s t : ℕ) (e : Entry) (es : List Entry) → s ≤ t → e.from ≤ t → way_in (earlier s e ∷ es) t ≡ way_in (e ∷ es) t
way_earlier s t e es le later =
    way_begun (earlier s e) es t le ∙ ap (λ (w : Way). Some w) (shown_earlier s e (entry_in es t)) ∙ sym (way_begun e es t later)

-- entries from a second on, with a fact of the way in force at each
record AreRunsFrom (P : ℕ → Way → Type 0) (s : ℕ) (e : Entry) (es : List Entry) : Type 0 where
  begins : e.from ≡ s
  spelled : IsSpelledFrom s (e ∷ es)
  facts : (t : ℕ) (way : Way) → s ≤ t → t < day → way_in (e ∷ es) t ≡ Some way → P t way

module _ (P : ℕ → Way → Type 0) (s : ℕ) (w : Way) (here : P s w) (e : Entry) (es : List Entry) (runs : AreRunsFrom P (suc s) e es) where
  fact_here : (x : Entry) (xs : List Entry) → x.from ≡ s → x.way ≡ w → IsSpelledFrom s (x ∷ xs) → (t : ℕ) (way : Way) → t ≡ s → way_in (x ∷ xs) t ≡ Some way → P t way
  fact_here x xs from is spelled t way same at =
      let found : way_in (x ∷ xs) t ≡ Some x.way = subst (λ (k : ℕ). way_in (x ∷ xs) k ≡ Some x.way) (from ∙ sym same) (head_at s x xs spelled) in
      let alike : w ≡ way = sym is ∙ same_Some x.way way (sym found ∙ at) in
      subst (λ (k : ℕ). P k way) (sym same) (subst (P s) alike here)

  run_grows : w ≡ e.way → AreRunsFrom P s (earlier s e) es
  run_grows same = record {
    begins = refl;
    spelled = spelled_earlier s e es runs.spelled;
    facts = λ t way le lt at.
        elim (cases_eq t s) [
          | inl now ↦ fact_here (earlier s e) es refl (sym same) (spelled_earlier s e es runs.spelled) t way now at
          | inr other ↦
              let begins = runs.begins in
              runs.facts t way (omega (arith, le, other)) lt (sym (way_earlier s t e es le (omega (arith, begins, le, other))) ∙ at)
        ];
  }

  begin_spelled : w ≢ e.way → IsSpelledFrom s (record { from = s; way = w } ∷ e ∷ es)
  begin_spelled other =
      let (after, lt) = from_day (suc s) e es runs.spelled in
      let begins = runs.begins in
      (omega arith, omega (arith, after, lt), other, runs.spelled)

  run_begins : w ≢ e.way → AreRunsFrom P s (record { from = s; way = w }) (e ∷ es)
  run_begins turns = record {
    begins = refl;
    spelled = begin_spelled turns;
    facts = λ t way le lt at.
        elim (cases_eq t s) [
          | inl now ↦ fact_here (record { from = s; way = w }) (e ∷ es) refl refl (begin_spelled turns) t way now at
          | inr other ↦
              let begins = runs.begins in
              let begun : e.from ≤ t = omega (arith, begins, le, other) in
              runs.facts t way (omega (arith, le, other)) lt (sym (beyond t (record { from = s; way = w }) e es begun) ∙ at)
        ];
  }

last_run : (P : ℕ → Way → Type 0) (s : ℕ) (w : Way) → P s w → s + 1 ≡ day → AreRunsFrom P s (record { from = s; way = w }) []
last_run P s w here last = record {
  begins = refl;
  spelled = (omega arith, omega (arith, last));
  facts = λ t way le lt at.
      let now : t ≡ s = omega (arith, le, lt, last) in
      let found : way_in (record { from = s; way = w } ∷ []) t ≡ Some w = way_begun (record { from = s; way = w }) [] t le in
      let alike : w ≡ way = same_Some w way (sym found ∙ at) in
      subst (λ (k : ℕ). P k way) (sym now) (subst (P s) alike here);
}

runs_from : (P : ℕ → Way → Type 0) → ((s : ℕ) → (way : Way) × P s way) → (k s : ℕ) → s + suc k ≡ day → (e : Entry) × (es : List Entry) × AreRunsFrom P s e es
runs_from P each zero s last = (record { from = s; way = (each s).0 }, [], last_run P s (each s).0 (each s).1 (omega (arith, last)))
runs_from P each (suc k) s left =
    let (e, es, runs) = runs_from P each k (suc s) (omega (arith, left)) in
    elim (way_decided (each s).0 e.way) [
      | inl same ↦ (earlier s e, es, run_grows P s (each s).0 (each s).1 e es runs same)
      | inr other ↦ (record { from = s; way = (each s).0 }, e ∷ es, run_begins P s (each s).0 (each s).1 e es runs other)
    ]

runs_by_count : (C : Way → Type 0) (A : ℕ → Way → ℕ → Type 0) → ((s : ℕ) → (way : Way) × IsFirstEarliest C (A s) way)
    → (k : ℕ) → suc k ≡ day → (entries : List Entry) × IsRunsOf C A entries
runs_by_count C A each k count =
    let (e, es, runs) = runs_from (λ s w. IsFirstEarliest C (A s) w) each k 0 (omega (arith, count)) in (
      e ∷ es,
      record {
        spelled = way_list e es runs.begins runs.spelled;
        first = λ s way lt at. runs.facts s way (omega arith) lt at;
        none = λ empty. absurd (cc empty);
      },
    )

-- the runs of the first ways, one at every second
pub runs_there : (C : Way → Type 0) (A : ℕ → Way → ℕ → Type 0) → ((s : ℕ) → (way : Way) × IsFirstEarliest C (A s) way) → (entries : List Entry) × IsRunsOf C A entries
runs_there C A each = runs_by_count C A each 86399 (omega arith)

-- and none where there is no candidate
pub no_runs : (C : Way → Type 0) (A : ℕ → Way → ℕ → Type 0) → ((way : Way) → C way → ⊥) → IsRunsOf C A []
no_runs C A none = record {
  spelled = record { begins = tt; within = All-nil (λ (x : Entry). x.from < day); turns = λ k d lt. absurd (omega (arith, lt)) };
  first = λ s way lt at. absurd (cc at);
  none = λ empty. none;
}

-- at the second from which an entry is taken it is the one in force
in_force : (es : List Entry) → IsWayList es → (j : ℕ) (entry : Entry) → slice_get es j ≡ Some entry → way_in es entry.from ≡ Some entry.way
in_force es spelled j entry at =
    let from : Entry → ℕ = λ (e : Entry). e.from in
    let rises = entries_rise es spelled in
    let here : get_or es j entry ≡ entry = get_or_from_slice_get es j entry entry at in
    let inside = slice_get_within es j entry at in
    let last : entry_in es entry.from ≡ Some entry =
    last_begun-at from es j entry.from entry at
    (λ k y e low. le_test y.from entry.from (elim (cases_eq k j) [
      | inl same ↦ let is : y ≡ entry = cc (subst (λ (i : ℕ). slice_get es i ≡ Some y) same e, at) in let f = ap from is in omega (arith, f)
      | inr other ↦
          let lt = rises_between from es rises entry k j (omega (arith, low, other)) inside in
          let first = get_or_from_slice_get es k y entry e in
          let f = ap from first in let g = ap from here in omega (arith, lt, f, g)
    ]))
    (λ k y e high. gt_test y.from entry.from (
    let past = slice_get_within es k y e in
    let lt = rises_between from es rises entry j k (omega (arith, high)) past in
    let first = get_or_from_slice_get es k y entry e in
    let f = ap from first in let g = ap from here in omega (arith, lt, f, g))) in
    ap (option_map (λ (e : Entry). e.way)) last

-- each way of such runs is a candidate
pub candidates_alone : (C : Way → Type 0) (A : ℕ → Way → ℕ → Type 0) (es : List Entry) → IsRunsOf C A es → All (λ (entry : Entry). C entry.way) es
candidates_alone C A es runs = λ k d lt.
    let entry = get_or es k d in
    let at : slice_get es k ≡ Some entry = slice_get-get_or es k d lt in
    (runs.first entry.from entry.way (runs.spelled.within k d lt) (in_force es runs.spelled k entry at)).candidate
