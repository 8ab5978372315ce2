-- Where two way lists part: at the first index at which they differ, from the earlier of the two entries on.
use Rattle.std.proofs.Common.{◌≡◌, ◌≢◌, ◌≤◌, ◌<◌, ◌+◌, ◌%◌, ◌∙◌, ℕ, zero, suc, List, [], ◌∷◌, Option, Some, None, length, get_or, refl, sym, ap, subst, arith, inl, inr}
use Rattle.std.specs.Prelude.{slice_get}
use Rattle.std.specs.Option.{option_map}
use Rattle.std.proofs.lemmas.Bool.{cases_lt, cases_eq}
use Rattle.std.proofs.lemmas.Option.{slice_get-get_or, get_or_from_slice_get, slice_get_within, slice_get_past, same_Some}
use Rattle.cu_model.specs.Days.{day}
use Rattle.cu_model.proofs.Begun.{begun_until, gt_test, none_begun, rises_between}
use Rattle.cu_model.proofs.ListLaws.{same_items}
use Rattle.cu_interval.specs.declared.ways.Entry.{Entry}
use Rattle.cu_interval.specs.WayLists.{IsWayList, entry_in, way_in}
use Rattle.cu_interval.proofs.Spelled.{entries_rise, same_entry}
use Rattle.cu_verify.specs.Verdicts.{PartAt}
use Rattle.cu_verify.specs.Steps.Comparing.{PartBy, begin_or_day}

-- the entries from an index on begin after a second
abbrev BeginAfter : List Entry → ℕ → ℕ → Type 0
BeginAfter xs i s = (k : ℕ) (x : Entry) → i ≤ k → slice_get xs k ≡ Some x → s < x.from

none_yet : (xs : List Entry) (s : ℕ) → BeginAfter xs 0 s → entry_in xs s ≡ None
none_yet xs s late = none_begun (λ (entry : Entry). entry.from) xs s (λ k x e. gt_test x.from s (late k x (omega arith) e))

rest_after : (x : Entry) (xs : List Entry) (i s : ℕ) → BeginAfter (x ∷ xs) (suc i) s → BeginAfter xs i s
rest_after x xs i s late = λ k y le e. late (suc k) y (omega (arith, le)) e

-- where the entries before an index are the same, and those from it on begin later, the same entry is in force
same_before : (xs ys : List Entry) (i s : ℕ) → ((k : ℕ) → k < i → slice_get xs k ≡ slice_get ys k) → BeginAfter xs i s → BeginAfter ys i s
    → entry_in xs s ≡ entry_in ys s
same_before xs ys zero s same one two = none_yet xs s one ∙ sym (none_yet ys s two)
same_before [] [] (suc i) s same one two = refl
same_before [] (y ∷ ys) (suc i) s same one two = absurd (cc (same 0 (omega arith)))
same_before (x ∷ xs) [] (suc i) s same one two = absurd (cc (same 0 (omega arith)))
same_before (x ∷ xs) (y ∷ ys) (suc i) s same one two =
    let here : x ≡ y = same_Some x y (same 0 (omega arith)) in
    let rest : entry_in xs s ≡ entry_in ys s = same_before xs ys i s (λ k lt. same (suc k) (omega (arith, lt))) (rest_after x xs i s one) (rest_after y ys i s two) in
    rw (here, rest) refl

-- the entry of an index is in force from its second until the next begins
in_force : (xs : List Entry) → IsWayList xs → (i s : ℕ) (x : Entry) → slice_get xs i ≡ Some x → x.from ≤ s → BeginAfter xs (suc i) s → way_in xs s ≡ Some x.way
in_force xs is i s x at begun late =
    let from = λ (entry : Entry). entry.from in
    let inside = slice_get_within xs i x at in
    let there : get_or xs i x ≡ x = get_or_from_slice_get xs i x x at in
    let found : entry_in xs s ≡ Some (get_or xs i x) = begun_until from xs (entries_rise xs is) x i s inside (subst (λ (e : Entry). e.from ≤ s) (sym there) begun)
    (λ more. late (suc i) (get_or xs (suc i) x) (omega arith) (slice_get-get_or xs (suc i) x more)) in
    ap (option_map (λ (entry : Entry). entry.way)) (found ∙ ap Some there)

-- after an entry of a way list come later ones
later : (xs : List Entry) → IsWayList xs → (i : ℕ) (x : Entry) → slice_get xs i ≡ Some x → BeginAfter xs (suc i) x.from
later xs is i x at k y le e =
    let from = λ (entry : Entry). entry.from in
    let order = rises_between from xs (entries_rise xs is) x i k (omega (arith, le)) (slice_get_within xs k y e) in
    let one : get_or xs i x ≡ x = get_or_from_slice_get xs i x x at in
    let two : get_or xs k x ≡ y = get_or_from_slice_get xs k y x e in
    subst (λ (z : Entry). x.from < z.from) two (subst (λ (z : Entry). z.from < (get_or xs k x).from) one order)

-- the entries from an index on begin after each second before the first of them
late_from : (xs : List Entry) → IsWayList xs → (i s : ℕ) (o : Option Entry) → slice_get xs i ≡ o → s < begin_or_day o → BeginAfter xs i s
late_from xs is i s None at lt k y le e =
    let inside = slice_get_within xs k y e in
    absurd (cc (at, slice_get-get_or xs i y (omega (arith, le, inside))))
late_from xs is i s (Some x) at lt k y le e =
    elim (cases_eq i k) [
      | inl same ↦
          let one : x ≡ y = same_Some x y (sym at ∙ ap (slice_get xs) same ∙ e) in
          subst (λ (z : Entry). s < z.from) one lt
      | inr other ↦ let more = later xs is i x at k y (omega (arith, le, other)) e in omega (arith, lt, more)
    ]

rest_of_day : (s : ℕ) → s < day → s % day ≡ s
rest_of_day s lt = omega (arith, lt)

entry_within : (xs : List Entry) → IsWayList xs → (i : ℕ) (x : Entry) → slice_get xs i ≡ Some x → x.from < day
entry_within xs is i x at = subst (λ (z : Entry). z.from < day) (get_or_from_slice_get xs i x x at) (is.within i x (slice_get_within xs i x at))

-- where a list that is the same before an index has another entry there, later or none, it still holds the way before
still : (xs ys : List Entry) → IsWayList xs → IsWayList ys → (i : ℕ) (x : Entry) → ((k : ℕ) → k < i → slice_get xs k ≡ slice_get ys k) → slice_get xs i ≡ Some x
    → BeginAfter ys i x.from → way_in ys x.from ≢ Some x.way
still xs ys one two zero x same at late is =
    let none : way_in ys x.from ≡ None = ap (option_map (λ (entry : Entry). entry.way)) (none_yet ys x.from late) in
    absurd (cc (none, is))
still xs ys one two (suc j) x same at late is =
    let inside = slice_get_within xs (suc j) x at in
    let w = get_or xs j x in
    let there : slice_get xs j ≡ Some w = slice_get-get_or xs j x (omega (arith, inside)) in
    let next : get_or xs (j + 1) x ≡ x = ap (λ (k : ℕ). get_or xs k x) (omega arith) ∙ get_or_from_slice_get xs (suc j) x x at in
    let turn = one.turns j x (omega (arith, inside)) in
    let begun : w.from < x.from = subst (λ (z : Entry). w.from < z.from) next turn.0 in
    let held : way_in ys x.from ≡ Some w.way = in_force ys two j x.from w (sym (same j (omega arith)) ∙ there) (omega (arith, begun)) late in
    turn.1 (cc (held, is, next))

-- the ways differ where the first of two different entries begins
apart_at : (xs ys : List Entry) → IsWayList xs → IsWayList ys → (i : ℕ) (x : Entry) (o : Option Entry) → ((k : ℕ) → k < i → slice_get xs k ≡ slice_get ys k) → slice_get xs i ≡ Some x
    → slice_get ys i ≡ o → Some x ≢ o → x.from ≤ begin_or_day o → way_in xs x.from ≢ way_in ys x.from
apart_at xs ys one two i x None same at there other first is =
    still xs ys one two i x same at (late_from ys two i x.from None there (entry_within xs one i x at)) (sym is ∙ in_force xs one i x.from x at (omega arith) (later xs one i x at))
apart_at xs ys one two i x (Some y) same at there other first is =
    let here = in_force xs one i x.from x at (omega arith) (later xs one i x at) in
    elim (cases_lt x.from y.from) [
      | inl lt ↦ still xs ys one two i x same at (late_from ys two i x.from (Some y) there lt) (sym is ∙ here)
      | inr ge ↦
          let from : y.from ≡ x.from = omega (arith, ge, first) in
          let held = in_force ys two i y.from y there (omega arith) (later ys two i y there) in
          let moved : way_in ys x.from ≡ Some y.way = subst (λ (s : ℕ). way_in ys s ≡ Some y.way) from held in
          let way : x.way ≡ y.way = same_Some x.way y.way (sym here ∙ is ∙ moved) in
          other (ap Some (same_entry x y (sym from) way))
    ]

-- two lists part where the first of two different entries begins
part_first : (xs ys : List Entry) → IsWayList xs → IsWayList ys → (i : ℕ) (x : Entry) (o : Option Entry) → ((k : ℕ) → k < i → slice_get xs k ≡ slice_get ys k) → slice_get xs i ≡ Some x
    → slice_get ys i ≡ o → Some x ≢ o → x.from ≤ begin_or_day o → PartAt xs ys x.from
part_first xs ys one two i x o same at there other first =
    let within = entry_within xs one i x at in
    let rest = rest_of_day x.from within in
    record {
      within = within;
      apart = λ is. apart_at xs ys one two i x o same at there other first (subst (λ (s : ℕ). way_in xs s ≡ way_in ys s) rest is);
      before = λ t lt.
          let short = rest_of_day t (omega (arith, lt, within)) in
          let alike = same_before xs ys i t same (late_from xs one i t (Some x) at lt) (late_from ys two i t o there (omega (arith, lt, first))) in
          subst (λ (s : ℕ). way_in xs s ≡ way_in ys s) (sym short) (ap (option_map (λ (entry : Entry). entry.way)) alike);
    }

turned : (xs ys : List Entry) (s : ℕ) → PartAt xs ys s → PartAt ys xs s
turned xs ys s part = record {
  within = part.within;
  apart = λ is. part.apart (sym is);
  before = λ t lt. sym (part.before t lt);
}

-- two way lists part where the earlier of the first two entries that differ begins
pub parted : (xs ys : List Entry) → IsWayList xs → IsWayList ys → (i s : ℕ) (o p : Option Entry) → ((k : ℕ) → k < i → slice_get xs k ≡ slice_get ys k) → slice_get xs i ≡ o
    → slice_get ys i ≡ p → PartBy o p (Some s) → PartAt xs ys s
parted xs ys one two i s None None same at there (other, is) = absurd (other refl)
parted xs ys one two i s (Some x) None same at there (other, is) =
    let within = entry_within xs one i x at in
    let begin : x.from ≡ s = omega (arith, within, is) in
    subst (PartAt xs ys) begin (part_first xs ys one two i x None same at there other (omega (arith, within)))
parted xs ys one two i s None (Some y) same at there (other, is) =
    let within = entry_within ys two i y there in
    let begin : y.from ≡ s = omega (arith, within, is) in
    subst (PartAt xs ys) begin (turned ys xs y.from (part_first ys xs two one i y None (λ k lt. sym (same k lt)) there at (λ e. other (sym e)) (omega (arith, within))))
parted xs ys one two i s (Some x) (Some y) same at there (other, is) =
    elim (cases_lt y.from x.from) [
      | inl lt ↦
          let begin : y.from ≡ s = omega (arith, lt, is) in
          subst (PartAt xs ys) begin (turned ys xs y.from (part_first ys xs two one i y (Some x) (λ k before. sym (same k before)) there at (λ e. other (sym e)) (omega (arith, lt))))
      | inr ge ↦
          let begin : x.from ≡ s = omega (arith, ge, is) in
          subst (PartAt xs ys) begin (part_first xs ys one two i x (Some y) same at there other (omega (arith, ge)))
    ]

-- where both have ended, there is the same entry at each index
pub ended : {A : Type 0} (xs ys : List A) (n : ℕ) → length xs ≤ n → length ys ≤ n → ((k : ℕ) → k < n → slice_get xs k ≡ slice_get ys k) → xs ≡ ys
ended xs ys n one two same =
    same_items xs ys (λ k.
    elim (cases_lt k n) [
      | inl lt ↦ same k lt
      | inr ge ↦ slice_get_past xs k (omega (arith, one, ge)) ∙ sym (slice_get_past ys k (omega (arith, two, ge)))
    ])
