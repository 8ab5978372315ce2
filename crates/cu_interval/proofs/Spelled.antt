-- A way list has one spelling: two lists with the same way at each second of the day are equal.
use Rattle.std.proofs.Common.{◌≡◌, ◌≢◌, ◌≤◌, ◌<◌, ◌+◌, ◌∙◌, ℕ, suc, List, [], ◌∷◌, Option, Some, None, refl, sym, ap, subst, arith, inl, inr, length, get_or}
use Rattle.std.specs.Prelude.{All, slice_get}
use Rattle.std.specs.List.{AllAdjacentBelow}
use Rattle.std.proofs.lemmas.Bool.{cases_order}
use Rattle.cu_interval.specs.declared.ways.Way.{Way}
use Rattle.cu_interval.specs.declared.ways.Entry.{Entry}
use Rattle.std.specs.Option.{option_map}
use Rattle.cu_model.specs.Begun.{Rises, later_of}
use Rattle.cu_model.specs.Days.{day}
use Rattle.cu_model.proofs.Begun.{few_items, gt_test, later_some, le_test}
use Rattle.cu_interval.specs.WayLists.{entry_in, way_in, IsWayList, Turns}

-- the same, said from the front: what is left of a way list, from a least second on
abbrev pub IsSpelledFrom : ℕ → List Entry → Type 0
IsSpelledFrom least [] = Unit {0}
IsSpelledFrom least (e ∷ []) = (least ≤ e.from) × (e.from < day)
IsSpelledFrom least (e ∷ f ∷ es) = (least ≤ e.from) × (e.from < day) × (e.way ≢ f.way) × IsSpelledFrom (suc e.from) (f ∷ es)

pub spelled_from : (least : ℕ) (e : Entry) (es : List Entry) → least ≤ e.from → All (λ (x : Entry). x.from < day) (e ∷ es)
    → AllAdjacentBelow Turns (e ∷ es) (length (e ∷ es)) → IsSpelledFrom least (e ∷ es)
spelled_from least e [] le all turns = (le, all 0 e (omega arith))
spelled_from least e (f ∷ es) le all turns =
    let here = turns 0 e (omega arith) in (
      le,
      all 0 e (omega arith),
      here.1,
      spelled_from (suc e.from) f es (let lt = here.0 in omega (arith, lt)) (λ k d h. all (suc k) d (omega (arith, h)))
          (λ k d h.
          let same : suc k + 1 ≡ suc (k + 1) = omega arith in
          subst (λ (j : ℕ). Turns (get_or (e ∷ f ∷ es) (suc k) d) (get_or (e ∷ f ∷ es) j d)) same (turns (suc k) d (omega (arith, h)))),
    )

pub tail_spelled : (least : ℕ) (e : Entry) (es : List Entry) → IsSpelledFrom least (e ∷ es) → IsSpelledFrom (suc e.from) es
tail_spelled least e [] h = tt
tail_spelled least e (f ∷ es) h = h.3

pub from_day : (least : ℕ) (e : Entry) (es : List Entry) → IsSpelledFrom least (e ∷ es) → (least ≤ e.from) × (e.from < day)
from_day least e [] h = h
from_day least e (f ∷ es) h = (h.0, h.1)

-- no entry is in force before the rest of a list begins
none_before : (least s : ℕ) (es : List Entry) → IsSpelledFrom least es → s < least → entry_in es s ≡ None
none_before least s [] h lt = refl
none_before least s (e ∷ es) h lt =
    let d = from_day least e es h in
    let rest = none_before (suc e.from) s es (tail_spelled least e es h) (omega (arith, d.0)) in
    rw (rest, gt_test e.from s (omega (arith, d.0))) refl

-- the way of an entry that is in force
shown : (es : List Entry) (s : ℕ) (o : Option Entry) → entry_in es s ≡ o → way_in es s ≡ option_map (λ (entry : Entry). entry.way) o
shown es s o e = ap (option_map (λ (entry : Entry). entry.way)) e

here : (least s : ℕ) (e : Entry) (es : List Entry) → IsSpelledFrom least (e ∷ es) → e.from ≤ s → entry_in es s ≡ None → way_in (e ∷ es) s ≡ Some e.way
here least s e es h le none = shown (e ∷ es) s (Some e) (rw (none, le_test e.from s le) refl)

pub head_at : (least : ℕ) (e : Entry) (es : List Entry) → IsSpelledFrom least (e ∷ es) → way_in (e ∷ es) e.from ≡ Some e.way
head_at least e es h = here least e.from e es h (omega arith) (none_before (suc e.from) e.from es (tail_spelled least e es h) (omega arith))

-- before the second entry begins, the first is in force
between : (least s : ℕ) (e g : Entry) (es : List Entry) → IsSpelledFrom least (e ∷ g ∷ es) → e.from ≤ s → s < g.from → way_in (e ∷ g ∷ es) s ≡ Some e.way
between least s e g es h le lt =
    let t = tail_spelled (suc e.from) g es h.3 in
    let rest = none_before (suc g.from) s es t (omega arith) in
    let none : entry_in (g ∷ es) s ≡ None = rw (rest, gt_test g.from s lt) refl in
    here least s e (g ∷ es) h le none

second_of : (x y : Option Entry) (w : Entry) → y ≡ Some w → later_of x y ≡ y
second_of x None w e = cc e
second_of x (Some v) w e = refl

-- from the second entry on, the first says nothing
pub beyond : (s : ℕ) (e g : Entry) (es : List Entry) → g.from ≤ s → way_in (e ∷ g ∷ es) s ≡ way_in (g ∷ es) s
beyond s e g es le =
    let w = later_some g (entry_in es s) in
    let is : entry_in (g ∷ es) s ≡ Some w.0 = rw (le_test g.from s le) w.1 in
    shown (e ∷ g ∷ es) s (entry_in (g ∷ es) s) (second_of _ (entry_in (g ∷ es) s) w.0 is)

pub same_entry : (e f : Entry) → e.from ≡ f.from → e.way ≡ f.way → e ≡ f
same_entry e f a b = ap (λ (n : ℕ). record { from = n; way = e.way }) a ∙ ap (λ (w : Way). record { from = f.from; way = w }) b

-- the way at the first second
first_ways : (k l : ℕ) (e f : Entry) (xs ys : List Entry) → IsSpelledFrom k (e ∷ xs) → IsSpelledFrom l (f ∷ ys) → e.from ≡ f.from
    → ((s : ℕ) → e.from ≤ s → s < day → way_in (e ∷ xs) s ≡ way_in (f ∷ ys) s) → e.way ≡ f.way
first_ways k l e f xs ys a b same agree =
    let p = head_at k e xs a in
    let q = subst (λ (n : ℕ). way_in (f ∷ ys) n ≡ Some f.way) (sym same) (head_at l f ys b) in
    let r = agree e.from (omega arith) (from_day k e xs a).1 in
    cc (p, q, r)

-- the way where the second entry begins
second_way : (k : ℕ) (e g : Entry) (xs : List Entry) → IsSpelledFrom k (e ∷ g ∷ xs) → way_in (e ∷ g ∷ xs) g.from ≡ Some g.way
second_way k e g xs a = beyond g.from e g xs (omega arith) ∙ head_at (suc e.from) g xs a.3

pub one_spelling : (xs ys : List Entry) (k l : ℕ) (e f : Entry) → IsSpelledFrom k (e ∷ xs) → IsSpelledFrom l (f ∷ ys) → e.from ≡ f.from
    → ((s : ℕ) → e.from ≤ s → s < day → way_in (e ∷ xs) s ≡ way_in (f ∷ ys) s)
    → e ∷ xs ≡ f ∷ ys
one_spelling [] [] k l e f a b same agree = ap (λ (x : Entry). x ∷ []) (same_entry e f same (first_ways k l e f [] [] a b same agree))
one_spelling [] (g ∷ ys) k l e f a b same agree =
    let w = first_ways k l e f [] (g ∷ ys) a b same agree in
    let d = from_day (suc f.from) g ys b.3 in
    let p = here k g.from e [] a (omega (arith, d.0, same)) refl in
    let q = second_way l f g ys b in
    let r = agree g.from (omega (arith, d.0, same)) d.1 in
    absurd (b.2 (cc (w, p, q, r)))
one_spelling (g ∷ xs) [] k l e f a b same agree =
    let w = first_ways k l e f (g ∷ xs) [] a b same agree in
    let d = from_day (suc e.from) g xs a.3 in
    let p = here l g.from f [] b (omega (arith, d.0, same)) refl in
    let q = second_way k e g xs a in
    let r = agree g.from (omega (arith, d.0)) d.1 in
    absurd (a.2 (cc (w, p, q, r)))
one_spelling (g ∷ xs) (i ∷ ys) k l e f a b same agree =
    let w = first_ways k l e f (g ∷ xs) (i ∷ ys) a b same agree in
    let d1 = from_day (suc e.from) g xs a.3 in
    let d2 = from_day (suc f.from) i ys b.3 in
    elim (cases_order g.from i.from) [
      | inl eq ↦
          let rest = one_spelling xs ys (suc e.from) (suc f.from) g i a.3 b.3 eq (λ s le lt.
          sym (beyond s e g xs le) ∙ agree s (omega (arith, d1.0, le)) lt ∙ beyond s f i ys (omega (arith, eq, le))) in
          ap (λ (t : List Entry). e ∷ t) rest ∙ ap (λ (x : Entry). x ∷ i ∷ ys) (same_entry e f same w)
      | inr other ↦ elim other [
        | inl less ↦
            let p = second_way k e g xs a in
            let q = between l g.from f i ys b (omega (arith, d1.0, same)) less in
            let r = agree g.from (omega (arith, d1.0)) d1.1 in
            absurd (a.2 (cc (w, p, q, r)))
        | inr more ↦
            let p = second_way l f i ys b in
            let q = between k i.from e g xs a (omega (arith, d2.0, same)) more in
            let r = agree i.from (omega (arith, d2.0, same)) d2.1 in
            absurd (b.2 (cc (w, p, q, r)))
      ]
    ]

spelled : (es : List Entry) (e : Entry) (rest : List Entry) → es ≡ e ∷ rest → IsWayList es → IsSpelledFrom 0 (e ∷ rest) × (e.from ≡ 0)
spelled es e rest same f =
    let g : IsWayList (e ∷ rest) = subst (λ (xs : List Entry). IsWayList xs) same f in
    (spelled_from 0 e rest (omega arith) g.within g.turns, g.begins)

nothing_in_force : (e : Entry) (es : List Entry) → IsSpelledFrom 0 (e ∷ es) → e.from ≡ 0 → way_in (e ∷ es) 0 ≡ None → ⊥
nothing_in_force e es h z none =
    let head : way_in (e ∷ es) 0 ≡ Some e.way = subst (λ (n : ℕ). way_in (e ∷ es) n ≡ Some e.way) z (head_at 0 e es h) in
    cc (head, none)

-- two way lists with the same way at each second of the day are equal
pub same_list : (xs ys : List Entry) → IsWayList xs → IsWayList ys → ((s : ℕ) → s < day → way_in xs s ≡ way_in ys s) → xs ≡ ys
same_list [] [] f g agree = refl
same_list [] (e ∷ ys) f g agree =
    let h = spelled (e ∷ ys) e ys refl g in
    absurd (nothing_in_force e ys h.0 h.1 (sym (agree 0 (omega arith))))
same_list (e ∷ xs) [] f g agree =
    let h = spelled (e ∷ xs) e xs refl f in
    absurd (nothing_in_force e xs h.0 h.1 (agree 0 (omega arith)))
same_list (e ∷ xs) (i ∷ ys) f g agree =
    let h = spelled (e ∷ xs) e xs refl f in
    let j = spelled (i ∷ ys) i ys refl g in
    one_spelling xs ys 0 0 e i h.0 j.0 (h.1 ∙ sym j.1) (λ s le lt. agree s lt)

-- the entries of a way list are from later and later seconds
pub entries_rise : (es : List Entry) → IsWayList es → Rises (λ (entry : Entry). entry.from) es
entries_rise es f = λ k d h. (f.turns k d h).0

-- a way list has no more entries than a day has seconds
pub few_entries : (es : List Entry) → IsWayList es → length es ≤ day
few_entries es f = few_items (λ (entry : Entry). entry.from) day es (entries_rise es f) (λ i d h. f.within i d h)

-- a way list that isn't empty begins at second 0
pub begins_at_zero : (es : List Entry) → IsWayList es → 0 < length es → option_map (λ (entry : Entry). entry.from) (slice_get es 0) ≡ Some 0
begins_at_zero [] f some = absurd (omega (arith, some))
begins_at_zero (e ∷ es) f some = ap Some f.begins
