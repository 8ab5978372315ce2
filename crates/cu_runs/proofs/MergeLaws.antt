-- Merging a candidate: what the old list says, and what a further run adds to the new one.
use Rattle.std.proofs.Common.{◌≡◌, ◌≤◌, ◌<◌, ◌+◌, ◌-◌, ◌++◌, ◌∙◌, Bool, ℕ, zero, suc, List, [], ◌∷◌, Some, refl, sym, ap, subst, arith, inl, inr, length, get_or, true, false}
use Rattle.std.specs.Prelude.{slice_get, nat_lt, if◌then◌else◌}
use Rattle.std.specs.List.{zip}
use Rattle.std.proofs.lemmas.Bool.{cases_lt}
use Rattle.std.proofs.lemmas.Bool.Decides.{nat_tests}
use Rattle.std.proofs.lemmas.Option.{get_or_from_slice_get, slice_get_within, slice_get-get_or}
use Rattle.std.proofs.lemmas.Slice.Zip.{length-zip, get_or-zip}
use Rattle.cu_model.specs.Begun.{Rises}
use Rattle.cu_model.proofs.Begun.{begun_until}
use Rattle.cu_arrival.specs.declared.runs.Run.{Run}
use Rattle.cu_arrival.specs.declared.runs.RunRule.{RunRule}
use Rattle.cu_arrival.specs.Runs.{arrives}
use Rattle.cu_model.proofs.Tiling.{IsTiled, tiled_push, tiled_keep}
use Rattle.cu_runs.specs.declared.merging.Least.{Least}
use Rattle.cu_runs.specs.declared.merging.Next.{Next}
use Rattle.cu_runs.specs.Least.{Held, held_from, held_at, least_arrival, least_way, tie_with}
use Rattle.cu_runs.specs.Steps.Merging.{least_held, next_held, IsHeld, IsMerging, SaysMerged, Merges, Puts}

-- what an index reads is there
pub read_there : {A : Type 0} (xs : List A) (i : ℕ) (r : A) → i < length xs → r ≡ get_or xs i r → slice_get xs i ≡ Some r
read_there xs i r inside same = slice_get-get_or xs i r inside ∙ ap Some (sym same)

-- two lists of one length that each get a further item
pub zip_push : {A B : Type 0} (xs : List A) (ys : List B) (x : A) (y : B) → length ys ≡ length xs → zip (xs ++ x ∷ []) (ys ++ y ∷ []) ≡ zip xs ys ++ (x, y) ∷ []
zip_push [] [] x y e = refl
zip_push [] (b ∷ ys) x y e = absurd (omega (arith, e))
zip_push (a ∷ xs) [] x y e = absurd (omega (arith, e))
zip_push (a ∷ xs) (b ∷ ys) x y e = let rest = zip_push xs ys x y (omega (arith, e)) in rw rest refl

pub zip_there : {A B : Type 0} (xs : List A) (ys : List B) (i : ℕ) (x : A) (y : B) → slice_get xs i ≡ Some x → slice_get ys i ≡ Some y → slice_get (zip xs ys) i ≡ Some (x, y)
zip_there [] ys i x y e f = absurd (cc e)
zip_there (a ∷ xs) [] i x y e f = absurd (cc f)
zip_there (a ∷ xs) (b ∷ ys) zero x y e f = let same_x : a ≡ x = cc e in let same_y : b ≡ y = cc f in rw (same_x, same_y) refl
zip_there (a ∷ xs) (b ∷ ys) (suc i) x y e f = zip_there xs ys i x y e f

pub length_zip : {A B : Type 0} (xs : List A) (ys : List B) → length ys ≡ length xs → length (zip xs ys) ≡ length xs
length_zip xs ys e = let size = length-zip xs ys in omega (arith, size, e)

-- the pairs begin when the runs do
pub zip_rises : (xs : List Run) (ys : List ℕ) → length ys ≡ length xs → Rises (λ (run : Run). run.from) xs → Rises held_from (zip xs ys)
zip_rises xs ys e rises k d h =
    let size = length_zip xs ys e in
    let left = get_or-zip xs ys k d (omega (arith, size, h)) (omega (arith, size, h, e)) in
    let right = get_or-zip xs ys (k + 1) d (omega (arith, size, h)) (omega (arith, size, h, e)) in
    rw (left, right) (rises k d.0 (omega (arith, size, h)))

-- what the old list says of a second at which a run is in force
pub old_at : (l : Least) (i s : ℕ) (run next : Run) (way : ℕ) → IsHeld l → slice_get l.packed.items i ≡ Some run → slice_get l.packed.items (i + 1) ≡ Some next
    → slice_get l.ways.items i ≡ Some way → run.from ≤ s → s < next.from → held_at (least_held l) s ≡ Some (run, way)
old_at l i s run next way is there after beside begun before =
    let packed = l.packed.items in
    let ways = l.ways.items in
    let size = length_zip packed ways is.even in
    let d : Held = (run, way) in
    let inside : i + 1 < length packed = slice_get_within packed (i + 1) next after in
    let here : get_or (zip packed ways) i d ≡ d = get_or_from_slice_get (zip packed ways) i d d (zip_there packed ways i run way there beside) in
    let follows : get_or (zip packed ways) (i + 1) d ≡ (get_or packed (i + 1) run, get_or ways (i + 1) way) = get_or-zip packed ways (i + 1) d inside (omega (arith, inside, is.even)) in
    let same : get_or packed (i + 1) run ≡ next = get_or_from_slice_get packed (i + 1) next run after in
    let from_next : held_from (get_or (zip packed ways) (i + 1) d) ≡ next.from = ap held_from follows ∙ ap (λ (r : Run). r.from) same in
    let from_here : held_from (get_or (zip packed ways) i d) ≡ run.from = ap held_from here in
    let step : i + 1 ≡ suc i = omega arith in
    let until : s < held_from (get_or (zip packed ways) (suc i) d) = subst (λ (k : ℕ). s < held_from (get_or (zip packed ways) k d)) step (omega (arith, from_next, before)) in
    begun_until held_from (zip packed ways) (zip_rises packed ways is.even is.over_day.rises) d i s (omega (arith, inside, size)) (omega (arith, from_here, begun)) (λ within. until) ∙ ap Some here

-- a way stands beside each run
pub way_beside : (l : Least) (i : ℕ) (run : Run) → IsHeld l → slice_get l.packed.items i ≡ Some run → (way : ℕ) × (slice_get l.ways.items i ≡ Some way)
way_beside l i run is there =
    let inside = slice_get_within l.packed.items i run there in
    (get_or l.ways.items i 0, slice_get-get_or l.ways.items i 0 (omega (arith, inside, is.even)))

pub not_below : (a b : ℕ) → b ≤ a → nat_lt a b ≡ false
not_below a b h = grind (arith, nat_tests)

below : (a b : ℕ) → a < b → nat_lt a b ≡ true
below a b h = grind (arith, nat_tests)

one_at_most : (b : Bool) → (if b then 1 else 0) ≤ 1
one_at_most true = omega arith
one_at_most false = omega arith

-- a tie is worth a second at most
pub tie_at_most : (held : List Held) (way s : ℕ) → tie_with held way s ≤ 1
tie_at_most held way s = one_at_most (nat_lt way (least_way held s))

-- a run of the old list says what is the least where the candidate is no earlier, nor as early under a lower number
pub says_old : (l : Least) (arrival : ℕ → ℕ) (way : ℕ) (s : ℕ) (run copy : Run) (w : ℕ) → held_at (least_held l) s ≡ Some (run, w)
    → least_arrival (least_held l) s + tie_with (least_held l) way s ≤ arrival s → copy.rule ≡ run.rule → SaysMerged l arrival way (copy, w) s
says_old l arrival way s run copy w here later same =
    let value : least_arrival (least_held l) s ≡ arrives run.rule s = rw here refl in
    let chosen : least_way (least_held l) s ≡ w = rw here refl in
    let test = not_below (arrival s) (least_arrival (least_held l) s + tie_with (least_held l) way s) later in
    (ap (λ (r : RunRule). arrives r s) same ∙ sym value ∙ (omega (arith, later)), rw test (sym chosen))

-- the candidate's run says it where that is earlier, or as early under a lower number
pub says_won : (l : Least) (arrival : ℕ → ℕ) (way s : ℕ) (run copy : Run) → arrival s ≡ arrives run.rule s
    → arrives run.rule s < least_arrival (least_held l) s + tie_with (least_held l) way s → copy.rule ≡ run.rule → SaysMerged l arrival way (copy, way) s
says_won l arrival way s run copy here earlier same =
    let tie = tie_at_most (least_held l) way s in
    let test = below (arrival s) (least_arrival (least_held l) s + tie_with (least_held l) way s) (omega (arith, here, earlier)) in
    (ap (λ (r : RunRule). arrives r s) same ∙ sym here ∙ (omega (arith, here, earlier, tie)), rw test refl)

-- a run that is put behind the others, or says what the last one says
pub tiled_put : (l : Least) (arrival : ℕ → ℕ) (way : ℕ) (old new : List Held) (x : Held) (t end : ℕ) → IsTiled held_from (SaysMerged l arrival way) old t → Puts old x new
    → x.0.from ≡ t → t < end → ((s : ℕ) → t ≤ s → s < end → SaysMerged l arrival way x s) → IsTiled held_from (SaysMerged l arrival way) new end
tiled_put l arrival way old new x t end tiled (inl kept) at more says =
    let (y, last, rule, number, same) = kept in
    let said = λ (s : ℕ) (late : t ≤ s) (early : s < end).
    let x_says = says s late early in
    let y_says : SaysMerged l arrival way y s = (ap (λ (r : RunRule). arrives r s) rule ∙ x_says.0, number ∙ x_says.1) in y_says in
    subst (λ (hs : List Held). IsTiled held_from (SaysMerged l arrival way) hs end) (sym same) (tiled_keep held_from (SaysMerged l arrival way) old t end y tiled last (omega (arith, more)) said)
tiled_put l arrival way old new x t end tiled (inr pushed) at more says =
    subst (λ (hs : List Held). IsTiled held_from (SaysMerged l arrival way) hs end) (sym pushed) (tiled_push held_from (SaysMerged l arrival way) old t end x tiled at more says)

-- where the candidate doesn't win for a while, nothing is to be done
pub merging_later : (l : Least) (arrival : ℕ → ℕ) (way : ℕ) (n : Next) (t u : ℕ) → IsMerging l arrival way n t → t ≤ u
    → ((s : ℕ) → t ≤ s → s < u → least_arrival (least_held l) s + tie_with (least_held l) way s ≤ arrival s) → IsMerging l arrival way n u
merging_later l arrival way n t u is more later = record {
  order = omega (arith, is.order, more);
  merged = is.merged;
  held = λ s late early. elim (cases_lt s t) [ inl lt ↦ is.held s late lt | inr ge ↦ later s ge early ];
}

-- the last item says the same
pub put_none : (n : Next) (run last : Run) (way beside count : ℕ) → length n.ways.items ≡ length n.packed.items → count ≡ length n.packed.items → 0 < count
    → last ≡ get_or n.packed.items (count - 1) last → beside ≡ get_or n.ways.items (count - 1) beside → last.rule ≡ run.rule → beside ≡ way
    → Puts (next_held n) (run, way) (next_held n)
put_none n run last way beside count even is_count some is_last is_beside rule same =
    let packed = n.packed.items in
    let ways = n.ways.items in
    let there = zip_there packed ways (count - 1) last beside (read_there packed (count - 1) last (omega (arith, is_count, some)) is_last)
    (read_there ways (count - 1) beside (omega (arith, is_count, some, even)) is_beside) in
    let size = length_zip packed ways even in
    let place : count - 1 ≡ length (zip packed ways) - 1 = omega (arith, size, is_count) in
    inl ((last, beside), subst (λ (i : ℕ). slice_get (zip packed ways) i ≡ Some (last, beside)) place there, rule, same, refl)

-- it is put behind the others
pub put_one : (n m : Next) (run : Run) (way : ℕ) → length n.ways.items ≡ length n.packed.items → m.packed.items ≡ n.packed.items ++ run ∷ [] → m.ways.items ≡ n.ways.items ++ way ∷ []
    → Puts (next_held n) (run, way) (next_held m)
put_one n m run way even packed ways =
    let both : next_held m ≡ zip (n.packed.items ++ run ∷ []) (n.ways.items ++ way ∷ []) = rw (packed, ways) refl in
    inr (both ∙ zip_push n.packed.items n.ways.items run way even)

-- a candidate's run from `from` to `until`
pub won : (l : Least) (way : ℕ) (old mid new : Next) (from until : ℕ) (run copy : Run) → from < until
    → ((s : ℕ) → from ≤ s → s < until → arrives run.rule s < least_arrival (least_held l) s + tie_with (least_held l) way s)
    → mid.done ≡ from → new.done ≡ until → copy.from ≡ from → copy.rule ≡ run.rule
    → ((arrival : ℕ → ℕ) (w : ℕ) → IsMerging l arrival w old from → IsMerging l arrival w mid from) → Puts (next_held mid) (copy, way) (next_held new)
    → Merges l from until (arrives run.rule) way old new
won l way old mid new from until run copy some earlier at_from at_until begins same copied puts arrival here merging =
    let before = copied arrival way merging in
    let tiled : IsTiled held_from (SaysMerged l arrival way) (next_held mid) from = subst (λ (t : ℕ). IsTiled held_from (SaysMerged l arrival way) (next_held mid) t) at_from before.merged in
    let longer = tiled_put l arrival way (next_held mid) (next_held new) (copy, way) from until tiled puts begins some
    (λ s late early. says_won l arrival way s run copy (here s late early) (earlier s late early) same) in
    record {
      order = omega (arith, at_until);
      merged = subst (λ (t : ℕ). IsTiled held_from (SaysMerged l arrival way) (next_held new) t) (sym at_until) longer;
      held = λ s late early. absurd (omega (arith, late, early, at_until));
    }
