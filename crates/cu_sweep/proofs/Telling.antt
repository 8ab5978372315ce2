-- Calls that are told one after another, and the first of them whose walk is too long.
use Rattle.std.proofs.Common.{◌≡◌, ◌≤◌, ◌+◌, ◌^◌, ◌∙◌, ℕ, List, [], ◌∷◌, ◌++◌, Option, Some, None, refl, sym, ap, subst, append_assoc}
use Rattle.std.proofs.lemmas.List.{append-nil}
use Rattle.cu_interval.specs.declared.relaxing.Call.{Call}
use Rattle.cu_interval.specs.declared.relaxing.Relaxed.{Relaxed}
use Rattle.cu_interval.specs.declared.relaxing.Relaxed.TheVariants.{At, NoWay, Long}
use Rattle.cu_interval.specs.Calls.{Adds, IfAt}
use Rattle.cu_interval.specs.Hierarchies.{HierarchyValue}
use Rattle.cu_sweep.specs.Sweeps.{AddsAll, answered, ended_by, first_long, long_or, until_long}
use Rattle.cu_sweep.specs.Swept.{Makes}

pub adds_none : (a : Option (List Call)) → AddsAll a a []
adds_none None = tt
adds_none (Some told) = (told, refl, sym (append-nil told))

pub adds_one : (a b : Option (List Call)) (call : Call) → Adds a b call → AddsAll a b (call ∷ [])
adds_one a None call h = tt
adds_one a (Some told) call h = h

pub adds_then : (a b c : Option (List Call)) (xs ys : List Call) → AddsAll a b xs → AddsAll b c ys → AddsAll a c (xs ++ ys)
adds_then a b None xs ys h k = tt
adds_then a None (Some after) xs ys h k = absurd (cc k.1)
adds_then a (Some mid) (Some after) xs ys h k =
    let same : mid ≡ k.0 = cc k.1 in
    (h.0, h.1, k.2 ∙ ap (λ (t : List Call). t ++ ys) (sym same ∙ h.2) ∙ append_assoc h.0 xs ys)

-- what comes before a first call whose walk is too long is told whole
until_step : (r : Relaxed) (call : Call) (rest more : List Call) (long : Option Call) → long_or r call long ≡ None → rest ≡ more → ended_by r call rest ≡ call ∷ more
until_step (At t) call rest more long e h = ap (λ (xs : List Call). call ∷ xs) h
until_step NoWay call rest more long e h = ap (λ (xs : List Call). call ∷ xs) h
until_step Long call rest more long e h = absurd (cc e)

long_rest : (r : Relaxed) (call : Call) (long : Option Call) → long_or r call long ≡ None → long ≡ None
long_rest (At t) call long e = e
long_rest NoWay call long e = e
long_rest Long call long e = absurd (cc e)

pub until_before : (h : HierarchyValue) (xs ys : List Call) → first_long h xs ≡ None → until_long h (xs ++ ys) ≡ xs ++ until_long h ys
until_before h [] ys e = refl
until_before h (x ∷ xs) ys e =
    until_step (answered h x) x (until_long h (xs ++ ys)) (xs ++ until_long h ys) (first_long h xs) e (until_before h xs ys (long_rest (answered h x) x (first_long h xs) e))

pub until_none : (h : HierarchyValue) (xs : List Call) → first_long h xs ≡ None → until_long h xs ≡ xs
until_none h [] e = refl
until_none h (x ∷ xs) e = until_step (answered h x) x (until_long h xs) xs (first_long h xs) e (until_none h xs (long_rest (answered h x) x (first_long h xs) e))

long_same : (r : Relaxed) (call : Call) (long more : Option Call) → long_or r call long ≡ None → more ≡ more → long_or r call more ≡ more
long_same (At t) call long more e h = refl
long_same NoWay call long more e h = refl
long_same Long call long more e h = absurd (cc e)

pub first_before : (h : HierarchyValue) (xs ys : List Call) → first_long h xs ≡ None → first_long h (xs ++ ys) ≡ first_long h ys
first_before h [] ys e = refl
first_before h (x ∷ xs) ys e =
    long_same (answered h x) x (first_long h xs) (first_long h (xs ++ ys)) e refl
    ∙ first_before h xs ys (long_rest (answered h x) x (first_long h xs) e)

-- nothing is told after it
long_found : (r : Relaxed) (x call : Call) (long more : Option Call) (rest back : List Call) → long_or r x long ≡ Some call
    → (long ≡ Some call → (more ≡ Some call) × (back ≡ rest)) → (long_or r x more ≡ Some call) × (ended_by r x back ≡ ended_by r x rest)
long_found (At t) x call long more rest back e h = let k = h e in (k.0, ap (λ (xs : List Call). x ∷ xs) k.1)
long_found NoWay x call long more rest back e h = let k = h e in (k.0, ap (λ (xs : List Call). x ∷ xs) k.1)
long_found Long x call long more rest back e h = (e, refl)

pub long_ends : (h : HierarchyValue) (xs ys : List Call) (call : Call) → first_long h xs ≡ Some call
    → (first_long h (xs ++ ys) ≡ Some call) × (until_long h (xs ++ ys) ≡ until_long h xs)
long_ends h [] ys call e = absurd (cc e)
long_ends h (x ∷ xs) ys call e =
    long_found (answered h x) x call (first_long h xs) (first_long h (xs ++ ys)) (until_long h xs) (until_long h (xs ++ ys)) e (λ f. long_ends h xs ys call f)

module _ (h : HierarchyValue) (a b : Option (List Call)) (first last : List Call) where
  -- calls that ended with one whose walk is too long, before others
  pub makes_ends : (call : Call) → Makes h first a b (Some call) → Makes h (first ++ last) a b (Some call)
  makes_ends call made =
      let ends = long_ends h first last call (sym made.ended) in
      record { ended = sym ends.0; told = subst (AddsAll a b) (sym ends.1) made.told }

  -- calls that are all made, and others after them
  pub makes_then : (c : Option (List Call)) (long : Option Call) → Makes h first a b None → Makes h last b c long → Makes h (first ++ last) a c long
  makes_then c long made more = record {
    ended = more.ended ∙ sym (first_before h first last (sym made.ended));
    told = subst (AddsAll a c) (sym (until_before h first last (sym made.ended)))
        (adds_then a b c first (until_long h last) (subst (AddsAll a b) (until_none h first (sym made.ended)) made.told) more.told);
  }

pub no_later : (r : Relaxed) (at : ℕ) → IfAt r (λ (arrival : ℕ). (at ≤ arrival) × (arrival ≤ at + 2 ^ 38)) → IfAt r (λ (arrival : ℕ). arrival ≤ at + 2 ^ 38)
no_later (At arrival) at h = h.1
no_later NoWay at h = tt
no_later Long at h = tt
