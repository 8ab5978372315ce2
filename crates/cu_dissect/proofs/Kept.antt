-- Members of what a test keeps of a list.
use Rattle.std.proofs.Common.{◌≡◌, List, [], ◌∷◌, Bool, true, false, cond, sym, subst, inl, inr}
use Rattle.std.specs.List.{Contains, filter}
use Rattle.std.proofs.lemmas.Bool.{cases_Bool}
use Rattle.std.proofs.lemmas.List.Elements.{All-contains, All-contains_itself, All-filter, filter_passes}
use Rattle.cu_chordal.proofs.Members.{here, member_cases, none_in_nil, there}

pub kept_member : {X : Type 0} (p : X → Bool) (xs : List X) (x : X) → Contains (filter p xs) x → Contains xs x
kept_member p xs x c = All-contains (Contains xs) (filter p xs) x (All-filter p (Contains xs) xs (All-contains_itself xs)) c

pub kept_passes : {X : Type 0} (p : X → Bool) (xs : List X) (x : X) → Contains (filter p xs) x → p x ≡ true
kept_passes {X} p xs x c = All-contains (λ (y : X). p y ≡ true) (filter p xs) x (filter_passes p xs) c

pub is_kept : {X : Type 0} (p : X → Bool) (xs : List X) (x : X) → Contains xs x → p x ≡ true → Contains (filter p xs) x
is_kept p [] x c passes = absurd (none_in_nil x c)
is_kept {X} p (y ∷ xs) x c passes =
    elim (cases_Bool (p y)) [
      | inl passes_y ↦
          subst (λ (b : Bool). Contains (cond b (y ∷ filter p xs) (filter p xs)) x) (sym passes_y)
          (elim (member_cases y xs x c) [
            | inl same ↦ subst (λ (z : X). Contains (z ∷ filter p xs) x) (sym same) (here x (filter p xs))
            | inr later ↦ there y (filter p xs) x (is_kept p xs x later passes)
          ])
      | inr fails_y ↦
          subst (λ (b : Bool). Contains (cond b (y ∷ filter p xs) (filter p xs)) x) (sym fails_y)
          (elim (member_cases y xs x c) [
            | inl same ↦ let off : p x ≡ false = subst (λ (z : X). p z ≡ false) same fails_y in absurd (cc (off, passes))
            | inr later ↦ is_kept p xs x later passes
          ])
    ]
