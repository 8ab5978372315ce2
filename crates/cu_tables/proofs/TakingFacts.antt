-- What a walk through the rows of a table says of what its rows give.
use Rattle.std.proofs.Common.{◌≡◌, ◌∙◌, ℕ, List, [], ◌∷◌, ◌++◌, Option, Some, None, refl, sym, ap, subst}
use Rattle.std.specs.Prelude.{Result, Ok, Err}
use Rattle.std.proofs.lemmas.List.{append-nil}
use Rattle.cu_tables.specs.Checks.{below}
use Rattle.cu_tables.specs.Taking.{Ends, EndsBelow, TakesAll}

-- one more row
pub takes_more : {T : Type 0} (takes : T → List (List ℕ) → T → Type 0) (s m t : T) (rows : List (List (List ℕ))) (row : List (List ℕ))
    → TakesAll takes s rows m → takes m row t → TakesAll takes s (rows ++ (row ∷ [])) t
takes_more takes s m t [] row h k = (t, subst (λ x. takes x row t) h k, refl)
takes_more takes s m t (r ∷ rs) row h k = (h.0, h.1, takes_more takes h.0 m t rs row h.2 k)

-- Of a taker of which this holds, what the rows from one on give is what is given, once that one is taken, for those behind it, or its
-- refusal; and it still holds then.
pub record Follows {T A R : Type 0} (takes : T → List (List ℕ) → T → Type 0) (refuses : T → List (List ℕ) → R → T → Type 0)
    (Holds : T → Type 0) (given : T → List (List (List ℕ)) → Result A R) : Type 0 where
  pub kept : (s : T) (row : List (List ℕ)) (t : T) → takes s row t → Holds s → Holds t
  pub taken : (s : T) (row : List (List ℕ)) (t : T) (rest : List (List (List ℕ))) → takes s row t → Holds s → given s (row ∷ rest) ≡ given t rest
  pub refused : (s : T) (row : List (List ℕ)) (why : R) (t : T) (rest : List (List (List ℕ))) → refuses s row why t → Holds s
      → given s (row ∷ rest) ≡ Err why

-- what rows give whose walk ended so: what is left once all are taken, or the refusal
abbrev pub Leads : {T A R U : Type 0} → Result A R → (T → Type 0) → (T → List (List (List ℕ)) → Result A R) → T → Result U R → Type 0
Leads all Holds given t (Ok done) = (all ≡ given t []) × Holds t
Leads all Holds given t (Err why) = all ≡ Err why

module _ {T A R : Type 0} {takes : T → List (List ℕ) → T → Type 0} {refuses : T → List (List ℕ) → R → T → Type 0} {Holds : T → Type 0}
    {given : T → List (List (List ℕ)) → Result A R} (f : Follows takes refuses Holds given) where
  front_taken : (s t : T) (rows rest : List (List (List ℕ))) → TakesAll takes s rows t → Holds s → (given s (rows ++ rest) ≡ given t rest) × Holds t
  front_taken s t [] rest h k = (ap (λ x. given x rest) (sym h), subst Holds (sym h) k)
  front_taken s t (row ∷ rows) rest h k =
      let more = front_taken h.0 t rows rest h.2 (f.kept s row h.0 h.1 k) in
      (f.taken s row h.0 (rows ++ rest) h.1 k ∙ more.0, more.1)

  pub walked : {U : Type 0} (s t : T) (rows : List (List (List ℕ))) (answer : Result U R) → Holds s → Ends takes refuses s rows t answer → Leads (given s rows) Holds given t answer
  walked s t rows (Ok done) k h = rw (append-nil rows) at (front_taken s t rows [] h k)
  walked s t rows (Err why) k (front, row, rest, m, e, taken, refused) =
      let before = front_taken s m front (row ∷ rest) taken k in
      ap (given s) e ∙ before.0 ∙ f.refused m row why t rest refused before.1

  -- the same of the rows below a header
  pub walked_below : {U : Type 0} (s t : T) (rows : Option (List (List (List ℕ)))) (no_header : R) (answer : Result U R) → Holds s → EndsBelow takes refuses no_header s rows t answer
      → Leads (below no_header (given s) rows) Holds given t answer
  walked_below s t None no_header answer k h = rw h.0 refl
  walked_below s t (Some rows) no_header answer k h = walked s t rows answer k h

-- what holds of the refusal of a table without the header, and of each row's refusal, holds of every refusal
pub refusal_is : {T R U : Type 0} (takes : T → List (List ℕ) → T → Type 0) (refuses : T → List (List ℕ) → R → T → Type 0) (Is : R → Type 0)
    → ((s : T) (row : List (List ℕ)) (why : R) (t : T) → refuses s row why t → Is why) → (no_header : R) → Is no_header
    → (s t : T) (rows : Option (List (List (List ℕ)))) (answer : Result U R) (why : R) → answer ≡ Err why → EndsBelow takes refuses no_header s rows t answer → Is why
refusal_is takes refuses Is each no_header header s t None answer why e h = let same : why ≡ no_header = cc (e, h.0) in rw same header
refusal_is takes refuses Is each no_header header s t (Some rows) answer why e h =
    let (front, row, rest, m, all, taken, refused) = rw e at h in
    each m row why t refused
