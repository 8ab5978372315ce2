-- A function has one day form, and functions that are the same at each second of the day have the same.
use Rattle.std.proofs.Common.{◌≡◌, ◌≢◌, ◌≤◌, ◌<◌, ◌+◌, ◌∙◌, ◌++◌, ℕ, zero, suc, List, [], ◌∷◌, Bool, true, false, refl, sym, ap, subst, arith, inl, inr, ◌⊎◌}
use Rattle.std.specs.Prelude.{◌-◌, ◌==◌, ◌||◌, not, if◌then◌else◌}
use Rattle.std.proofs.lemmas.Bool.{cases_order, cases_lt, eqb-false}
use Rattle.cu_model.specs.declared.profiles.Piece.{Piece}
use Rattle.cu_model.specs.declared.profiles.Rule.{Rule}
use Rattle.cu_model.specs.declared.profiles.Rule.TheVariants.{Travel, Until}
use Rattle.cu_model.specs.Days.{day}
use Rattle.cu_model.specs.Profiles.{rule_value}
use Rattle.cu_model.specs.DayForms.{IsDayForm, IsFormFrom, IsFormPiece, IsFormUntil, IsKept, rule_from}

-- two functions are the same at each second of the day
abbrev pub AreSame : (ℕ → ℕ) → (ℕ → ℕ) → Type 0
AreSame f g = (t : ℕ) → t < day → f t ≡ g t

same_piece : (p q : Piece) → p.from ≡ q.from → p.rule ≡ q.rule → p ≡ q
same_piece p q a b = ap (λ (n : ℕ). record { from = n; rule = p.rule }) a ∙ ap (λ (r : Rule). record { from = q.from; rule = r }) b

before_last : (s : ℕ) → s < day → (s + 1 == day) ≡ false → s + 1 < day
before_last s lt h = elim (cases_order (s + 1) day) [
  | inl eq ↦ absurd (eqb-false (s + 1) day h eq)
  | inr order ↦ elim order [
    | inl less ↦ less
    | inr more ↦ absurd (omega (arith, more, lt))
  ]
]

-- the same rule begins at a second by functions that are the same there and, but at the last second, one second later
rule_by : (last : Bool) (a b c d s : ℕ) → a ≡ c → (last ≡ false → b ≡ d)
    → (if last || not (b == a) then Travel (a - s) else Until a) ≡ (if last || not (d == c) then Travel (c - s) else Until c)
rule_by true a b c d s e k = ap (λ (x : ℕ). Travel (x - s)) e
rule_by false a b c d s e k = let h = k refl in ap (λ (x : ℕ). if not (b == x) then Travel (x - s) else Until x) e ∙ ap (λ (y : ℕ). if not (y == c) then Travel (c - s) else Until c) h

pub same_rule : (f g : ℕ → ℕ) (s : ℕ) → AreSame f g → s < day → rule_from f s ≡ rule_from g s
same_rule f g s same lt = rule_by (s + 1 == day) (f s) (f (s + 1)) (g s) (g (s + 1)) s (same s lt) (λ h. same (s + 1) (before_last s lt h))

-- a piece ends no later than another of the same rule from the same second
no_later : (f g : ℕ → ℕ) (p q : Piece) (end other : ℕ) → AreSame f g → p.from ≡ q.from → p.rule ≡ q.rule → IsFormPiece f p end → IsFormPiece g q other → other ≤ end
no_later f g p q end other same from rule a b =
    elim (cases_order end other) [
      | inl eq ↦ omega (arith, eq)
      | inr order ↦ elim order [
        | inl less ↦ elim a.longest [
          | inl over ↦ absurd (omega (arith, over, less, b.within))
          | inr differs ↦
              let there = b.kept end (omega (arith, from, a.some)) less in
              absurd (differs (same end (omega (arith, less, b.within)) ∙ there ∙ ap (λ (r : Rule). rule_value r 0 end) (sym rule)))
        ]
        | inr more ↦ omega (arith, more)
      ]
    ]

pub same_forms : (f g : ℕ → ℕ) (from : ℕ) (ps qs : List Piece) → AreSame f g → IsFormFrom f from ps → IsFormFrom g from qs → ps ≡ qs
same_forms f g from [] [] same a b = refl
same_forms f g from [] (q ∷ qs) same a b = absurd (omega (arith, a, b.0, b.2.some, b.2.within))
same_forms f g from (p ∷ ps) [] same a b = absurd (omega (arith, b, a.0, a.2.some, a.2.within))
same_forms f g from (p ∷ ps) (q ∷ qs) same a b =
    let begins : p.from ≡ q.from = a.0 ∙ sym b.0 in
    let lt : p.from < day = omega (arith, a.2.some, a.2.within) in
    let rule : p.rule ≡ q.rule = a.2.rule ∙ same_rule f g p.from same lt ∙ ap (rule_from g) begins ∙ sym b.2.rule in
    let e1 = no_later f g p q a.1 b.1 same begins rule a.2 b.2 in
    let e2 = no_later g f q p b.1 a.1 (λ t h. sym (same t h)) (sym begins) (sym rule) b.2 a.2 in
    let ends : a.1 ≡ b.1 = omega (arith, e1, e2) in
    let rest = same_forms f g b.1 ps qs same (subst (λ (n : ℕ). IsFormFrom f n ps) ends a.3) b.3 in
    ap (λ (xs : List Piece). p ∷ xs) rest ∙ ap (λ (x : Piece). x ∷ qs) (same_piece p q begins rule)

pub same_form : (f g : ℕ → ℕ) (ps qs : List Piece) → AreSame f g → IsDayForm f ps → IsDayForm g qs → ps ≡ qs
same_form f g ps qs same a b = same_forms f g 0 ps qs same a b

-- the second before which a rule that is kept up to a second is kept longest
longest : (f : ℕ → ℕ) (rule : Rule) (left from end : ℕ) → end + left ≡ day → IsKept f rule from end
    → (last : ℕ) × (end ≤ last) × (last ≤ day) × IsKept f rule from last × ((last ≡ day) ⊎ (f last ≢ rule_value rule 0 last))
longest f rule zero from end over kept = (end, omega arith, omega (arith, over), kept, inl (omega (arith, over)))
longest f rule (suc left) from end over kept =
    elim (cases_order (f end) (rule_value rule 0 end)) [
      | inl eq ↦
          let more = longest f rule left from (end + 1) (omega (arith, over)) (λ t a b. elim (cases_lt t end) [
            | inl before ↦ kept t a before
            | inr there ↦ let here : t ≡ end = omega (arith, b, there) in subst (λ (n : ℕ). f n ≡ rule_value rule 0 n) (sym here) eq
          ]) in
          (more.0, omega (arith, more.1), more.2, more.3, more.4)
      | inr order ↦ (
        end,
        omega arith,
        omega (arith, over),
        kept,
        inr (λ e. elim order [
          | inl less ↦ omega (arith, less, e)
          | inr above ↦ omega (arith, above, e)
        ]),
      )
    ]

-- the rule that begins at a second is kept there
begins_kept : (f : ℕ → ℕ) (s : ℕ) → s ≤ f s → f s ≡ rule_value (rule_from f s) 0 s
begins_kept f s le = by_test ((s + 1 == day) || not (f (s + 1) == f s)) where
  by_test : (test : Bool) → f s ≡ rule_value (if test then Travel (f s - s) else Until (f s)) 0 s
  by_test true = omega (arith, le)
  by_test false = omega arith

pub has_forms : (f : ℕ → ℕ) (fuel from : ℕ) → ((t : ℕ) → t < day → t ≤ f t) → from ≤ day → day ≤ from + fuel → (pieces : List Piece) × IsFormFrom f from pieces
has_forms f zero from onward le few = ([], omega (arith, le, few))
has_forms f (suc fuel) from onward le few =
    elim (cases_lt from day) [
      | inr over ↦ ([], omega (arith, le, over))
      | inl lt ↦
          let rule = rule_from f from in
          let first : IsKept f rule from (from + 1) = λ t a b. let here : t ≡ from = omega (arith, a, b) in
          subst (λ (n : ℕ). f n ≡ rule_value rule 0 n) (sym here) (begins_kept f from (onward from lt)) in
          let end = longest f rule (day - (from + 1)) from (from + 1) (omega (arith, lt)) first in
          let rest = has_forms f fuel end.0 onward end.2 (omega (arith, few, end.1)) in
          let some : from < end.0 = omega (arith, end.1) in (
            (record { from = from; rule = rule }) ∷ rest.0,
            (
              refl,
              end.0,
              record { rule = refl; some = some; within = end.2; kept = end.3; longest = end.4 },
              rest.1,
            ),
          )
    ]

-- each function that is onward has a day form
pub has_form : (f : ℕ → ℕ) → ((t : ℕ) → t < day → t ≤ f t) → (pieces : List Piece) × IsDayForm f pieces
has_form f onward = has_forms f day 0 onward (omega arith) (omega arith)

-- one more piece
pub until_more : (f : ℕ → ℕ) (from last end : ℕ) (done : List Piece) (piece : Piece) → IsFormUntil f from done last → piece.from ≡ last → IsFormPiece f piece end
    → IsFormUntil f from (done ++ (piece ∷ [])) end
until_more f from last end [] piece is begins here = (begins ∙ sym is, end, here, refl)
until_more f from last end (p ∷ done) piece is begins here = (is.0, is.1, is.2, until_more f is.1 last end done piece is.3 begins here)

-- all pieces
pub until_from : (f : ℕ → ℕ) (from last : ℕ) (done rest : List Piece) → IsFormUntil f from done last → IsFormFrom f last rest → IsFormFrom f from (done ++ rest)
until_from f from last [] rest is more = subst (λ (n : ℕ). IsFormFrom f n rest) (sym is) more
until_from f from last (p ∷ done) rest is more = (is.0, is.1, is.2, until_from f is.1 last done rest is.3 more)
