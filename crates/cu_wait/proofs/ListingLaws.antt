-- Pieces listed stretch by stretch are those of the day form.
use Rattle.std.proofs.Common.{◌≡◌, ◌≢◌, ◌≤◌, ◌<◌, ◌+◌, ◌∙◌, ◌⊎◌, ◌++◌, ◌∷◌, [], ℕ, List, refl, sym, ap, subst, arith, inl, inr}
use Rattle.std.proofs.lemmas.Bool.{cases_lt}
use Rattle.std.proofs.lemmas.List.{append-nil}
use Rattle.cu_model.specs.Days.{day}
use Rattle.cu_model.specs.DayForms.{IsDayForm, IsFormPiece, IsFormUntil}
use Rattle.cu_model.specs.Profiles.{rule_value}
use Rattle.cu_model.specs.declared.profiles.Piece.{Piece}
use Rattle.cu_model.proofs.FormLaws.{until_from, until_more}
use Rattle.cu_wait.specs.declared.stretches.Course.{Course}
use Rattle.cu_wait.specs.declared.stretches.Course.TheVariants.{Rises, Stays}
use Rattle.cu_wait.specs.declared.stretches.OpenPiece.{OpenPiece}
use Rattle.cu_wait.specs.declared.stretches.Stretch.{Stretch}
use Rattle.cu_wait.specs.Steps.Listed.{Goes, IsOpen, IsSettled, IsStretch, course_value, piece_of, rule_by}

-- what a course says is what its rule says
pub rule_says : (course : Course) (from arrival t : ℕ) → from ≤ arrival → from ≤ t → rule_value (rule_by course from arrival) 0 t ≡ course_value course from arrival t
rule_says Rises from arrival t onward le = omega (arith, onward, le)
rule_says Stays from arrival t onward le = omega arith

-- at its first second a course says the arrival
pub at_once : (course : Course) (from arrival : ℕ) → course_value course from arrival from ≡ arrival
at_once Rises from arrival = omega arith
at_once Stays from arrival = refl

-- a settled piece that its function leaves at a second is one of the day form
pub form_piece : (f : ℕ → ℕ) (piece : OpenPiece) (end : ℕ) → IsOpen piece → piece.from < end → end ≤ day → IsSettled f piece end
    → (end ≡ day) ⊎ (f end ≢ course_value piece.course piece.from piece.arrival end) → IsFormPiece f (piece_of piece) end
form_piece f piece end sound some within settled leaves = record {
  rule = settled.rule;
  some = some;
  within = within;
  kept = λ t le lt. settled.goes t le lt ∙ sym (rule_says piece.course piece.from piece.arrival t sound.onward le);
  longest = elim leaves [
    | inl over ↦ inl over
    | inr differs ↦ inr (λ e. differs (e ∙ rule_says piece.course piece.from piece.arrival end sound.onward (omega (arith, some))))
  ];
}

-- a course that says the same as another at two seconds on end is the same
pub same_course : (one other : Course) (from arrival second there : ℕ) → from ≤ second → course_value one from arrival second ≡ there
    → course_value one from arrival (second + 1) ≡ course_value other second there (second + 1) → one ≡ other
same_course Rises Rises from arrival second there le is next = refl
same_course Rises Stays from arrival second there le is next = absurd (omega (arith, le, is, next))
same_course Stays Rises from arrival second there le is next = absurd (omega (arith, le, is, next))
same_course Stays Stays from arrival second there le is next = refl

-- a course goes on from its second second as from its first
pub a_second_on : (course : Course) (from arrival t : ℕ) → from + 1 ≤ t → course_value course from arrival t ≡ course_value course (from + 1) (course_value course from arrival (from + 1)) t
a_second_on Rises from arrival t le = omega (arith, le)
a_second_on Stays from arrival t le = refl

-- the same course that says the same at a second goes on the same
pub course_on : (course : Course) (from arrival second there t : ℕ) → from ≤ second → second ≤ t → course_value course from arrival second ≡ there
    → course_value course second there t ≡ course_value course from arrival t
course_on Rises from arrival second there t le later is = omega (arith, le, later, is)
course_on Stays from arrival second there t le later is = sym is

-- when one arrives at the first second of a stretch
pub stretch_begins : (f : ℕ → ℕ) (from : ℕ) (stretch : Stretch) → from < stretch.end → IsStretch f from stretch → f from ≡ stretch.arrival
stretch_begins f from stretch some is = is from (omega arith) some ∙ at_once stretch.course from stretch.arrival

-- what is said of a piece's begin and arrival alone
pub sound_same : (one other : OpenPiece) → other.from ≡ one.from → other.arrival ≡ one.arrival → IsOpen one → IsOpen other
sound_same one other from arrival sound =
    let within = sound.within in
    let onward = sound.onward in
    let limit = sound.limit in
    record { within = omega (arith, from, within); onward = omega (arith, from, arrival, onward); limit = omega (arith, arrival, limit) }

-- a stretch that begins as the piece goes on, and goes on like it
pub goes_on_alike : (f : ℕ → ℕ) (piece : OpenPiece) (from : ℕ) (stretch : Stretch) → piece.from ≤ from → Goes f piece from → IsStretch f from stretch
    → course_value piece.course piece.from piece.arrival from ≡ stretch.arrival
    → course_value piece.course piece.from piece.arrival (from + 1) ≡ course_value stretch.course from stretch.arrival (from + 1) → Goes f piece stretch.end
goes_on_alike f piece from stretch le goes is there next t after before =
    let alike = same_course piece.course stretch.course piece.from piece.arrival from stretch.arrival le there next in
    elim (cases_lt t from) [
      | inl early ↦ goes t after early
      | inr later ↦
          is t later before ∙ ap (λ (c : Course). course_value c from stretch.arrival t) (sym alike)
          ∙ course_on piece.course piece.from piece.arrival from stretch.arrival t le later there
    ]

-- and of one second alone
pub goes_on_once : (f : ℕ → ℕ) (piece : OpenPiece) (from : ℕ) (stretch : Stretch) → from + 1 ≡ stretch.end → Goes f piece from → IsStretch f from stretch
    → course_value piece.course piece.from piece.arrival from ≡ stretch.arrival → Goes f piece stretch.end
goes_on_once f piece from stretch once goes is there t after before =
    elim (cases_lt t from) [
      | inl early ↦ goes t after early
      | inr later ↦
          let here : t ≡ from = omega (arith, later, before, once) in
          subst (λ (n : ℕ). f n ≡ course_value piece.course piece.from piece.arrival n) (sym here)
          (stretch_begins f from stretch (omega (arith, once)) is ∙ sym there)
    ]

-- a stretch that begins as the piece goes on, and goes on otherwise for more than a second: the piece ends behind that second
pub ends_behind : (f : ℕ → ℕ) (piece : OpenPiece) (from : ℕ) (stretch : Stretch) → IsOpen piece → piece.from < from → from + 1 < stretch.end → stretch.end ≤ day
    → IsSettled f piece from → IsStretch f from stretch → course_value piece.course piece.from piece.arrival from ≡ stretch.arrival
    → course_value piece.course piece.from piece.arrival (from + 1) ≢ course_value stretch.course from stretch.arrival (from + 1) → IsFormPiece f (piece_of piece) (from + 1)
ends_behind f piece from stretch sound some more within settled is there differ =
    let first = stretch_begins f from stretch (omega (arith, more)) is in
    form_piece f piece (from + 1) sound (omega (arith, some)) (omega (arith, more, within))
    (record {
      rule = settled.rule;
      goes = λ t after before. elim (cases_lt t from) [
        | inl early ↦ settled.goes t after early
        | inr later ↦
            let here : t ≡ from = omega (arith, later, before) in
            subst (λ (n : ℕ). f n ≡ course_value piece.course piece.from piece.arrival n) (sym here) (first ∙ sym there)
      ];
    })
    (inr (λ e. differ (sym e ∙ is (from + 1) (omega arith) more)))

-- the stretch without its first second
pub goes_behind : (f : ℕ → ℕ) (from : ℕ) (stretch : Stretch) (later : OpenPiece) → IsStretch f from stretch → later.from ≡ from + 1 → later.course ≡ stretch.course
    → later.arrival ≡ course_value stretch.course from stretch.arrival (from + 1) → Goes f later stretch.end
goes_behind f from stretch later is begins alike there t after before =
    is t (omega (arith, begins, after)) before ∙ a_second_on stretch.course from stretch.arrival t (omega (arith, begins, after))
    ∙ sym (ap (λ (c : Course). course_value c later.from later.arrival t) alike ∙ ap (λ (n : ℕ). course_value stretch.course n later.arrival t) begins
    ∙ ap (λ (n : ℕ). course_value stretch.course (from + 1) n t) there)

-- one more piece ended
pub listed_more : (f : ℕ → ℕ) (pieces : List Piece) (from : ℕ) (ended last : OpenPiece) → IsFormUntil f 0 pieces from → ended.from ≡ from
    → IsFormPiece f (piece_of ended) last.from → IsFormUntil f 0 (pieces ++ (piece_of ended ∷ [])) last.from
listed_more f pieces from ended last done begins form = until_more f 0 from last.from pieces (piece_of ended) done begins form

-- the last piece ended with the day
pub all_listed : (f : ℕ → ℕ) (pieces : List Piece) (last : OpenPiece) → IsOpen last → IsFormUntil f 0 pieces last.from → IsSettled f last day
    → IsDayForm f (pieces ++ (piece_of last ∷ []))
all_listed f pieces last sound done settled =
    let form = form_piece f last day sound sound.within (omega arith) settled (inl refl) in
    let all = until_more f 0 last.from day pieces (piece_of last) done refl form in
    subst (IsDayForm f) (append-nil (pieces ++ (piece_of last ∷ []))) (until_from f 0 day (pieces ++ (piece_of last ∷ [])) [] all refl)
