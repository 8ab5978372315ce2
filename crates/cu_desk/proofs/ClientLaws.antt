-- Clients past the greatest are refused alike, whatever their number is.
use Rattle.std.proofs.Common.{◌≡◌, ◌≤◌, ◌<◌, ◌+◌, ◌⊎◌, ◌∙◌, ◌∷◌, [], ℕ, List, Bool, true, false, cond, length, min, refl, sym, ap, arith, inl, inr}
use Rattle.std.specs.Prelude.{Option, Some, None, Result, Ok, Err, IsOk, ◌==◌, codes, nat_le}
use Rattle.std.proofs.Math.Nat.{le-min, min-eq_left}
use Rattle.std.specs.List.{count_by}
use Rattle.std.proofs.lemmas.Bool.{cases_Bool, le-leb, lt-leb}
use Rattle.std.proofs.lemmas.Bool.Decides.{leb_tells}
use Rattle.std.proofs.lemmas.List.Splits.{length-slice_split}
use Rattle.cu_model.specs.declared.queries.Query.{Query}
use Rattle.cu_model.specs.declared.queries.QueryRefusal.{QueryRefusal}
use Rattle.cu_model.specs.declared.queries.QueryRefusal.TheVariants as query
use Rattle.cu_model.specs.declared.roads.Edit.{Edit}
use Rattle.cu_model.specs.Numbers.{is_number_word, number_value}
use Rattle.cu_model.specs.Queries.{fields_of_line, query_of_fields}
use Rattle.cu_script.specs.declared.lines.EditRefusal.{EditRefusal}
use Rattle.cu_script.specs.declared.lines.EditRefusal.TheVariants as edit
use Rattle.cu_script.specs.EditLines.{edit_of_fields}
use Rattle.cu_desk.specs.declared.lines.Kind.{Kind}
use Rattle.cu_desk.specs.declared.lines.Kind.TheVariants as kind
use Rattle.cu_desk.specs.declared.lines.TheConstants.{MAX_CLIENT}
use Rattle.cu_desk.specs.DeskLines.{asked_as, asked_by_edit, asked_by_query, checked_client, client_asked, fields_asked, kind_before, kind_of}
use Rattle.cu_desk.specs.Machine.{DeskAsked, Fails}

module _ (a b : ℕ) (a_past : nat_le a MAX_CLIENT ≡ false) (b_past : nat_le b MAX_CLIENT ≡ false) where
  query_past : (asked : Result Query QueryRefusal) → checked_client a (asked_by_query a asked) ≡ checked_client b (asked_by_query b asked)
  query_past (Ok query) = rw (a_past, b_past) refl
  query_past (Err query.Line) = refl
  query_past (Err query.Node) = rw (a_past, b_past) refl
  query_past (Err query.Second) = rw (a_past, b_past) refl

  edit_past : (asked : Result Edit EditRefusal) → checked_client a (asked_by_edit a asked) ≡ checked_client b (asked_by_edit b asked)
  edit_past (Ok edit) = rw (a_past, b_past) refl
  edit_past (Err edit.Line) = refl
  edit_past (Err edit.Arc) = rw (a_past, b_past) refl
  edit_past (Err edit.Profile) = rw (a_past, b_past) refl
  edit_past (Err (edit.Piece refusal)) = rw (a_past, b_past) refl

  kind_past : (k : Kind) (nodes arcs profiles : ℕ) (fields : List (List ℕ))
      → checked_client a (asked_as k nodes arcs profiles a fields) ≡ checked_client b (asked_as k nodes arcs profiles b fields)
  kind_past kind.Query nodes arcs profiles fields = query_past (query_of_fields nodes fields)
  kind_past kind.Cancel nodes arcs profiles fields = rw (a_past, b_past) refl
  kind_past kind.Edit nodes arcs profiles fields = edit_past (edit_of_fields arcs profiles fields)

-- so a client's number may be kept as the next one to the greatest, where it is past that
pub kept_client : (client : ℕ) (nodes arcs profiles : ℕ) (fields : List (List ℕ))
    → client_asked nodes arcs profiles client fields ≡ client_asked nodes arcs profiles (min client (MAX_CLIENT + 1)) fields
kept_client client nodes arcs profiles fields = elim (within_or_past client) [
  | inl within ↦ ap (λ (c : ℕ). client_asked nodes arcs profiles c fields) within
  | inr (past, kept) ↦ kind_past client (min client (MAX_CLIENT + 1)) past kept (kind_of fields) nodes arcs profiles fields
]
  where
    within_or_past : (c : ℕ) → (c ≡ min c (MAX_CLIENT + 1)) ⊎ ((nat_le c MAX_CLIENT ≡ false) × (nat_le (min c (MAX_CLIENT + 1)) MAX_CLIENT ≡ false))
    within_or_past c = elim (leb_tells c MAX_CLIENT) [
      | inl (within, le) ↦ inl (sym (min-eq_left (omega (arith, le))))
      | inr (over, lt) ↦ inr (
        over,
        (let kept : MAX_CLIENT + 1 ≤ min c (MAX_CLIENT + 1) = le-min (omega (arith, lt)) (omega arith) in
            lt-leb (min c (MAX_CLIENT + 1)) MAX_CLIENT (omega (arith, kept))),
      )
    ]

-- what a line asks for that is cut behind its client's number
module _ (line word : List ℕ) (nodes arcs profiles : ℕ) where
  pub client_cut : (text : List ℕ) (client : ℕ) → fields_of_line line ≡ word ∷ fields_of_line text
      → Some client ≡ cond (is_number_word word) (Some (min (number_value word) (MAX_CLIENT + 1))) None
      → fields_asked nodes arcs profiles (fields_of_line line) ≡ client_asked nodes arcs profiles client (fields_of_line text)
  client_cut text client whole number = elim (cases_Bool (is_number_word word)) [
    | inl is ↦ (let kept : client ≡ min (number_value word) (MAX_CLIENT + 1) = cc (number, is) in
        rw (whole, is) (kept_client (number_value word) nodes arcs profiles (fields_of_line text) ∙ ap (λ (c : ℕ). client_asked nodes arcs profiles c (fields_of_line text)) (sym kept)))
    | inr other ↦ absurd (cc (number, other))
  ]

  -- whose first field is no number
  pub client_unnumbered : (fields : List (List ℕ)) → fields_of_line line ≡ word ∷ fields
      → None ≡ cond (is_number_word word) (Some (min (number_value word) (MAX_CLIENT + 1))) None
      → fields_asked nodes arcs profiles (fields_of_line line) ≡ Fails (codes "line")
  client_unnumbered fields whole number = elim (cases_Bool (is_number_word word)) [
    | inl is ↦ absurd (cc (number, is))
    | inr other ↦ rw (whole, other) refl
  ]

  -- or that has no other
  pub client_uncut : fields_of_line line ≡ word ∷ [] → fields_asked nodes arcs profiles (fields_of_line line) ≡ Fails (codes "line")
  client_uncut whole = elim (cases_Bool (is_number_word word)) [
    | inl is ↦ rw (whole, is) refl
    | inr other ↦ rw (whole, other) refl
  ]

-- there is always a first field, so `x` with a comma behind it is no cancel
pub more_fields : (text : List ℕ) → kind_before (fields_of_line text) ≡ kind.Edit
more_fields text = by (fields_of_line text) (length-slice_split (λ b. b == 44) text)
  where
    by : (fields : List (List ℕ)) → length fields ≡ count_by (λ b. b == 44) text + 1 → kind_before fields ≡ kind.Edit
    by [] none = absurd (omega (arith, none))
    by (field ∷ fields) some = refl

-- the test of a client's number
pub past_client : (client : ℕ) → MAX_CLIENT < client → nat_le client MAX_CLIENT ≡ false
past_client client past = lt-leb client MAX_CLIENT past

pub known_client : (client : ℕ) → client ≤ MAX_CLIENT → nat_le client MAX_CLIENT ≡ true
known_client client within = le-leb client MAX_CLIENT within

pub edit_known : (client : ℕ) (asked : Result Edit EditRefusal) → IsOk asked → client ≤ MAX_CLIENT → checked_client client (asked_by_edit client asked) ≡ asked_by_edit client asked
edit_known client (Ok edit) ok within = rw (known_client client within) refl
edit_known client (Err refusal) ok within = absurd (cc ok)

pub edit_unknown : (client : ℕ) (asked : Result Edit EditRefusal) → IsOk asked → MAX_CLIENT < client → checked_client client (asked_by_edit client asked) ≡ Fails (codes "client")
edit_unknown client (Ok edit) ok past = rw (past_client client past) refl
edit_unknown client (Err refusal) ok past = absurd (cc ok)
