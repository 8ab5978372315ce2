-- One desk follows another: where each network of the one stands for one of the other, with the same answers, touched shortcuts and edits, a
-- reply of the one is one of the other.
use Rattle.std.proofs.Common.{◌≡◌, ◌-◌, ℕ, List, Option, Some, None, Bool, true, false, refl, sym, subst, inl, inr}
use Rattle.std.specs.Prelude.{codes, ◌==◌}
use Rattle.std.specs.Bool.{MatchBool}
use Rattle.cu_model.specs.declared.queries.Query.{Query}
use Rattle.cu_model.specs.declared.roads.Edit.{Edit}
use Rattle.cu_desk.specs.Machine.{DeskAsked, AsksStep, AsksCancel, AsksQuery, AsksEdit, FailsFor, Fails, Work, DeskState, Begins, CancelsNone, Cancels, Edits, Steps, IsDeskReply, said_to}

module _ {M N : Type 0} (R : M → N → Type 0)
    (AM : M → Query → List ℕ → Type 0) (TM : M → Edit → ℕ → Type 0) (EM : M → Edit → M → Type 0)
    (AN : N → Query → List ℕ → Type 0) (TN : N → Edit → ℕ → Type 0) (EN : N → Edit → N → Type 0)
    (answers : (m : M) (n : N) (q : Query) (text : List ℕ) → R m n → AM m q text → AN n q text)
    (touches : (m : M) (n : N) (e : Edit) (k : ℕ) → R m n → TM m e k → TN n e k)
    (makes : (m : M) (n : N) (e : Edit) (next : M) → R m n → EM m e next → (other : N) × EN n e other × R next other) where
  -- two desks with the same work, whose networks stand for each other
  abbrev Alike : DeskState M → DeskState N → Type 0
  Alike d f = R d.published f.published × (d.work ≡ f.work)

  -- the other desk's reply and what is behind it
  abbrev Follows : DeskState N → DeskAsked → List ℕ → DeskState M → Type 0
  Follows f line reply after = (other : DeskState N) × IsDeskReply AN TN EN f line reply other × Alike after other

  stays : (d after : DeskState M) (f : DeskState N) → Alike d f → after ≡ d → Alike after f
  stays d after f alike same = subst (λ (x : DeskState M). Alike x f) (sym same) alike

  begins : (d : DeskState M) (f : DeskState N) (client : ℕ) (edit : Edit) (reply : List ℕ) (after : DeskState M) → Alike d f → Begins TM EM d client edit reply after
      → (other : DeskState N) × Begins TN EN f client edit reply other × Alike after other
  begins d f client edit reply after alike (inl (none, (next, made, said, is))) =
      let (other, made_too, r) = makes d.published f.published edit next alike.0 made in
      let now : DeskState N = record { published = other; work = None } in
      (now, inl (touches d.published f.published edit 0 alike.0 none, (other, made_too, said, refl)), subst (λ (x : DeskState M). Alike x now) (sym is) (r, refl))
  begins d f client edit reply after alike (inr (inl (count, some, touched, said, is))) =
      let now : DeskState N = record f { work = Some (record { client = client; edit = edit; left = count }) } in
      (now, inr (inl (count, some, touches d.published f.published edit count alike.0 touched, said, refl)), subst (λ (x : DeskState M). Alike x now) (sym is) (alike.0, refl))
  begins d f client edit reply after alike (inr (inr (said, is))) = (f, inr (inr (said, refl)), stays d after f alike is)

  edits : (work : Option Work) (d : DeskState M) (f : DeskState N) (client : ℕ) (edit : Edit) (reply : List ℕ) (after : DeskState M) → Alike d f
      → Edits TM EM work d client edit reply after → (other : DeskState N) × Edits TN EN work f client edit reply other × Alike after other
  edits None d f client edit reply after alike e = begins d f client edit reply after alike e
  edits (Some work) d f client edit reply after alike (said, is) = (f, (said, refl), stays d after f alike is)

  steps : (work : Option Work) (d : DeskState M) (f : DeskState N) (reply : List ℕ) (after : DeskState M) → Alike d f
      → Steps EM work d reply after → (other : DeskState N) × Steps EN work f reply other × Alike after other
  steps None d f reply after alike (said, is) = (f, (said, refl), stays d after f alike is)
  steps (Some work) d f reply after alike (inl (more, said, is)) =
      let now : DeskState N = record f { work = Some (record work { left = work.left - 1 }) } in
      (now, inl (more, said, refl), subst (λ (x : DeskState M). Alike x now) (sym is) (alike.0, refl))
  steps (Some work) d f reply after alike (inr (inl (last, (next, made, said, is)))) =
      let (other, made_too, r) = makes d.published f.published work.edit next alike.0 made in
      let now : DeskState N = record { published = other; work = None } in
      (now, inr (inl (last, (other, made_too, said, refl))), subst (λ (x : DeskState M). Alike x now) (sym is) (r, refl))
  steps (Some work) d f reply after alike (inr (inr (said, is))) = (f, inr (inr (said, refl)), stays d after f alike is)

  cancels_by : (own : Bool) (d : DeskState M) (f : DeskState N) (client : ℕ) (reply : List ℕ) (after : DeskState M) → Alike d f
      → MatchBool own ((reply ≡ said_to client (codes "cancelled")) × (after ≡ record d { work = None })) (CancelsNone d client reply after)
      → (other : DeskState N) × MatchBool own ((reply ≡ said_to client (codes "cancelled")) × (other ≡ record f { work = None })) (CancelsNone f client reply other) × Alike after other
  cancels_by true d f client reply after alike (said, is) =
      let now : DeskState N = record f { work = None } in (now, (said, refl), subst (λ (x : DeskState M). Alike x now) (sym is) (alike.0, refl))
  cancels_by false d f client reply after alike (said, is) = (f, (said, refl), stays d after f alike is)

  cancels : (work : Option Work) (d : DeskState M) (f : DeskState N) (client : ℕ) (reply : List ℕ) (after : DeskState M) → Alike d f
      → Cancels work d client reply after → (other : DeskState N) × Cancels work f client reply other × Alike after other
  cancels None d f client reply after alike (said, is) = (f, (said, refl), stays d after f alike is)
  cancels (Some work) d f client reply after alike c = cancels_by (work.client == client) d f client reply after alike c

  pub follows : (line : DeskAsked) (d : DeskState M) (f : DeskState N) (reply : List ℕ) (after : DeskState M) → Alike d f
      → IsDeskReply AM TM EM d line reply after → Follows f line reply after
  follows AsksStep d f reply after alike s =
      let (other, is, now) = steps d.work d f reply after alike s in
      (other, subst (λ (w : Option Work). Steps EN w f reply other) alike.1 is, now)
  follows (AsksCancel client) d f reply after alike c =
      let (other, is, now) = cancels d.work d f client reply after alike c in
      (other, subst (λ (w : Option Work). Cancels w f client reply other) alike.1 is, now)
  follows (AsksQuery client query) d f reply after alike (text, answered, said, is) =
      (f, (text, answers d.published f.published query text alike.0 answered, said, refl), stays d after f alike is)
  follows (AsksEdit client edit) d f reply after alike e =
      let (other, is, now) = edits d.work d f client edit reply after alike e in
      (other, subst (λ (w : Option Work). Edits TN EN w f client edit reply other) alike.1 is, now)
  follows (FailsFor client words) d f reply after alike (said, is) = (f, (said, refl), stays d after f alike is)
  follows (Fails words) d f reply after alike (said, is) = (f, (said, refl), stays d after f alike is)
