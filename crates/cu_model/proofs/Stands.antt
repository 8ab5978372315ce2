-- The fault that follows from what a checker keeps is that of the pieces that it was given.
use Rattle.std.proofs.Common.{◌≡◌, ◌<◌, ◌+◌, ℕ, suc, List, [], ◌∷◌, Option, Some, None, refl, sym, ap, ◌∙◌, subst, arith, not, ltb, eqb, length, get_or}
use Rattle.std.specs.Option.{option_or, option_map}
use Rattle.std.specs.List.{position}
use Rattle.std.proofs.lemmas.Bool.{eqb-true, ltb-true, not-false}
use Rattle.cu_model.specs.declared.profiles.Piece.{Piece}
use Rattle.cu_model.specs.declared.profiles.PieceFault.TheVariants.{Limit, Rising, Early, Fifo}
use Rattle.cu_model.specs.declared.checker.PieceChecker.{PieceChecker}
use Rattle.cu_model.specs.Days.{day}
use Rattle.cu_model.specs.Profiles.{piece_at, is_in_limit}
use Rattle.cu_model.specs.Faults.{least, first_fallen, limit_fault, start_fault, rising_fault, closed_fault, early_fault, piece_fault}
use Rattle.cu_model.specs.Checker.{last_from, first_between, early_until, overtaken_by, Checks}
use Rattle.cu_model.specs.Steps.Checking.{overtaken_at_midnight, kept_fault}
use Rattle.cu_model.proofs.Firsts.{IsFirst, least_is}
use Rattle.cu_model.proofs.FaultLaws.{start-none, cond-some, position-none, piece_begins}
use Rattle.cu_model.proofs.Gaps.{Follow, is_early, is_overtaken, begins, early_gaps, fifo_gaps}
use Rattle.cu_model.proofs.OptionLaws.{map-none}

-- where none has fallen the pieces rise
rises : (index : ℕ) (p : Piece) (ps : List Piece) → first_fallen index (p ∷ ps) ≡ None → Follow p ps
rises index p [] e = tt
rises index p (q ∷ ps) e =
    let parts = cond-some (ltb p.from q.from) (first_fallen (index + 1) (q ∷ ps)) (index + 1) e in
    (ltb-true p.from q.from parts.0, rises (index + 1) q ps parts.1)

-- the last piece is one of them
last_within : (p : Piece) (ps : List Piece) → ((k : ℕ) (d : Piece) → k < length (p ∷ ps) → (get_or (p ∷ ps) k d).from < day) → (last_from p ps).from < day
last_within p [] within = within 0 p (omega arith)
last_within p (q ∷ ps) within = last_within q ps (λ k d h. within (suc k) d (omega (arith, h)))

same_unless : {A : Type 0} (o x y : Option A) → (o ≡ None → x ≡ y) → option_or o x ≡ option_or o y
same_unless None x y same = same refl
same_unless (Some a) x y same = refl

-- the faults of the seconds, where no piece is past a limit and they rise from second 0
seconds : (p : Piece) (ps : List Piece) → position (λ piece. not (is_in_limit piece)) (p ∷ ps) ≡ None → p.from ≡ 0 → first_fallen 0 (p ∷ ps) ≡ None
    → (least (is_early (p ∷ ps)) day ≡ option_or (first_between (λ x y. early_until x y.from) (p ∷ ps)) (early_until (last_from p ps) day))
    × (least (is_overtaken (p ∷ ps)) day ≡ option_or (first_between overtaken_by (p ∷ ps)) (overtaken_at_midnight (last_from p ps) p))
seconds p ps limit start fallen =
    let rise = rises 0 p ps fallen in
    let inside = last_within p ps (λ k d h. piece_begins (get_or (p ∷ ps) k d) (not-false _ (position-none (λ (piece : Piece). not (is_in_limit piece)) (p ∷ ps) limit k d h))) in
    let early_all = option_or (first_between (λ x y. early_until x y.from) (p ∷ ps)) (early_until (last_from p ps) day) in
    let fifo_all = option_or (first_between overtaken_by (p ∷ ps)) (overtaken_at_midnight (last_from p ps) p) in
    let early = early_gaps (p ∷ ps) p ps rise inside (λ s h. refl) in
    let fifo = fifo_gaps (p ∷ ps) p p ps rise inside (λ s h. refl) (subst (λ (s : ℕ). piece_at (p ∷ ps) s ≡ Some p) start (begins p ps rise)) in (
      least_is (is_early (p ∷ ps)) day early_all (subst (λ (s : ℕ). IsFirst (is_early (p ∷ ps)) s day early_all) start early),
      least_is (is_overtaken (p ∷ ps)) day fifo_all (subst (λ (s : ℕ). IsFirst (is_overtaken (p ∷ ps)) s day fifo_all) start fifo),
    )

-- the faults in their order, the seconds' by what the gaps say
list_fault : (p : Piece) (ps : List Piece)
    → option_or (limit_fault (p ∷ ps)) (option_or (start_fault (p ∷ ps)) (option_or (rising_fault (p ∷ ps)) (option_or (closed_fault (p ∷ ps))
    (option_or (option_map Early (option_or (first_between (λ x y. early_until x y.from) (p ∷ ps)) (early_until (last_from p ps) day)))
    (option_map Fifo (option_or (first_between overtaken_by (p ∷ ps)) (overtaken_at_midnight (last_from p ps) p)))))))
    ≡ piece_fault (p ∷ ps)
list_fault p ps =
    let fifo = option_or (first_between overtaken_by (p ∷ ps)) (overtaken_at_midnight (last_from p ps) p) in
    same_unless (limit_fault (p ∷ ps)) _ _ (λ limit. same_unless (start_fault (p ∷ ps)) _ _ (λ start. same_unless (rising_fault (p ∷ ps)) _ _ (λ rising.
    same_unless (closed_fault (p ∷ ps)) _ _ (λ closed.
    let found = seconds p ps (map-none Limit _ limit) (eqb-true p.from 0 (start-none (eqb p.from 0) start)) (map-none Rising _ rising) in
    ap (λ (o : Option ℕ). option_or (option_map Early o) (option_map Fifo fifo)) (sym found.0)
    ∙ ap (λ (o : Option ℕ). option_or (early_fault (p ∷ ps)) (option_map Fifo o)) (sym found.1)))))

pub checks_fault : (checker : PieceChecker) (pieces : List Piece) → Checks checker pieces → kept_fault checker ≡ piece_fault pieces
checks_fault checker [] checks = rw (checks.limit, checks.ends) refl
checks_fault checker (p ∷ ps) checks =
    rw (checks.limit, checks.ends, checks.rising, checks.closed, checks.count, checks.early, checks.fifo) (list_fault p ps)
