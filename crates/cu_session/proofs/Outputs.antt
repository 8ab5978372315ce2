-- Replies line by line.
use Rattle.std.proofs.Common.{◌≡◌, ◌∙◌, ℕ, List, [], ◌∷◌, ◌++◌, length, take, refl, sym, ap, subst, append_assoc}
use Rattle.std.proofs.lemmas.List.{append-nil}
use Rattle.cu_session.specs.Scripts.{AreReplied}

-- one more line, and its reply
pub replied_more : {State : Type 0} (Replies : State → List ℕ → List ℕ → State → Type 0) (state now after : State) (lines : List (List ℕ)) (line text reply : List ℕ)
    → AreReplied Replies state lines text now → Replies now line reply after → AreReplied Replies state (lines ++ line ∷ []) (text ++ (reply ++ 10 ∷ [])) after
replied_more {State = State} Replies state now after [] line text reply (none, same) is =
    let here = subst (λ (s : State). Replies s line reply after) same is in
    (reply, after, [], here, (refl, refl), rw none (sym (append-nil (reply ++ 10 ∷ []))))
replied_more Replies state now after (first ∷ lines) line text reply (said, next, rest, right, more, parts) is = (
  said,
  next,
  rest ++ (reply ++ 10 ∷ []),
  right,
  replied_more Replies next now after lines line rest reply more is,
  ap (λ (t : List ℕ). t ++ (reply ++ 10 ∷ [])) parts ∙ append_assoc (said ++ 10 ∷ []) rest (reply ++ 10 ∷ []),
)

-- what holds before a script, and after each line, holds after it
pub kept_through : {State : Type 0} (Replies : State → List ℕ → List ℕ → State → Type 0) (Holds : State → Type 0)
    → ((state after : State) (line reply : List ℕ) → Holds state → Replies state line reply after → Holds after)
    → (state now : State) (lines : List (List ℕ)) (output : List ℕ) → AreReplied Replies state lines output now → Holds state → Holds now
kept_through Replies Holds step state now [] output (none, same) holds = subst Holds (sym same) holds
kept_through Replies Holds step state now (line ∷ lines) output (reply, after, rest, is, more, parts) holds =
    kept_through Replies Holds step after now lines rest more (step state after line reply holds is)

-- replies by one state are replies by another that it stands for
pub related : {S T : Type 0} (Replies : S → List ℕ → List ℕ → S → Type 0) (Others : T → List ℕ → List ℕ → T → Type 0) (StandsFor : S → T → Type 0)
    → ((state after : S) (other : T) (line reply : List ℕ) → StandsFor state other → Replies state line reply after → (next : T) × Others other line reply next × StandsFor after next)
    → (state now : S) (other : T) (lines : List (List ℕ)) (output : List ℕ) → StandsFor state other → AreReplied Replies state lines output now
    → (end : T) × AreReplied Others other lines output end × StandsFor now end
related {S = S} Replies Others StandsFor step state now other [] output stands (none, same) =
    (other, (none, refl), subst (λ (s : S). StandsFor s other) (sym same) stands)
related Replies Others StandsFor step state now other (line ∷ lines) output stands (reply, after, rest, is, more, parts) =
    let (next, right, still) = step state after other line reply stands is in
    let (end, others, last) = related Replies Others StandsFor step after now next lines rest still more in
    (end, (reply, next, rest, right, others, parts), last)

-- replies by one state are replies by another that is made of it
pub followed : {S T : Type 0} (Replies : S → List ℕ → List ℕ → S → Type 0) (Others : T → List ℕ → List ℕ → T → Type 0) (of : S → T) (Holds : S → Type 0)
    → ((state after : S) (line reply : List ℕ) → Holds state → Replies state line reply after → Others (of state) line reply (of after) × Holds after)
    → (state now : S) (lines : List (List ℕ)) (output : List ℕ) → Holds state → AreReplied Replies state lines output now → AreReplied Others (of state) lines output (of now)
followed {T = T} Replies Others of Holds step state now lines output holds replied =
    let (end, others, (same, still)) =
    related Replies Others (λ s t. (t ≡ of s) × Holds s)
    (λ s after t line reply (same, holds) is.
    let (right, still) = step s after line reply holds is in
    (of after, subst (λ (x : T). Others x line reply (of after)) (sym same) right, (refl, still)))
    state now (of state) lines output (refl, holds) replied in
    subst (λ (x : T). AreReplied Others (of state) lines output x) same others

-- as many lines from the front
pub front_lines : (lines behind : List (List ℕ)) → take (length lines) (lines ++ behind) ≡ lines
front_lines [] behind = refl
front_lines (first ∷ lines) behind = ap (λ (t : List (List ℕ)). first ∷ t) (front_lines lines behind)
