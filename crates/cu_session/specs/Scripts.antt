-- One reply to each line of a script, over any state that lines change.
use Rattle.std.specs.Prelude.{ℕ, List, [], ◌∷◌, ◌++◌, ◌≡◌, codes, length, nat_lt}
use Rattle.std.specs.Bool.{MatchBool}
use Rattle.cu_io.specs.Lines.{without_return}
use Rattle.cu_script.specs.declared.lines.TheConstants.{MAX_EDIT_LINE}

-- the most bytes of a line before its end
abbrev pub line_limit : ℕ
line_limit = MAX_EDIT_LINE

-- The reply to a line, without the line feed that ends it, and the state after it, by those to its text: a line that is too long is
-- refused, and changes nothing.
abbrev pub IsLineReply : {State : Type 0} → (State → List ℕ → List ℕ → State → Type 0) → State → List ℕ → List ℕ → State → Type 0
IsLineReply Says state line reply after =
    MatchBool (nat_lt line_limit (length line)) ((reply ≡ codes "refused: long") × (after ≡ state)) (Says state (without_return line) reply after)

-- one reply to each line, in order, each ended by a line feed, by the state as it is at that line; and the state after them all
abbrev pub AreReplied : {State : Type 0} → (State → List ℕ → List ℕ → State → Type 0) → State → List (List ℕ) → List ℕ → State → Type 0
AreReplied Replies state [] output now = (output ≡ []) × (now ≡ state)
AreReplied {State = State} Replies state (line ∷ lines) output now =
    (reply : List ℕ) × (after : State) × (rest : List ℕ) × Replies state line reply after × AreReplied Replies after lines rest now
    × (output ≡ (reply ++ 10 ∷ []) ++ rest)
