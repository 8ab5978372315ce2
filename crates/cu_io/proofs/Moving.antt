-- Bytes that are copied from the front of what a source has left.
use Rattle.std.proofs.Common.{◌≡◌, ℕ, ◌+◌, ◌<◌, min, ◌∙◌, List, [], ◌++◌, length, take, drop, sym, ap, refl, arith}
use Rattle.std.proofs.lemmas.List.{take-append-drop, drop-drop, nil_from_length}
use Rattle.std.specs.Prelude.{Some}
use Rattle.cu_io.specs.Transfers.{Moves}

-- as many bytes as are left and fit stand at the front of the buffer
pub moves_front : (bytes buffer left : List ℕ) (taken n most : ℕ) → left ≡ drop taken bytes → 0 < most →
    n ≡ min (length (drop taken bytes)) most → take n buffer ≡ take n (drop taken bytes) →
    Moves (Some left) (Some (drop (taken + n) bytes)) buffer n
moves_front bytes buffer left taken n most is room count front =
    let parts : drop taken bytes ≡ take n buffer ++ drop (taken + n) bytes =
    sym (take-append-drop n (drop taken bytes)) ∙ ap (λ (t : List ℕ). t ++ drop n (drop taken bytes)) (sym front)
    ∙ ap (λ (t : List ℕ). take n buffer ++ t) (drop-drop n taken bytes) in
    let none : n ≡ 0 → left ≡ [] = λ e. nil_from_length left (let k : length left ≡ length (drop taken bytes) = ap (λ (t : List ℕ). length t) is in omega (arith, k, count, e, room)) in
    let nothing : left ≡ [] → n ≡ 0 = λ e. (let k : length (drop taken bytes) ≡ 0 = ap (λ (t : List ℕ). length t) (sym is ∙ e) in omega (arith, k, count)) in
    (drop (taken + n) bytes, refl, is ∙ parts, (none, nothing))
