-- What stands at a place, once more was added.
use Rattle.std.proofs.Common.{◌≡◌, ◌+◌, ◌-◌, ◌++◌, ◌∙◌, ℕ, List, [], ◌∷◌, sym, ap, arith, length, take, drop, length-append}
use Rattle.std.specs.Prelude.{slice_index}
use Rattle.std.specs.List.{slice_range}
use Rattle.std.proofs.lemmas.List.{append-nil, drop-append-le, get_or_append_left, length-drop, take-append-le, take_all}
use Rattle.std.proofs.Math.Seq.{drop-append-add, get_or-append_seam}
use Rattle.cu_sequences.specs.Kept.{IsPlace, roads_at}
use Rattle.cu_sequences.specs.Steps.Putting.{Grows, PutsAt}

pub grows_not : (xs : List ℕ) → Grows xs xs
grows_not xs = ([], sym (append-nil xs))

-- what stood there still does
pub grown : (before now : List ℕ) (start : ℕ) → Grows before now → IsPlace before start → IsPlace now start × (roads_at now start ≡ roads_at before start)
grown before now start (more, is) there =
    let count = slice_index before start in
    let from = start + 1 in
    let left = drop from before in
    let read : slice_index now start ≡ count = ap (λ (xs : List ℕ). slice_index xs start) is ∙ get_or_append_left before more 0 start (omega (arith, there)) in
    let long : length now ≡ length before + length more = ap length is ∙ length-append before more in
    let rest = length-drop from before in
    let part : slice_range (before ++ more) from (from + count) ≡ slice_range before from (from + count) =
    ap (take (from + count - from)) (drop-append-le from before more (omega (arith, there)))
    ∙ take-append-le (from + count - from) left more (omega (arith, there, rest)) in (
      omega (arith, there, read, long),
      ap (λ (n : ℕ). slice_range now from (from + n)) read ∙ ap (λ (xs : List ℕ). slice_range xs from (from + count)) is ∙ part,
    )

-- what was put there stands there
pub put_here : (before now : List ℕ) (start : ℕ) (roads : List ℕ) → PutsAt before now start roads → IsPlace now start × (roads_at now start ≡ roads)
put_here before now start roads (at, is) =
    let n = length before in
    let count = length roads in
    let tail = count ∷ roads in
    let read : slice_index now start ≡ count =
    ap (λ (xs : List ℕ). slice_index xs start) is ∙ ap (slice_index (before ++ tail)) at ∙ get_or-append_seam before count roads 0 in
    let one : length tail ≡ count + 1 = omega arith in
    let long : length now ≡ n + length tail = ap length is ∙ length-append before tail in
    let part : slice_range (before ++ tail) (n + 1) (n + 1 + count) ≡ roads =
    ap (take (n + 1 + count - (n + 1))) (drop-append-add before tail 1) ∙ take_all (n + 1 + count - (n + 1)) roads (omega arith) in (
      omega (arith, read, long, one, at),
      ap (λ (c : ℕ). slice_range now (start + 1) (start + 1 + c)) read
          ∙ ap (λ (xs : List ℕ). slice_range xs (start + 1) (start + 1 + count)) is
          ∙ ap (λ (s : ℕ). slice_range (before ++ tail) (s + 1) (s + 1 + count)) at
          ∙ part,
    )
