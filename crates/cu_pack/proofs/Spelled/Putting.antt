-- Bytes put one after another.
use Rattle.std.proofs.Common.{◌≡◌, ◌≤◌, ◌+◌, ◌∙◌, ℕ, List, [], ◌∷◌, ◌++◌, Some, length, take, drop, map, flat_map, ap, sym, append_assoc, arith}
use Rattle.std.specs.Prelude.{slice_get}
use Rattle.std.specs.List.{range_with_len}
use Rattle.std.proofs.lemmas.List.{append-nil, at_drop_all, at_drop_more, flat_map_more, take_more}
use Rattle.std.proofs.lemmas.List.FromFn.{map-range_with_len_more}
use Rattle.std.proofs.lemmas.Option.{get_or_from_slice_get, slice_get_within}
use Rattle.cu_pack.specs.Spelling.{long, starts_from}

-- what was put, and what was put behind it
pub put_then : (start before after first second : List ℕ) → before ≡ start ++ first → after ≡ before ++ second → after ≡ start ++ (first ++ second)
put_then start before after first second one two = two ∙ ap (λ (bs : List ℕ). bs ++ second) one ∙ append_assoc start first second

-- one piece more of a list's
pub put_more : {X : Type 0} (f : X → List ℕ) (xs : List X) (i : ℕ) (x : X) (start before after : List ℕ) → slice_get xs i ≡ Some x → before ≡ start ++ flat_map f (take i xs) → after ≡ before ++ f x
    → after ≡ start ++ flat_map f (take (i + 1) xs)
put_more {X} f xs i x start before after there put one =
    let more = take_more xs i x (slice_get_within xs i x there) in
    let same = get_or_from_slice_get xs i x x there in
    let front : take i xs ++ (x ∷ []) ≡ take (i + 1) xs = sym (more ∙ ap (λ (y : X). take i xs ++ (y ∷ [])) same) in
    one ∙ ap (λ (bs : List ℕ). bs ++ f x) put ∙ flat_map_more f start (take i xs) x ∙ ap (λ (ys : List X). start ++ flat_map f ys) front

-- one more of what is counted up
pub put_next : {Y : Type 0} (f : Y → List ℕ) (g : ℕ → Y) (n : ℕ) (start before after : List ℕ) → before ≡ start ++ flat_map f (map g (range_with_len 0 n)) → after ≡ before ++ f (g n)
    → after ≡ start ++ flat_map f (map g (range_with_len 0 (n + 1)))
put_next {Y} f g n start before after put one =
    let more = map-range_with_len_more g 0 n n (omega arith) in
    one ∙ ap (λ (bs : List ℕ). bs ++ f (g n)) put ∙ flat_map_more f start (map g (range_with_len 0 n)) (g n) ∙ ap (λ (ys : List Y). start ++ flat_map f ys) (sym more)

module _ {T : Type 0} (lists : List (List T)) (i start : ℕ) (bytes after whole : List ℕ)
    (put : bytes ++ flat_map long (starts_from start (drop i lists)) ≡ whole) (one : after ≡ bytes ++ long start) where
  -- one start more
  pub start_more : (list : List T) → slice_get lists i ≡ Some list → after ++ flat_map long (starts_from (start + length list) (drop (i + 1) lists)) ≡ whole
  unfolding starts_from
  start_more list there =
      let same = get_or_from_slice_get lists i list list there in
      let rest = flat_map long (starts_from (start + length list) (drop (i + 1) lists)) in
      let step = at_drop_more (λ (ls : List (List T)). flat_map long (starts_from start ls)) lists i list (slice_get_within lists i list there) in
      let left : flat_map long (starts_from start (drop i lists)) ≡ long start ++ rest = step ∙ ap (λ (l : List T). flat_map long (starts_from start (l ∷ drop (i + 1) lists))) same in
      ap (λ (bs : List ℕ). bs ++ rest) one ∙ append_assoc bytes (long start) rest ∙ ap (λ (bs : List ℕ). bytes ++ bs) (sym left) ∙ put

  -- the last start
  pub start_last : length lists ≤ i → after ≡ whole
  unfolding starts_from
  start_last end =
      let left : flat_map long (starts_from start (drop i lists)) ≡ long start ++ [] = at_drop_all (λ (ls : List (List T)). flat_map long (starts_from start ls)) lists i end in
      one ∙ ap (λ (bs : List ℕ). bytes ++ bs) (sym (append-nil (long start))) ∙ ap (λ (bs : List ℕ). bytes ++ bs) (sym left) ∙ put
