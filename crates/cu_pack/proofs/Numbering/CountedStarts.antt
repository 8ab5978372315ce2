-- The starts of lists, counted one by one.
use Rattle.std.proofs.Common.{◌≡◌, ◌≤◌, ◌<◌, ◌+◌, ◌-◌, ◌∙◌, ℕ, zero, suc, List, ◌∷◌, ◌++◌, Some, length, take, drop, map, set, get_or, flat_map, refl, ap, sym, arith}
use Rattle.std.specs.Prelude.{slice_get, slice_range}
use Rattle.std.specs.List.{range_with_len}
use Rattle.std.proofs.Math.Seq.{take-set-lt}
use Rattle.std.proofs.lemmas.Grind.{flat_map-append}
use Rattle.std.proofs.lemmas.List.{append_assoc, drop_at, flat_map_more, get_or-take, length-take-le, take-set-le}
use Rattle.std.proofs.lemmas.List.FromFn.{length-map-range_with_len, map-range_with_len_more, take-map-range_with_len}
use Rattle.std.proofs.lemmas.List.Sums.{sum_by-set}
use Rattle.std.proofs.lemmas.Option.{get_or_from_slice_get, same_Some, slice_get_within}
use Rattle.cu_pack.specs.Spelling.{long, starts_from, total}
use Rattle.cu_pack.specs.Steps.Starts.{starts_between}
use Rattle.cu_pack.proofs.Numbering.Items.{made_again}
use Rattle.cu_pack.proofs.Spelled.Parts.{start_there, starts_long}
use Rattle.cu_pack.proofs.Numbering.Stretches.{total_on}

-- how many there are in all lists before one
abbrev pub before_list : {T : Type 0} → List (List T) → ℕ → ℕ
before_list lists list = total (take list lists)

-- all starts are these, one for each list and one more
pub starts_counted : {T : Type 0} (lists : List (List T)) → map (before_list lists) (range_with_len 0 (suc (length lists))) ≡ starts_from 0 lists
starts_counted lists =
    let long = starts_long 0 lists in
    made_again (before_list lists) (suc (length lists)) (starts_from 0 lists) (omega (arith, long)) (λ i start there.
    let inside = slice_get_within (starts_from 0 lists) i start there in
    let is = same_Some (0 + total (take i lists)) start (sym (start_there 0 lists i (omega (arith, inside, long))) ∙ there) in
    omega (arith, is))

pub first_starts : {T : Type 0} (lists : List (List T)) (n : ℕ) → n ≤ suc (length lists) → take n (starts_from 0 lists) ≡ map (before_list lists) (range_with_len 0 n)
first_starts lists n most = ap (take n) (sym (starts_counted lists)) ∙ take-map-range_with_len (before_list lists) 0 (suc (length lists)) n most

-- what is counted up in the same way is the same
pub counted_same : {X : Type 0} (f g : ℕ → X) (a n : ℕ) → ((k : ℕ) → a ≤ k → k < a + n → f k ≡ g k) → map f (range_with_len a n) ≡ map g (range_with_len a n)
counted_same f g a zero same = refl
counted_same {X} f g a (suc n) same =
    let rest = counted_same f g (a + 1) n (λ k low high. same k (omega (arith, low)) (omega (arith, high))) in
    ap (λ (x : X). x ∷ map f (range_with_len (a + 1) n)) (same a (omega arith) (omega arith)) ∙ ap (λ (xs : List X). g a ∷ xs) rest

-- and it goes on where it stopped
pub counted_on : {X : Type 0} (g : ℕ → X) (z a n : ℕ) → map g (range_with_len z a) ++ map g (range_with_len (z + a) n) ≡ map g (range_with_len z (a + n))
counted_on {X} g z zero n = let same : z + 0 ≡ z = omega arith in let count : n ≡ 0 + n = omega arith in
    ap (λ (m : ℕ). map g (range_with_len m n)) same ∙ ap (λ (m : ℕ). map g (range_with_len z m)) count
counted_on {X} g z (suc a) n =
    let next : z + suc a ≡ z + 1 + a = omega arith in
    let count : suc (a + n) ≡ suc a + n = omega arith in
    ap (λ (m : ℕ). map g (range_with_len z (suc a)) ++ map g (range_with_len m n)) next ∙ ap (λ (xs : List X). g z ∷ xs) (counted_on g (z + 1) a n) ∙ ap (λ (m : ℕ). map g (range_with_len z m)) count

-- the starts of one stretch of lists from the start of its first are those of all lists
pub starts_on : {T : Type 0} (lists : List (List T)) (a b start : ℕ) → start ≡ before_list lists a → starts_between lists a b start ≡ map (before_list lists) (range_with_len a (b - a))
starts_on lists a b start first =
    counted_same (λ list. start + total (slice_range lists a list)) (before_list lists) a (b - a) (λ k low high. let on = total_on lists a k low in omega (arith, on, first))

pub starts_moved : {T : Type 0} (lists others : List (List T)) (a b start : ℕ) → ((k : ℕ) → k ≤ b → slice_range lists a k ≡ slice_range others a k)
    → starts_between lists a b start ≡ starts_between others a b start
starts_moved {T} lists others a b start same =
    counted_same (λ list. start + total (slice_range lists a list)) (λ list. start + total (slice_range others a list)) a (b - a)
    (λ k low high. ap (λ (ls : List (List T)). start + total ls) (same k (omega (arith, low, high))))

-- what is made of those, put behind what is made of the starts before
pub put_starts_on : {T : Type 0} (f : ℕ → List ℕ) (lists : List (List T)) (a b first : ℕ) (start before after : List ℕ) → a ≤ b → first ≡ before_list lists a
    → before ≡ start ++ flat_map f (map (before_list lists) (range_with_len 0 a)) → after ≡ before ++ flat_map f (starts_between lists a b first)
    → after ≡ start ++ flat_map f (map (before_list lists) (range_with_len 0 b))
put_starts_on f lists a b first start before after order first_is put more =
    let g = before_list lists in
    let whole : a + (b - a) ≡ b = omega (arith, order) in
    let zero_on : 0 + a ≡ a = omega arith in
    let here = map g (range_with_len 0 a) in
    let next = map g (range_with_len a (b - a)) in
    let joined : here ++ next ≡ map g (range_with_len 0 b) =
    ap (λ (m : ℕ). here ++ map g (range_with_len m (b - a))) (sym zero_on) ∙ counted_on g 0 a (b - a) ∙ ap (λ (m : ℕ). map g (range_with_len 0 m)) whole in
    more ∙ ap (λ (bs : List ℕ). bs ++ flat_map f (starts_between lists a b first)) put ∙ ap (λ (xs : List ℕ). (start ++ flat_map f here) ++ flat_map f xs) (starts_on lists a b first first_is)
    ∙ append_assoc start (flat_map f here) (flat_map f next) ∙ ap (λ (bs : List ℕ). start ++ bs) (sym (flat_map-append f here next)) ∙ ap (λ (xs : List ℕ). start ++ flat_map f xs) joined

-- they stand among all starts
pub starts_copied : {T : Type 0} (lists : List (List T)) (a b start : ℕ) → a ≤ b → b ≤ length lists → start ≡ before_list lists a
    → starts_between lists a b start ≡ slice_range (starts_from 0 lists) a b
starts_copied lists a b start order inside first =
    let g = before_list lists in
    let left : ℕ = suc (length lists) - a in
    let here = map g (range_with_len 0 a) in
    let rest = map g (range_with_len a left) in
    let whole : a + left ≡ suc (length lists) = omega (arith, order, inside) in
    let zero_on : a ≡ 0 + a = omega arith in
    let joined : here ++ rest ≡ starts_from 0 lists =
    ap (λ (m : ℕ). here ++ map g (range_with_len m left)) zero_on ∙ counted_on g 0 a left ∙ ap (λ (m : ℕ). map g (range_with_len 0 m)) whole ∙ starts_counted lists in
    let behind : drop a (starts_from 0 lists) ≡ rest = ap (drop a) (sym joined) ∙ drop_at here rest a (length-map-range_with_len g 0 a) in
    starts_on lists a b start first ∙ sym (ap (take (b - a)) behind ∙ take-map-range_with_len g a left (b - a) (omega (arith, order, inside)))

-- one start more of a stretch
pub put_between_next : {T : Type 0} (lists : List (List T)) (first list s number : ℕ) (start before after : List ℕ) → first ≤ list → number ≡ s + total (slice_range lists first list)
    → before ≡ start ++ flat_map long (starts_between lists first list s) → after ≡ before ++ long number → after ≡ start ++ flat_map long (starts_between lists first (list + 1) s)
put_between_next lists first list s number start before after order is put one =
    let g : ℕ → ℕ = λ k. s + total (slice_range lists first k) in
    let n : ℕ = list - first in
    let place : first + n ≡ list = omega (arith, order) in
    let next : n + 1 ≡ list + 1 - first = omega (arith, order) in
    let more = map-range_with_len_more g first n list place in
    one ∙ ap (λ (m : ℕ). before ++ long m) is ∙ ap (λ (bs : List ℕ). bs ++ long (g list)) put ∙ flat_map_more long start (map g (range_with_len first n)) (g list)
    ∙ ap (λ (ns : List ℕ). start ++ flat_map long ns) (sym more) ∙ ap (λ (m : ℕ). start ++ flat_map long (map g (range_with_len first m))) next

-- where one list is set, the starts up to it stay, and those behind it move by the difference
module _ {T : Type 0} (lists : List (List T)) (i : ℕ) (old new : List T) (there : slice_get lists i ≡ Some old) where
  pub set_before : (k : ℕ) → k ≤ i → before_list (set lists i new) k ≡ before_list lists k
  set_before k most = ap (λ (ls : List (List T)). total ls) (take-set-le k lists i new most)

  pub set_behind : (k : ℕ) → i < k → k ≤ length lists → before_list (set lists i new) k + length old ≡ before_list lists k + length new
  set_behind k low high =
      let taken = take-set-lt k lists i new low in
      let long = length-take-le k lists high in
      let sum : total (set (take k lists) i new) + length (get_or (take k lists) i old) ≡ total (take k lists) + length new = sum_by-set length (take k lists) i new old (omega (arith, low, long)) in
      let item = ap length (get_or-take k lists i old low ∙ get_or_from_slice_get lists i old old there) in
      let all = ap (λ (ls : List (List T)). total ls) taken in
      omega (arith, all, sum, item)
