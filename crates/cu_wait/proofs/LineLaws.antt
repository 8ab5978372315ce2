-- Straight lines of travel times: between two points, arrivals rise, unless the travel times fall by a second a second or more; then they
-- never rise.
use Rattle.std.proofs.Common.{◌≡◌, ◌≤◌, ◌<◌, ◌+◌, ◌-◌, ◌*◌, ◌/◌, ◌%◌, ◌∙◌, ℕ, refl, sym, ap, arith, inl, inr}
use Rattle.std.proofs.Math.Nat.{div-mul-le_self, add-mul-div_right, mul-le-mul_left, mul-le-mul_right}
use Rattle.std.proofs.lemmas.Nat.{div-add-mod', div-mul-add, le-div, mod_below}
use Rattle.std.proofs.lemmas.Bool.{cases_lt, le-leb, lt-leb}
use Rattle.cu_wait.specs.Measured.{on_line}

div_rises : (a b n : ℕ) → 0 < n → a ≤ b → a / n ≤ b / n
div_rises a b n some le = le-div (a / n) b n some (let h = div-mul-le_self a n in omega (arith, h, le))

-- a quotient that is rounded up
abbrev up : ℕ → ℕ → ℕ
up a n = (a + (n - 1)) / n

pub line_up : (first last k n : ℕ) → first ≤ last → on_line first last k n ≡ first + ((last - first) * k) / n
line_up first last k n le = let b = le-leb first last le in rw b refl

pub line_down : (first last k n : ℕ) → last < first → on_line first last k n ≡ first - up ((first - last) * k) n
line_down first last k n lt = let b = lt-leb first last lt in rw b refl

-- the part of a product between two factors
product_more : (e k l : ℕ) → k ≤ l → e * l ≡ e * k + e * (l - k)
product_more e k l le = let h : k + (l - k) ≡ l = omega (arith, le) in ap (λ (x : ℕ). e * x) (sym h) ∙ omega arith

-- no more seconds than the fall are taken off
pub up_within : (e k n : ℕ) → 0 < n → k ≤ n → up (e * k) n ≤ e
up_within e k n some le =
    let p = mul-le-mul_left e le in
    let q = div_rises (e * k + (n - 1)) (e * n + (n - 1)) n some (omega (arith, p)) in
    let r = div-mul-add e n (n - 1) (omega (arith, some)) in
    omega (arith, q, r)

up_slow : (e k l n : ℕ) → 0 < n → e ≤ n → k ≤ l → up (e * l) n ≤ up (e * k) n + (l - k)
up_slow e k l n some slow le =
    let more = product_more e k l le in
    let part : e * (l - k) ≤ (l - k) * n = let h = mul-le-mul_right (l - k) slow in omega (arith, h) in
    let q = div_rises (e * l + (n - 1)) ((e * k + (n - 1)) + (l - k) * n) n some (omega (arith, more, part)) in
    let r = add-mul-div_right (e * k + (n - 1)) (l - k) some in
    omega (arith, q, r)

up_fast : (e k l n : ℕ) → 0 < n → n ≤ e → k ≤ l → up (e * k) n + (l - k) ≤ up (e * l) n
up_fast e k l n some fast le =
    let more = product_more e k l le in
    let part : (l - k) * n ≤ e * (l - k) = let h = mul-le-mul_right (l - k) fast in omega (arith, h) in
    let q = div_rises ((e * k + (n - 1)) + (l - k) * n) (e * l + (n - 1)) n some (omega (arith, more, part)) in
    let r = add-mul-div_right (e * k + (n - 1)) (l - k) some in
    omega (arith, q, r)

-- arrivals rise, where the travel times don't fall by more than a second a second
pub line_rises : (first last k l n : ℕ) → 0 < n → first ≤ last + n → k ≤ l → l ≤ n → on_line first last k n + k ≤ on_line first last l n + l
line_rises first last k l n some slow le within =
    elim (cases_lt last first) [
      | inl falls ↦
          let a = line_down first last k n falls in
          let b = line_down first last l n falls in
          let c = up_slow (first - last) k l n some (omega (arith, slow)) le in
          let d = up_within (first - last) l n some within in
          omega (arith, a, b, c, d, le, falls)
      | inr rises ↦
          let a = line_up first last k n rises in
          let b = line_up first last l n rises in
          let p = mul-le-mul_left (last - first) le in
          let c = div_rises ((last - first) * k) ((last - first) * l) n some p in
          omega (arith, a, b, c, le)
    ]

-- and fall, where they do
pub line_falls : (first last k l n : ℕ) → 0 < n → last + n ≤ first → k ≤ l → l ≤ n → on_line first last l n + l ≤ on_line first last k n + k
line_falls first last k l n some fast le within =
    let falls : last < first = omega (arith, some, fast) in
    let a = line_down first last k n falls in
    let b = line_down first last l n falls in
    let c = up_fast (first - last) k l n some (omega (arith, fast)) le in
    let d = up_within (first - last) l n some within in
    omega (arith, a, b, c, d, le, falls)

-- no travel time is above those of the two points
pub line_limit : (first last k n most : ℕ) → 0 < n → k ≤ n → first ≤ most → last ≤ most → on_line first last k n ≤ most
line_limit first last k n most some within f l =
    elim (cases_lt last first) [
      | inl falls ↦ let a = line_down first last k n falls in omega (arith, a, f)
      | inr rises ↦
          let a = line_up first last k n rises in
          let p = mul-le-mul_left (last - first) within in
          let b = div_rises ((last - first) * k) ((last - first) * n + 0) n some (omega (arith, p)) in
          let c = div-mul-add (last - first) n 0 some in
          omega (arith, a, b, c, l, rises)
    ]

-- travel times on a rising line stay until the product reaches the next multiple
up_stays : (c k n l : ℕ) → 0 < n → 0 < c → k ≤ l → l < up ((c * k / n + 1) * n) c → (c * l) / n ≡ (c * k) / n
up_stays c k n l some steep le before =
    let j = c * k / n in
    let low = div_rises (c * k) (c * l) n some (mul-le-mul_left c le) in
    let bound : l * c < (j + 1) * n = below_up l ((j + 1) * n) c steep before in
    let high : c * l / n ≤ j = elim (cases_lt j (c * l / n)) [
      | inl more ↦ absurd (let h = div-mul-le_self (c * l) n in let p = mul-le-mul_right n more in omega (arith, h, p, bound))
      | inr fine ↦ fine
    ] in
    omega (arith, low, high)
  where
    below_up : (l a c : ℕ) → 0 < c → l < up a c → l * c < a
    below_up l a c some before =
        let p = mul-le-mul_right c before in
        let h = div-mul-le_self (a + (c - 1)) c in
        omega (arith, p, h, some)

-- and on a falling line until the product passes this multiple
down_stays : (e k n l : ℕ) → 0 < n → 0 < e → k ≤ l → l < up (e * k) n * n / e + 1 → up (e * l) n ≡ up (e * k) n
down_stays e k n l some steep le before =
    let j = up (e * k) n in
    let p = mul-le-mul_left e le in
    let low = div_rises (e * k + (n - 1)) (e * l + (n - 1)) n some (omega (arith, p)) in
    let q : e * l ≤ j * n = let h = div-mul-le_self (j * n) e in let m = mul-le-mul_right e (let b : l ≤ j * n / e = omega (arith, before) in b) in omega (arith, h, m) in
    let high = div_rises (e * l + (n - 1)) (j * n + (n - 1)) n some (omega (arith, q)) in
    let r = div-mul-add j n (n - 1) (omega (arith, some)) in
    omega (arith, low, high, r)

pub rise_stays : (first last k n l : ℕ) → 0 < n → first < last → k ≤ l → l < up (((last - first) * k / n + 1) * n) (last - first) → on_line first last l n ≡ on_line first last k n
rise_stays first last k n l some steep le before =
    let a = line_up first last k n (omega (arith, steep)) in
    let b = line_up first last l n (omega (arith, steep)) in
    let c = up_stays (last - first) k n l some (omega (arith, steep)) le before in
    omega (arith, a, b, c)

pub fall_stays : (first last k n l : ℕ) → 0 < n → last < first → k ≤ l → l < up ((first - last) * k) n * n / (first - last) + 1 → on_line first last l n ≡ on_line first last k n
fall_stays first last k n l some steep le before =
    let a = line_down first last k n steep in
    let b = line_down first last l n steep in
    let c = down_stays (first - last) k n l some (omega (arith, steep)) le before in
    omega (arith, a, b, c)

-- where travel times fall, but not by a second a second, arrivals rise on a line of their own
fall_arrives : (first last k n : ℕ) → 0 < n → last < first → first < last + n → k ≤ n → on_line first last k n + k ≡ first + ((n - (first - last)) * k) / n
fall_arrives first last k n some steep slow within =
    let e = first - last in
    let g = n - e in
    let q = g * k / n in
    let line = line_down first last k n steep in
    let both : e + g ≡ n = omega (arith, steep, slow) in
    let whole : e * k + g * k ≡ k * n = (omega arith) ∙ ap (λ (x : ℕ). x * k) both ∙ omega arith in
    let parts = div-add-mod' (g * k) n in
    let below = mod_below (g * k) n some in
    let full = div-mul-add k n 0 some in
    let less = div_rises (g * k) (k * n + 0) n some (omega (arith, whole)) in
    let low : q ≤ k = omega (arith, full, less) in
    let join : q + (k - q) ≡ k = omega (arith, low) in
    let split : q * n + (k - q) * n ≡ k * n = (omega arith) ∙ ap (λ (x : ℕ). x * n) join in
    let rest : e * k + (n - 1) ≡ (k - q) * n + ((n - 1) - (g * k) % n) = omega (arith, whole, parts, below, split, some) in
    let over : up (e * k) n ≡ k - q = ap (λ (x : ℕ). x / n) rest ∙ div-mul-add (k - q) n ((n - 1) - (g * k) % n) (omega (arith, some)) in
    let fits = up_within e k n some within in
    omega (arith, line, over, fits, low, steep)

pub arrival_stays : (first last k n l : ℕ) → 0 < n → last < first → first < last + n → k ≤ l → l ≤ n
    → l < up (((n - (first - last)) * k / n + 1) * n) (n - (first - last)) → on_line first last l n + l ≡ on_line first last k n + k
arrival_stays first last k n l some steep slow le within before =
    let a = fall_arrives first last k n some steep slow (omega (arith, le, within)) in
    let b = fall_arrives first last l n some steep slow within in
    let c = up_stays (n - (first - last)) k n l some (omega (arith, steep, slow)) le before in
    omega (arith, a, b, c)
