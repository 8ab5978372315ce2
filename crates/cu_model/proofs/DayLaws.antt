-- From one day to all seconds: what repeats by whole days, is onward and keeps order on day 0 does so at every second.
use Rattle.std.proofs.Common.{◌≡◌, ◌≤◌, ◌<◌, ◌+◌, ◌-◌, ◌*◌, ◌/◌, ◌%◌, ℕ, zero, suc, sym, subst, arith, inl, inr}
use Rattle.std.proofs.lemmas.Nat.{div-add-mod', mod_below}
use Rattle.std.proofs.lemmas.Bool.{cases_lt}
use Rattle.cu_model.specs.Days.{day, RepeatsDaily, IsOnward, KeepsOrder}

-- every second is one of a day
pub day_parts : (t : ℕ) → (k s : ℕ) × (s < day) × (t ≡ k * day + s)
day_parts t = (t / day, t % day, mod_below t day (omega arith), sym (div-add-mod' t day))

module _ (f : ℕ → ℕ) (repeats : RepeatsDaily f) where
  -- no arrival is before its departure
  pub onward_always : IsOnward f → (t : ℕ) → t ≤ f t
  onward_always onward t =
      let (k, s, h, e) = day_parts t in
      let v = repeats k s h in
      let l = onward s h in
      subst (λ (x : ℕ). x ≤ f x) (sym e) (omega (arith, v, l))

  module _ (order : KeepsOrder f) where
    next_second : (t : ℕ) → f t ≤ f (t + 1)
    next_second t =
        let (k, s, h, e) = day_parts t in
        let v = repeats k s h in
        let step = order s h in
        let claim : f (k * day + s) ≤ f ((k * day + s) + 1) =
        elim (cases_lt (s + 1) day) [
          | inl inside ↦
              let w = repeats k (s + 1) inside in
              let same : k * day + (s + 1) ≡ (k * day + s) + 1 = omega arith in
              let w2 = subst (λ (x : ℕ). f x ≡ k * day + f (s + 1)) same w in
              omega (arith, v, w2, step)
          | inr last ↦
              let is : s + 1 ≡ 1 * day + 0 = omega (arith, h, last) in
              let w = repeats (k + 1) 0 (omega arith) in
              let one = repeats 1 0 (omega arith) in
              let same : (k + 1) * day + 0 ≡ (k * day + s) + 1 = omega (arith, is) in
              let w2 = subst (λ (x : ℕ). f x ≡ (k + 1) * day + f 0) same w in
              let over = subst (λ (x : ℕ). f s ≤ f x) is step in
              omega (arith, v, w2, one, over)
        ] in
        subst (λ (x : ℕ). f x ≤ f (x + 1)) (sym e) claim

    rises_by : (t d : ℕ) → f t ≤ f (t + d)
    rises_by t zero = let e : t + 0 ≡ t = omega arith in subst (λ (x : ℕ). f t ≤ f x) (sym e) (omega arith)
    rises_by t (suc d) =
        let a = rises_by t d in
        let b = next_second (t + d) in
        let e : (t + d) + 1 ≡ t + suc d = omega arith in
        let c = subst (λ (x : ℕ). f (t + d) ≤ f x) e b in
        omega (arith, a, c)

    -- leaving later never arrives earlier, at any two seconds
    pub order_always : (t s : ℕ) → t ≤ s → f t ≤ f s
    order_always t s h =
        let e : t + (s - t) ≡ s = omega (arith, h) in
        subst (λ (x : ℕ). f t ≤ f x) e (rises_by t (s - t))

  -- a day later the function arrives a day later
  pub next_day : (t : ℕ) → f (day + t) ≡ day + f t
  next_day t =
      let (k, s, h, e) = day_parts t in
      let v = repeats k s h in
      let w = repeats (k + 1) s h in
      let same : (k + 1) * day + s ≡ day + (k * day + s) = omega arith in
      let w2 = subst (λ (x : ℕ). f x ≡ (k + 1) * day + f s) same w in
      subst (λ (x : ℕ). f (day + x) ≡ day + f x) (sym e) (omega (arith, v, w2))

  -- many days later, so many days later
  pub many_days : (days t : ℕ) → f (days * day + t) ≡ days * day + f t
  many_days days t =
      let (k, s, h, e) = day_parts t in
      let v = repeats k s h in
      let w = repeats (days + k) s h in
      let same : (days + k) * day + s ≡ days * day + (k * day + s) = omega arith in
      let w2 = subst (λ (x : ℕ). f x ≡ (days + k) * day + f s) same w in
      subst (λ (x : ℕ). f (days * day + x) ≡ days * day + f x) (sym e) (omega (arith, v, w2))
