-- One arc after the other: what taking an arc leaves of a sweep.
use Rattle.std.proofs.Common.{◌≡◌, ◌≢◌, ◌≤◌, ◌<◌, ◌∙◌, ℕ, Option, Some, None, refl, sym, ap, subst, arith, inl, inr, ◌⊎◌, min}
use Rattle.std.specs.Prelude.{option_map}
use Rattle.std.proofs.lemmas.Bool.{cases_order}
use Rattle.cu_interval.specs.Resettling.{lesser_of}
use Rattle.cu_day.specs.Steps.Sweeping.{CameOver, IsSwept, IsTaken}

-- these arcs, and one more
abbrev pub With : (ℕ → ℕ → Type 0) → ℕ → ℕ → ℕ → ℕ → Type 0
With Goes x y p q = Goes p q ⊎ ((p ≡ x) × (q ≡ y))

-- which of both the lesser is, and that it is no later than either
lesser_came : (a b : Option ℕ) (s : ℕ) → lesser_of a b ≡ Some s → (a ≡ Some s) ⊎ (b ≡ Some s)
lesser_came None b s e = inr e
lesser_came (Some x) None s e = inl e
lesser_came (Some x) (Some y) s e = elim (cases_order x y) [
  | inl eq ↦ inl (ap Some (omega (arith, eq)) ∙ e)
  | inr order ↦ elim order [
    | inl less ↦ inl (ap Some (omega (arith, less)) ∙ e)
    | inr more ↦ inr (ap Some (omega (arith, more)) ∙ e)
  ]
]

lesser_first : (a b : Option ℕ) (x : ℕ) → a ≡ Some x → (s : ℕ) × (lesser_of a b ≡ Some s) × (s ≤ x)
lesser_first None b x e = absurd (cc e)
lesser_first (Some y) None x e = (y, refl, let is : y ≡ x = cc e in omega (arith, is))
lesser_first (Some y) (Some z) x e = (min y z, refl, let is : y ≡ x = cc e in omega (arith, is))

lesser_second : (a b : Option ℕ) (x : ℕ) → b ≡ Some x → (s : ℕ) × (lesser_of a b ≡ Some s) × (s ≤ x)
lesser_second None b x e = (x, e, omega arith)
lesser_second (Some y) None x e = absurd (cc e)
lesser_second (Some y) (Some z) x e = (min y z, refl, let is : z ≡ x = cc e in omega (arith, is))

mapped : (f : ℕ → ℕ) (a : Option ℕ) (s : ℕ) → option_map f a ≡ Some s → (b : ℕ) × (a ≡ Some b) × (f b ≡ s)
mapped f None s e = absurd (cc e)
mapped f (Some b) s e = (b, refl, cc e)

-- an arc is taken by the lesser of its end's label and what it makes of the start's
pub lesser_taken : (Counts : ℕ → ℕ → Type 0) (drive : ℕ → ℕ → ℕ → ℕ) (x y : ℕ) (before after : ℕ → Option ℕ)
    → ((s t : ℕ) → s ≤ t → drive x y s ≤ drive x y t) → ((z : ℕ) → z ≢ y → after z ≡ before z)
    → after y ≡ lesser_of (before y) (option_map (drive x y) (before x)) → IsTaken Counts drive x y before after
lesser_taken Counts drive x y before after fifo others end = record {
  others = others;
  kept = λ a e. let less = lesser_first (before y) (option_map (drive x y) (before x)) a e in (less.0, end ∙ less.1, less.2);
  came = λ a e. elim (lesser_came (before y) (option_map (drive x y) (before x)) a (sym end ∙ e)) [
    | inl old ↦ inl old
    | inr new ↦ inr (mapped (drive x y) (before x) a new)
  ];
  led = λ b s e le counts.
      let less = lesser_second (before y) (option_map (drive x y) (before x)) (drive x y b) (ap (option_map (drive x y)) e) in
      let rises = fifo b s le in
      (less.0, end ∙ less.1, omega (arith, less.2, rises));
}

module _ (Counts : ℕ → ℕ → Type 0) (Goes : ℕ → ℕ → Type 0) (drive : ℕ → ℕ → ℕ → ℕ) (turn : ℕ → ℕ) (Begins : ℕ → ℕ → Type 0)
    (before after : ℕ → Option ℕ) (x y : ℕ) where
  -- a rank that isn't the arc's end has its label, and the arc's end has one no later than its own
  kept : IsTaken Counts drive x y before after → (z a : ℕ) → before z ≡ Some a → (b : ℕ) × (after z ≡ Some b) × (b ≤ a)
  kept taken z a e = elim (cases_order z y) [
    | inl same ↦
        let less = taken.kept a (subst (λ (n : ℕ). before n ≡ Some a) same e) in
        (less.0, subst (λ (n : ℕ). after n ≡ Some less.0) (sym same) less.1, less.2)
    | inr order ↦ (a, taken.others z (λ same. elim order [ inl l ↦ omega (arith, l, same) | inr m ↦ omega (arith, m, same) ]) ∙ e, omega arith)
  ]

  -- Taking an arc whose end no arc has left so far.
  pub take_arc : IsSwept Counts Goes drive turn Begins before → ((z : ℕ) → Goes y z → ⊥) → turn x < turn y
      → IsTaken Counts drive x y before after → IsSwept Counts (With Goes x y) drive turn Begins after
  take_arc swept fresh rises taken = record {
    turns = λ p q goes. elim goes [
      | inl old ↦ swept.turns p q old
      | inr new ↦ subst (λ (n : ℕ). turn n < turn q) (sym new.0)
          (subst (λ (n : ℕ). turn x < turn n) (sym new.1) rises)
    ];
    came = λ z a e. came_by z a e (cases_order z y);
    begun = λ z b begins. let old = swept.begun z b begins in let new = kept taken z old.0 old.1 in (new.0, new.1, omega (arith, old.2, new.2));
    led = λ p q b s e goes le counts. led_by p q b s e goes le counts;
  } where
    apart : (z : ℕ) → (z < y) ⊎ (y < z) → z ≢ y
    apart z order same = elim order [ inl l ↦ omega (arith, l, same) | inr m ↦ omega (arith, m, same) ]

    not_end : (p q : ℕ) → Goes p q → p ≢ y
    not_end p q goes same = fresh q (subst (λ (n : ℕ). Goes n q) same goes)

    start_apart : x ≢ y
    start_apart same = let h = subst (λ (n : ℕ). turn n < turn y) same rises in omega (arith, h)

    over_old : (z a : ℕ) → CameOver Goes drive before z a → CameOver (With Goes x y) drive after z a
    over_old z a over = record {
      from = over.from;
      before = over.before;
      had = taken.others over.from (not_end over.from z over.goes) ∙ over.had;
      goes = inl over.goes;
      drives = over.drives;
    }

    came_by : (z a : ℕ) → after z ≡ Some a → (z ≡ y) ⊎ ((z < y) ⊎ (y < z)) → Begins z a ⊎ CameOver (With Goes x y) drive after z a
    came_by z a e (inr order) = elim
        (swept.came z a (sym (taken.others z (apart z order)) ∙ e)) [ inl begins ↦ inl begins | inr over ↦ inr (over_old z a over) ]
    came_by z a e (inl same) = elim (taken.came a (subst (λ (n : ℕ). after n ≡ Some a) same e)) [
      | inl old ↦ elim (swept.came z a (subst (λ (n : ℕ). before n ≡ Some a) (sym same) old)) [
        | inl begins ↦ inl begins
        | inr over ↦ inr (over_old z a over)
      ]
      | inr new ↦ inr (record {
        from = x;
        before = new.0;
        had = taken.others x start_apart ∙ new.1;
        goes = inr (refl, same);
        drives = subst (λ (n : ℕ). drive x n new.0 ≡ a) (sym same) new.2;
      })
    ]

    led_by : (p q b s : ℕ) → after p ≡ Some b → With Goes x y p q → b ≤ s → Counts q (drive p q s)
        → (a : ℕ) × (after q ≡ Some a) × (a ≤ drive p q s)
    led_by p q b s e (inl old) le counts =
        let at = sym (taken.others p (not_end p q old)) ∙ e in
        let led = swept.led p q b s at old le counts in
        let new = kept taken q led.0 led.1 in
        (new.0, new.1, omega (arith, led.2, new.2))
    led_by p q b s e (inr new) le counts =
        let at = sym (taken.others x start_apart) ∙ subst (λ (n : ℕ). after n ≡ Some b) new.0 e in
        let here : Counts y (drive x y s) =
        subst (λ (n : ℕ). Counts n (drive x n s)) new.1 (subst (λ (n : ℕ). Counts q (drive n q s)) new.0 counts) in
        let led = taken.led b s at le here in (
          led.0,
          subst (λ (n : ℕ). after n ≡ Some led.0) (sym new.1) led.1,
          subst (λ (n : ℕ). led.0 ≤ drive n q s) (sym new.0) (subst (λ (n : ℕ). led.0 ≤ drive x n s) (sym new.1) led.2),
        )

-- the same arcs, said in another way
pub swept_same : (Counts : ℕ → ℕ → Type 0) (Goes Same : ℕ → ℕ → Type 0) (drive : ℕ → ℕ → ℕ → ℕ) (turn : ℕ → ℕ) (Begins : ℕ → ℕ → Type 0)
    (label : ℕ → Option ℕ)
    → ((x y : ℕ) → Goes x y → Same x y) → ((x y : ℕ) → Same x y → Goes x y) → IsSwept Counts Goes drive turn Begins label
    → IsSwept Counts Same drive turn Begins label
swept_same Counts Goes Same drive turn Begins label to from swept = record {
  turns = λ x y goes. swept.turns x y (from x y goes);
  came = λ y a e. elim (swept.came y a e) [
    | inl begins ↦ inl begins
    | inr over ↦ inr (record { from = over.from; before = over.before; had = over.had; goes = to over.from y over.goes; drives = over.drives })
  ];
  begun = swept.begun;
  led = λ x y b s e goes le counts. swept.led x y b s e (from x y goes) le counts;
}
