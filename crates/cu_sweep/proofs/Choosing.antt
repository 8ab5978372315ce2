-- The earliest of labels, one label more.
use Rattle.std.proofs.Common.{◌≡◌, ◌∙◌, ℕ, true, false, List, [], ◌∷◌, ◌++◌, Option, Some, None, ltb, refl, sym, ap, arith, inl, inr, map}
use Rattle.std.proofs.lemmas.Bool.{cases_lt}
use Rattle.cu_sweep.specs.Labels.{Label, earlier_of, earliest}

pub earlier_none : (a : Option Label) → earlier_of a None ≡ a
earlier_none None = refl
earlier_none (Some a) = refl

earlier_late : (a b : Label) → ltb b.second a.second ≡ false → earlier_of (Some a) (Some b) ≡ Some a
earlier_late a b e = rw e refl

earlier_soon : (a b : Label) → ltb b.second a.second ≡ true → earlier_of (Some a) (Some b) ≡ Some b
earlier_soon a b e = rw e refl

three : (a b c : Label) → earlier_of (Some a) (earlier_of (Some b) (Some c)) ≡ earlier_of (earlier_of (Some a) (Some b)) (Some c)
three a b c =
    elim (cases_lt b.second a.second) [
      | inl ba ↦
          let ba_ : ltb b.second a.second ≡ true = grind (arith, ba) in
          elim (cases_lt c.second b.second) [
            | inl cb ↦
                let cb_ : ltb c.second b.second ≡ true = grind (arith, cb) in
                let ca_ : ltb c.second a.second ≡ true = grind (arith, cb, ba) in
                ap (earlier_of (Some a)) (earlier_soon b c cb_) ∙ earlier_soon a c ca_ ∙ sym (ap (λ (x : Option Label). earlier_of x (Some c)) (earlier_soon a b ba_) ∙ earlier_soon b c cb_)
            | inr cb ↦
                let cb_ : ltb c.second b.second ≡ false = grind (arith, cb) in
                ap (earlier_of (Some a)) (earlier_late b c cb_) ∙ earlier_soon a b ba_ ∙ sym (ap (λ (x : Option Label). earlier_of x (Some c)) (earlier_soon a b ba_) ∙ earlier_late b c cb_)
          ]
      | inr ba ↦
          let ba_ : ltb b.second a.second ≡ false = grind (arith, ba) in
          elim (cases_lt c.second b.second) [
            | inl cb ↦
                let cb_ : ltb c.second b.second ≡ true = grind (arith, cb) in
                ap (earlier_of (Some a)) (earlier_soon b c cb_) ∙ sym (ap (λ (x : Option Label). earlier_of x (Some c)) (earlier_late a b ba_))
            | inr cb ↦
                let cb_ : ltb c.second b.second ≡ false = grind (arith, cb) in
                let ca_ : ltb c.second a.second ≡ false = grind (arith, cb, ba) in
                ap (earlier_of (Some a)) (earlier_late b c cb_) ∙ earlier_late a b ba_ ∙ sym (ap (λ (x : Option Label). earlier_of x (Some c)) (earlier_late a b ba_) ∙ earlier_late a c ca_)
          ]
    ]

pub earlier_assoc : (a b c : Option Label) → earlier_of a (earlier_of b c) ≡ earlier_of (earlier_of a b) c
earlier_assoc None b c = refl
earlier_assoc (Some a) None c = refl
earlier_assoc (Some a) (Some b) None = sym (earlier_none (earlier_of (Some a) (Some b)))
earlier_assoc (Some a) (Some b) (Some c) = three a b c

pub earliest_more : (labels : List (Option Label)) (label : Option Label) → earliest (labels ++ (label ∷ [])) ≡ earlier_of (earliest labels) label
earliest_more [] label = earlier_none label
earliest_more (x ∷ labels) label = ap (earlier_of x) (earliest_more labels label) ∙ earlier_assoc x (earliest labels) label

pub map_more : (f : ℕ → Option Label) (xs : List ℕ) (x : ℕ) → map f (xs ++ (x ∷ [])) ≡ map f xs ++ (f x ∷ [])
map_more f [] x = refl
map_more f (y ∷ xs) x = ap (λ (labels : List (Option Label)). f y ∷ labels) (map_more f xs x)

-- after one rank more
pub after_more : (first : Option Label) (f : ℕ → Option Label) (done : List ℕ) (x : ℕ) → earliest (first ∷ map f (done ++ (x ∷ []))) ≡ earlier_of (earliest (first ∷ map f done)) (f x)
after_more first f done x =
    ap (λ (labels : List (Option Label)). earliest (first ∷ labels)) (map_more f done x) ∙ earliest_more (first ∷ map f done) (f x)
