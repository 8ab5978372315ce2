-- The two halves of a first way by a middle share no rank but the middle.
use Rattle.std.proofs.Common.{◌≡◌, ◌≤◌, ◌<◌, ◌∙◌, ℕ, List, [], ◌∷◌, ◌++◌, refl, sym, ap, subst, arith, inl, inr, ◌⊎◌, true, eqb, min}
use Rattle.std.specs.List.{list_any}
use Rattle.std.proofs.lemmas.Bool.{cases_Bool, eqb-true}
use Rattle.cu_model.specs.Networks.{NetworkValue, IsNetwork}
use Rattle.cu_model.specs.Orders.{OrderValue}
use Rattle.cu_model.specs.Roads.{drive}
use Rattle.cu_model.proofs.RoadLaws.{drive-append}
use Rattle.cu_interval.specs.declared.ways.Way.{Way}
use Rattle.cu_interval.specs.declared.ways.Way.TheVariants.{Road, Via}
use Rattle.cu_interval.specs.Low.{LeadsRanks, WalkBelow, IsLowWalk, IsLeastLowDrive}
use Rattle.cu_interval.specs.WayLists.{GoesFirst}
use Rattle.cu_interval.specs.FirstWays.{IsFirstWay}
use Rattle.cu_interval.proofs.Walks.{below-append, below-fifo, below-onward, low_step}
use Rattle.cu_interval.proofs.Simple.{Through, inner_below, through_below}
use Rattle.cu_interval.proofs.Candidates.{GoesBefore, candidate_below}

-- a walk, cut at an inner rank
record SplitAt (g : NetworkValue) (o : OrderValue) (m u z : ℕ) (w : List ℕ) (v : ℕ) : Type 0 where
  front : List ℕ
  back : List ℕ
  to : WalkBelow g o m u front z
  on : WalkBelow g o m z back v
  whole : w ≡ front ++ back

split_at : (g : NetworkValue) (o : OrderValue) (m u z : ℕ) (w xs : List ℕ) (v : ℕ) → Through g o m u w xs v → list_any (eqb z) xs ≡ true → SplitAt g o m u z w v
split_at g o m u z [] xs v h e = absurd h
split_at g o m u z (a ∷ []) xs v h e = absurd (go xs h.1 e)
  where
    go : (xs : List ℕ) → xs ≡ [] → list_any (eqb z) xs ≡ true → ⊥
    go [] n e = cc e
    go (y ∷ xs) n e = cc n
split_at g o m u z (a ∷ b ∷ w) [] v h e = absurd h
split_at g o m u z (a ∷ b ∷ w) (y ∷ ys) v h e =
    elim (cases_Bool (eqb z y)) [
      | inl here ↦
          let same = eqb-true z y here in
          record {
            front = a ∷ [];
            back = b ∷ w;
            to = subst (λ (k : ℕ). LeadsRanks g o a u k) (sym same) h.0;
            on = subst (λ (k : ℕ). WalkBelow g o m k (b ∷ w) v) (sym same) (through_below g o m y (b ∷ w) ys v h.2);
            whole = refl;
          }
      | inr other ↦
          let there : list_any (eqb z) ys ≡ true = rw other at e in
          let s = split_at g o m y z (b ∷ w) ys v h.2 there in
          record {
            front = a ∷ s.front;
            back = s.back;
            to = low_step g o m y a u s.front z h.1 h.0 s.to;
            on = s.on;
            whole = ap (λ (k : List ℕ). a ∷ k) s.whole;
          }
    ]

-- a way that comes before the middle m isn't the middle m nor after it
before_not : (m : ℕ) (way : Way) → GoesBefore m way → (Via m ≡ way) ⊎ GoesFirst (Via m) way → ⊥
before_not m (Road a) h (inl e) = cc e
before_not m (Road a) h (inr b) = b
before_not m (Via k) h (inl e) = let same : m ≡ k = cc e in absurd (omega (arith, h, same))
before_not m (Via k) h (inr b) = absurd (omega (arith, h, b))

pub halves_apart : (g : NetworkValue) (o : OrderValue) → IsNetwork g → (u v m t : ℕ)
    → ((x y s : ℕ) (w : List ℕ) → min x y < min u v → IsLowWalk g o x w y → (a : ℕ) × IsLeastLowDrive g o x y s a)
    → m < u → m < v → (first : IsFirstWay g o u v t (Via m))
    → (w1 xs w2 ys : List ℕ) → Through g o m u w1 xs m → Through g o m m w2 ys v → drive g w2 (drive g w1 t) ≡ first.arrival
    → (z : ℕ) → list_any (eqb z) xs ≡ true → list_any (eqb z) ys ≡ true → ⊥
halves_apart g o f u v m t has mu mv first w1 xs w2 ys h1 h2 value z in1 in2 =
    let p = split_at g o m u z w1 xs m h1 in1 in
    let s = split_at g o m m z w2 ys v h2 in2 in
    let z_below = inner_below g o m u w1 xs m z h1 in1 in
    let short = below-append g o m u z p.front s.back v z_below p.to s.on in
    let c = candidate_below g o f u v has m (omega arith) (omega arith) (p.front ++ s.back) t short in
    let a = drive g p.front t in
    let b = drive g w1 t in
    let one : b ≡ drive g p.back a = ap (λ (w : List ℕ). drive g w t) p.whole ∙ drive-append g p.front p.back t in
    let late1 = below-onward g o f m z p.back m a p.on in
    let two : drive g w2 b ≡ drive g s.back (drive g s.front b) = ap (λ (w : List ℕ). drive g w b) s.whole ∙ drive-append g s.front s.back b in
    let late2 = below-onward g o f m m s.front z b s.to in
    let no_earlier : a ≤ drive g s.front b = omega (arith, one, late1, late2) in
    let rise = below-fifo g o f m z s.back v a (drive g s.front b) s.on no_earlier in
    let joined = drive-append g p.front s.back t in
    let early = c.early in
    let at_most : c.arrival ≤ first.arrival = omega (arith, early, joined, rise, two, value) in
    elim (first.first c.way c.arrival c.candidate c.value) [
      | inl less ↦ absurd (omega (arith, less, at_most))
      | inr tie ↦ before_not m c.way c.before tie.1
    ]
