-- Labels that a sweep leaves: each is reached by a chain, and no chain is earlier.
use Rattle.std.proofs.Common.{◌≡◌, ◌≤◌, ◌<◌, ◌∙◌, ◌++◌, ℕ, zero, suc, List, [], ◌∷◌, Option, Some, refl, sym, ap, subst, arith, inl, inr}
use Rattle.cu_day.specs.Steps.Sweeping.{IsSwept}
use Rattle.cu_day.specs.DayChains.{Passes, second_behind}

-- a chain from where the sweep begins
pub record IsReached (Goes : ℕ → ℕ → Type 0) (drive : ℕ → ℕ → ℕ → ℕ) (Begins : ℕ → ℕ → Type 0) (y a : ℕ) : Type 0 where
  pub start : ℕ
  pub second : ℕ
  pub begins : Begins start second
  pub ranks : List ℕ
  pub path : Passes Goes start ranks y
  pub arrives : second_behind drive start ranks second ≡ a

module _ (Goes : ℕ → ℕ → Type 0) (drive : ℕ → ℕ → ℕ → ℕ) where
  pub passes_more : (x y z : ℕ) (ranks : List ℕ) → Passes Goes x ranks y → Goes y z → Passes Goes x (ranks ++ (z ∷ [])) z
  passes_more x y z [] path goes = (subst (λ (n : ℕ). Goes n z) (sym path) goes, refl)
  passes_more x y z (r ∷ ranks) path goes = (path.0, passes_more r y z ranks path.1 goes)

  pub behind_more : (x y z t : ℕ) (ranks : List ℕ) → Passes Goes x ranks y
      → second_behind drive x (ranks ++ (z ∷ [])) t ≡ drive y z (second_behind drive x ranks t)
  behind_more x y z t [] path = ap (λ (n : ℕ). drive n z t) path
  behind_more x y z t (r ∷ ranks) path = behind_more r y z (drive x r t) ranks path.1

-- the start of an arc counts where its end does
abbrev pub CountsBack : (ℕ → ℕ → Type 0) → (ℕ → ℕ → Type 0) → (ℕ → ℕ → ℕ → ℕ) → Type 0
CountsBack Counts Goes drive = (x y s : ℕ) → Goes x y → Counts y (drive x y s) → Counts x s

-- so does the start of a chain
pub chain_back : (Counts Goes : ℕ → ℕ → Type 0) (drive : ℕ → ℕ → ℕ → ℕ) → CountsBack Counts Goes drive → (x y s : ℕ) (ranks : List ℕ)
    → Passes Goes x ranks y → Counts y (second_behind drive x ranks s) → Counts x s
chain_back Counts Goes drive back x y s [] path counts = subst (λ (n : ℕ). Counts n s) (sym path) counts
chain_back Counts Goes drive back x y s (z ∷ ranks) path counts =
    back x z s path.0 (chain_back Counts Goes drive back z y (drive x z s) ranks path.1 counts)

module _ (Counts Goes : ℕ → ℕ → Type 0) (drive : ℕ → ℕ → ℕ → ℕ) (turn : ℕ → ℕ) (Begins : ℕ → ℕ → Type 0) (label : ℕ → Option ℕ)
    (swept : IsSwept Counts Goes drive turn Begins label) where
  reached_by : (fuel y a : ℕ) → turn y < fuel → label y ≡ Some a → IsReached Goes drive Begins y a
  reached_by zero y a few e = absurd (omega (arith, few))
  reached_by (suc fuel) y a few e =
      elim (swept.came y a e) [
        | inl begins ↦ record { start = y; second = a; begins = begins; ranks = []; path = refl; arrives = refl }
        | inr came ↦
            let lt = swept.turns came.from y came.goes in
            let before = reached_by fuel came.from came.before (omega (arith, lt, few)) came.had in
            record {
              start = before.start;
              second = before.second;
              begins = before.begins;
              ranks = before.ranks ++ (y ∷ []);
              path = passes_more Goes drive before.start came.from y before.ranks before.path came.goes;
              arrives = behind_more Goes drive before.start came.from y before.second before.ranks before.path
                  ∙ ap (drive came.from y) before.arrives ∙ came.drives;
            }
      ]

  -- each label is reached by a chain
  pub reached : (y a : ℕ) → label y ≡ Some a → IsReached Goes drive Begins y a
  reached y a e = reached_by (suc (turn y)) y a (omega arith) e

  onward : CountsBack Counts Goes drive → (x y b : ℕ) (ranks : List ℕ) → Passes Goes x ranks y → label x ≡ Some b → (t : ℕ) → b ≤ t
      → Counts y (second_behind drive x ranks t) → (a : ℕ) × (label y ≡ Some a) × (a ≤ second_behind drive x ranks t)
  onward back x y b [] path e t le counts = (b, subst (λ (n : ℕ). label n ≡ Some b) path e, le)
  onward back x y b (z ∷ ranks) path e t le counts =
      let here = chain_back Counts Goes drive back z y (drive x z t) ranks path.1 counts in
      let next = swept.led x z b t e path.0 le here in
      onward back z y next.0 ranks path.1 next.1 (drive x z t) next.2 counts

  -- and none is later than a chain that counts, from where the sweep begins or later
  pub least : CountsBack Counts Goes drive → (x y b t : ℕ) (ranks : List ℕ) → Begins x b → b ≤ t → Passes Goes x ranks y
      → Counts y (second_behind drive x ranks t) → (a : ℕ) × (label y ≡ Some a) × (a ≤ second_behind drive x ranks t)
  least back x y b t ranks begins le path counts =
      let first = swept.begun x b begins in
      onward back x y first.0 ranks path first.1 t (omega (arith, first.2, le)) counts
