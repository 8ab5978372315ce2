-- The arcs of one rank after the other.
use Rattle.std.proofs.Common.{◌≡◌, ◌<◌, ◌-◌, ◌∙◌, ◌++◌, ℕ, List, [], ◌∷◌, Option, refl, sym, ap, subst, arith, inl, inr}
use Rattle.std.specs.List.{Contains}
use Rattle.std.proofs.lemmas.List.{append-nil}
use Rattle.std.proofs.lemmas.List.Elements.{Contains-append_cases}
use Rattle.std.proofs.lemmas.Grind.{flat_map-append}
use Rattle.cu_arrival.specs.declared.runs.Run.{Run}
use Rattle.cu_chordal.specs.Graphs.{up_of}
use Rattle.cu_chordal.proofs.Members.{here, none_in_nil, there}
use Rattle.cu_interval.specs.Hierarchies.{HierarchyValue}
use Rattle.cu_day.specs.DayChains.{list_drive}
use Rattle.cu_day.specs.Steps.Sweeping.{Arc, BeginsAs, BeginsAt, IsSwept, Over, StartAbove, StartBelow, arcs_down, arcs_down_all, arcs_up, arcs_up_all, label_at}
use Rattle.cu_day.specs.Steps.Ranks.{DownSweptBy, GathersFrom, HasSweptUp, SpreadsTo}
use Rattle.cu_day.proofs.Spreading.{down_starts, up_starts}

pub all_up_starts : (h : HierarchyValue) (ranks : List ℕ) (a : Arc) → Contains (arcs_up_all h ranks) a
    → Contains ranks a.start × Contains (up_of h.edges a.start) a.end
all_up_starts h [] a c = absurd (none_in_nil a c)
all_up_starts h (x ∷ ranks) a c = elim (Contains-append_cases (arcs_up h x (up_of h.edges x)) (arcs_up_all h ranks) a c) [
  | inl first ↦
      let e = up_starts h x (up_of h.edges x) a first in
      (subst (λ (n : ℕ). Contains (x ∷ ranks) n) (sym e.0) (here x ranks), subst (λ (n : ℕ). Contains (up_of h.edges n) a.end) (sym e.0) e.1)
  | inr rest ↦ let e = all_up_starts h ranks a rest in (there x ranks a.start e.0, e.1)
]

pub all_down_starts : (h : HierarchyValue) (ranks : List ℕ) (a : Arc) → Contains (arcs_down_all h ranks) a
    → Contains ranks a.end × Contains (up_of h.edges a.end) a.start
all_down_starts h [] a c = absurd (none_in_nil a c)
all_down_starts h (x ∷ ranks) a c = elim (Contains-append_cases (arcs_down h x (up_of h.edges x)) (arcs_down_all h ranks) a c) [
  | inl first ↦
      let e = down_starts h x (up_of h.edges x) a first in
      (subst (λ (n : ℕ). Contains (x ∷ ranks) n) (sym e.0) (here x ranks), subst (λ (n : ℕ). Contains (up_of h.edges n) a.start) (sym e.0) e.1)
  | inr rest ↦ let e = all_down_starts h ranks a rest in (there x ranks a.end e.0, e.1)
]

pub swept_up_none : (Counts : ℕ → ℕ → ℕ → Type 0) (h : HierarchyValue) (labels : List (Option (List Run))) → HasSweptUp Counts h [] labels labels
swept_up_none Counts h labels = record { long = refl; sound = λ sound. sound; swept = λ from swept. swept }

pub swept_down_none : (Counts : ℕ → ℕ → ℕ → Type 0) (h : HierarchyValue) (labels : List (Option (List Run))) → DownSweptBy Counts h [] labels labels
swept_down_none Counts h labels = (refl, λ sound. sound, λ ups swept. swept)

one_up : (h : HierarchyValue) (done : List ℕ) (x : ℕ) → arcs_up_all h done ++ arcs_up h x (up_of h.edges x) ≡ arcs_up_all h (done ++ (x ∷ []))
one_up h done x = ap (λ (list : List Arc). arcs_up_all h done ++ list) (sym (append-nil (arcs_up h x (up_of h.edges x))))
    ∙ sym (flat_map-append (λ (z : ℕ). arcs_up h z (up_of h.edges z)) done (x ∷ []))

one_down : (h : HierarchyValue) (done : List ℕ) (x : ℕ) → arcs_down_all h done ++ arcs_down h x (up_of h.edges x) ≡ arcs_down_all h
    (done ++ (x ∷ []))
one_down h done x = ap (λ (list : List Arc). arcs_down_all h done ++ list) (sym (append-nil (arcs_down h x (up_of h.edges x))))
    ∙ sym (flat_map-append (λ (z : ℕ). arcs_down h z (up_of h.edges z)) done (x ∷ []))

pub swept_up_more : (Counts : ℕ → ℕ → ℕ → Type 0) (h : HierarchyValue) (done : List ℕ) (x : ℕ) (before mid after : List (Option (List Run))) → ((y : ℕ) → Contains done y → y < x)
    → HasSweptUp Counts h done before mid
    → SpreadsTo Counts h x (up_of h.edges x) mid after → HasSweptUp Counts h (done ++ (x ∷ [])) before after
swept_up_more Counts h done x before mid after below swept spreads = record {
  long = spreads.long ∙ swept.long;
  sound = λ sound. spreads.sound (swept.sound sound);
  swept = λ from begun t within.
      let starts : StartBelow x (arcs_up_all h done) = λ p q c. below p (all_up_starts h done (record { start = p; end = q }) c).0 in
      subst (λ (list : List Arc). IsSwept (Counts t) (Over list) (list_drive h) (λ x. x) (BeginsAt from t) (label_at after t)) (one_up h done x)
      (spreads.swept from (arcs_up_all h done) starts (swept.swept from begun) t within);
}

pub swept_down_more : (Counts : ℕ → ℕ → ℕ → Type 0) (h : HierarchyValue) (done : List ℕ) (x : ℕ) (before mid after : List (Option (List Run)))
    → ((y : ℕ) → Contains done y → x < y)
    → ((y z : ℕ) → Contains (up_of h.edges y) z → y < z)
    → DownSweptBy Counts h done before mid
    → GathersFrom Counts h x (up_of h.edges x) mid after → DownSweptBy Counts h (done ++ (x ∷ [])) before after
swept_down_more Counts h done x before mid after above rises swept gathers = (
  gathers.long ∙ swept.0,
  λ sound. gathers.sound (swept.1 sound),
  λ ups begun t within.
      let starts : StartAbove x (arcs_down_all h done) = λ p q c.
      let e = all_down_starts h done (record { start = p; end = q }) c in
      let a = above q e.0 in
      let b = rises q p e.1 in
      omega (arith, a, b) in
      subst (λ (list : List Arc). IsSwept (Counts t) (Over list) (list_drive h) (λ x. h.network.nodes - x) (BeginsAs (label_at ups t)) (label_at after t))
      (one_down h done x)
      (gathers.swept ups (arcs_down_all h done) starts (swept.2 ups begun) t within),
)
