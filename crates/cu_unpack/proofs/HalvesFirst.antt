-- Shortcuts that wait for a half, each of a higher edge than the next.
use Rattle.std.proofs.Common.{◌≡◌, ◌<◌, ◌+◌, ◌*◌, ◌∙◌, ℕ, suc, List, [], ◌∷◌, ◌++◌, Some, refl, sym, ap, subst, arith, inl, inr, length, get_or, length-append}
use Rattle.std.specs.Prelude.{All}
use Rattle.std.specs.List.{AllPairs}
use Rattle.std.proofs.lemmas.List.{get_or_append_left}
use Rattle.std.proofs.Math.Nat.{suc-mul}
use Rattle.std.proofs.Math.Seq.{get_or-append_seam}
use Rattle.std.proofs.lemmas.List.Elements.{All-pop, All-push}
use Rattle.std.proofs.lemmas.List.Quantifiers.{all_pairs_push}
use Rattle.cu_interval.specs.declared.shortcuts.Shortcut.{Shortcut}
use Rattle.cu_unpack.specs.Steps.Rebuilding.{Takes}

-- what waits: shortcuts that are still open, of falling edges
pub record AreWaitingHalves (IsOpen : Shortcut → Type 0) (waiting : List Shortcut) : Type 0 where
  pub missing : All IsOpen waiting
  pub falls : AllPairs (λ (a b : Shortcut). b.edge < a.edge) waiting

-- the next, and what waits behind it
pub record IsNextHalf (IsOpen : Shortcut → Type 0) (waiting : List Shortcut) (next : Shortcut) : Type 0 where
  pub open_still : IsOpen next
  pub behind : AreWaitingHalves IsOpen waiting
  pub above : All (λ (a : Shortcut). next.edge < a.edge) waiting

-- the edge of the last that waits, or of this shortcut
abbrev pub next_edge : List Shortcut → Shortcut → ℕ
next_edge [] shortcut = shortcut.edge
next_edge (x ∷ xs) shortcut = next_edge xs x

next_edge-push : (xs : List Shortcut) (x shortcut : Shortcut) → next_edge (xs ++ x ∷ []) shortcut ≡ x.edge
next_edge-push [] x shortcut = refl
next_edge-push (y ∷ ys) x shortcut = next_edge-push ys x y

pub none_waits : (IsOpen : Shortcut → Type 0) → AreWaitingHalves IsOpen []
none_waits IsOpen = record {
  missing = λ k d lt. absurd (omega (arith, lt));
  falls = λ i j d lt within. absurd (omega (arith, within));
}

front_falls : (xs : List Shortcut) (x : Shortcut) → AllPairs (λ (a b : Shortcut). b.edge < a.edge) (xs ++ x ∷ []) → AllPairs (λ (a b : Shortcut). b.edge < a.edge) xs
front_falls xs x falls i j d lt within =
    let long = length-append xs (x ∷ []) in
    let first = get_or_append_left xs (x ∷ []) d i (omega (arith, lt, within)) in
    let second = get_or_append_left xs (x ∷ []) d j within in
    let both = falls i j d lt (omega (arith, within, long)) in
    subst (λ (a : Shortcut). (get_or xs j d).edge < a.edge) first (subst (λ (b : Shortcut). b.edge < (get_or (xs ++ x ∷ []) i d).edge) second both)

last_falls : (xs : List Shortcut) (x : Shortcut) → AllPairs (λ (a b : Shortcut). b.edge < a.edge) (xs ++ x ∷ []) → All (λ (a : Shortcut). x.edge < a.edge) xs
last_falls xs x falls k d within =
    let long = length-append xs (x ∷ []) in
    let first = get_or_append_left xs (x ∷ []) d k within in
    let last = get_or-append_seam xs x [] d in
    let both = falls k (length xs) d within (omega (arith, long)) in
    subst (λ (a : Shortcut). x.edge < a.edge) first (subst (λ (b : Shortcut). b.edge < (get_or (xs ++ x ∷ []) k d).edge) last both)

-- the last that waits is next, or this shortcut where none waits
pub next_taken : (IsOpen : Shortcut → Type 0) (before now : List Shortcut) (shortcut next : Shortcut) → AreWaitingHalves IsOpen before → IsOpen shortcut
    → Takes before shortcut now next → IsNextHalf IsOpen now next
next_taken IsOpen before now shortcut next are missing (inl is) =
    let falls = subst (AllPairs (λ (a b : Shortcut). b.edge < a.edge)) is are.falls in
    let parts = All-pop IsOpen before now (Some next) is are.missing in
    record {
      open_still = parts.1;
      behind = record { missing = parts.0; falls = front_falls now next falls };
      above = last_falls now next falls;
    }
next_taken IsOpen before now shortcut next are missing (inr (none, empty, same)) = record {
  open_still = subst IsOpen (sym same) missing;
  behind = subst (AreWaitingHalves IsOpen) (sym empty) (none_waits IsOpen);
  above = subst (All (λ (a : Shortcut). next.edge < a.edge)) (sym empty) (λ k d lt. absurd (omega (arith, lt)));
}

next_edge-taken : (before now : List Shortcut) (shortcut next : Shortcut) → Takes before shortcut now next → next_edge before shortcut ≡ next.edge
next_edge-taken before now shortcut next (inl is) = ap (λ (xs : List Shortcut). next_edge xs shortcut) is ∙ next_edge-push now next shortcut
next_edge-taken before now shortcut next (inr (none, empty, same)) = ap (λ (xs : List Shortcut). next_edge xs shortcut) none ∙ ap (λ (s : Shortcut). s.edge) (sym same)

push : (IsOpen : Shortcut → Type 0) (waiting : List Shortcut) (next : Shortcut) → IsNextHalf IsOpen waiting next → AreWaitingHalves IsOpen (waiting ++ next ∷ [])
push IsOpen waiting next is = record {
  missing = All-push IsOpen waiting next is.behind.missing is.open_still;
  falls = all_pairs_push (λ (a b : Shortcut). b.edge < a.edge) waiting next is.behind.falls (λ k d lt. is.above k d lt);
}

-- a half of the next waits above it
pub half_waits : (IsOpen : Shortcut → Type 0) (waiting : List Shortcut) (next half : Shortcut) → IsNextHalf IsOpen waiting next → IsOpen half → half.edge < next.edge
    → AreWaitingHalves IsOpen ((waiting ++ next ∷ []) ++ half ∷ [])
half_waits IsOpen waiting next half is missing below =
    push IsOpen (waiting ++ next ∷ []) half (record {
      open_still = missing;
      behind = push IsOpen waiting next is;
      above = All-push (λ (a : Shortcut). half.edge < a.edge) waiting next (λ k d lt. let above = is.above k d lt in omega (arith, above, below)) below;
    })

-- and a lower edge is next
pub half_smaller : (amount : ℕ) (before now waiting : List Shortcut) (shortcut next half : Shortcut) → Takes before shortcut waiting next
    → now ≡ (waiting ++ next ∷ []) ++ half ∷ [] → half.edge < next.edge → amount + next_edge now shortcut < amount + next_edge before shortcut
half_smaller amount before now waiting shortcut next half taken is below =
    let old = next_edge-taken before waiting shortcut next taken in
    let new : next_edge now shortcut ≡ half.edge = ap (λ (xs : List Shortcut). next_edge xs shortcut) is ∙ next_edge-push (waiting ++ next ∷ []) half shortcut in
    omega (arith, old, new, below)

-- those behind still wait where the next isn't open any more, and those above it are
pub still_wait : (Before Now : Shortcut → Type 0) (waiting : List Shortcut) (next : Shortcut) → IsNextHalf Before waiting next
    → ((other : Shortcut) → next.edge < other.edge → Before other → Now other) → AreWaitingHalves Now waiting
still_wait Before Now waiting next is still = record {
  missing = λ k d lt. still (get_or waiting k d) (is.above k d lt) (is.behind.missing k d lt);
  falls = is.behind.falls;
}

-- the edge of what is next is one
next_within : (IsOpen : Shortcut → Type 0) (edges : ℕ) (waiting : List Shortcut) (shortcut : Shortcut) → ((s : Shortcut) → IsOpen s → s.edge < edges) → All IsOpen waiting → shortcut.edge < edges
    → next_edge waiting shortcut < edges
next_within IsOpen edges [] shortcut within all lt = lt
next_within IsOpen edges (x ∷ xs) shortcut within all lt = next_within IsOpen edges xs x within (λ k d below. all (suc k) d (omega (arith, below))) (within x (all 0 x (omega arith)))

-- fewer are missing, whichever is next
one_fewer : (before now edges old_edge new_edge : ℕ) → before ≡ now + 1 → new_edge < edges → now * edges + new_edge < before * edges + old_edge
one_fewer before now edges old_edge new_edge fewer lt =
    let next : before ≡ suc now = omega (arith, fewer) in
    let more : before * edges ≡ now * edges + edges = ap (λ (n : ℕ). n * edges) next ∙ suc-mul now edges in
    omega (arith, more, lt)

-- or one less is missing
pub one_smaller : (IsOpen : Shortcut → Type 0) (edges many few : ℕ) (before waiting : List Shortcut) (shortcut next : Shortcut) → IsNextHalf IsOpen waiting next
    → ((s : Shortcut) → IsOpen s → s.edge < edges) → many ≡ few + 1 → shortcut.edge < edges
    → few * edges + next_edge waiting shortcut < many * edges + next_edge before shortcut
one_smaller IsOpen edges many few before waiting shortcut next is within fewer lt =
    one_fewer many few edges (next_edge before shortcut) (next_edge waiting shortcut) fewer (next_within IsOpen edges waiting shortcut within is.behind.missing lt)
