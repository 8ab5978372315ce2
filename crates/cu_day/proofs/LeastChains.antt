-- What the two sweeps leave at the end is the least over all day chains.
use Rattle.std.proofs.Common.{◌≡◌, ◌≤◌, ◌∙◌, ◌++◌, ℕ, List, [], ◌∷◌, Option, Some, None, refl, sym, ap, subst, arith, inl, inr}
use Rattle.std.proofs.lemmas.Bool.{cases_lt}
use Rattle.cu_interval.specs.Hierarchies.{HierarchyValue}
use Rattle.cu_day.specs.DayChains.{GoesDown, GoesUp, HasNoChain, IsDayChain, IsLeastChain, Passes, chain_second, list_drive, second_behind}
use Rattle.cu_day.specs.Steps.Sweeping.{Always, BeginsAs, BeginsAt, IsSwept}
use Rattle.cu_day.proofs.Swept.{CountsBack, chain_back, least, reached}

-- through both parts
pub both_parts : (h : HierarchyValue) (Goes : ℕ → ℕ → Type 0) (x y : ℕ) (ups downs : List ℕ) (t : ℕ) → Passes Goes x ups y
    → second_behind (list_drive h) x (ups ++ downs) t ≡ second_behind (list_drive h) y downs (second_behind (list_drive h) x ups t)
both_parts h Goes x y [] downs t path = ap (λ (n : ℕ). second_behind (list_drive h) n downs t) path
both_parts h Goes x y (z ∷ ups) downs t path = both_parts h Goes z y ups downs (list_drive h x z t) path.1

-- what counts in both sweeps: at the end what is sooner, at the start of an arc what counts at its end, and upwards what counts downwards
pub record AreCounted (h : HierarchyValue) (from to : ℕ) (CountsUp CountsDown : ℕ → ℕ → Type 0) : Type 0 where
  pub sooner : (s r : ℕ) → r ≤ s → CountsDown to s → CountsDown to r
  pub back_up : CountsBack CountsUp (GoesUp h from) (list_drive h)
  pub back_down : CountsBack CountsDown (GoesDown h to) (list_drive h)
  pub turn : (x s : ℕ) (downs : List ℕ) → Passes (GoesDown h to) x downs to → CountsDown x s → CountsUp x s

-- as where all counts
pub all_counted : (h : HierarchyValue) (from to t : ℕ) → AreCounted h from to (Always t) (Always t)
all_counted h from to t = record {
  sooner = λ s r le counts. tt;
  back_up = λ x y s goes counts. tt;
  back_down = λ x y s goes counts. tt;
  turn = λ x s downs path counts. tt;
}

module _ (h : HierarchyValue) (from to t : ℕ) (CountsUp CountsDown : ℕ → ℕ → Type 0) (counted : AreCounted h from to CountsUp CountsDown)
    (rises falls : ℕ → ℕ) (up down : ℕ → Option ℕ)
    (swept_up : IsSwept CountsUp (GoesUp h from) (list_drive h) rises (BeginsAt from t) up)
    (swept_down : IsSwept CountsDown (GoesDown h to) (list_drive h) falls (BeginsAs up) down) where
  -- no day chain that counts is earlier than the end's label
  none_earlier : (ups downs : List ℕ) → IsDayChain h from to ups downs → CountsDown to (chain_second h from ups downs t)
      → (a : ℕ) × (down to ≡ Some a) × (a ≤ chain_second h from ups downs t)
  none_earlier ups downs chain counts =
      let path_up = chain.up in
      let path_down = chain.down in
      let s = second_behind (list_drive h) from ups t in
      let same = both_parts h (GoesUp h from) from chain.top ups downs t path_up in
      let at_end = subst (CountsDown to) same counts in
      let at_top = chain_back CountsDown (GoesDown h to) (list_drive h) counted.back_down chain.top to s downs path_down at_end in
      let top = least CountsUp (GoesUp h from) (list_drive h) rises (BeginsAt from t) up swept_up counted.back_up from chain.top t t ups
      (refl, refl) (omega arith) path_up (counted.turn chain.top s downs path_down at_top) in
      let end = least CountsDown (GoesDown h to) (list_drive h) falls (BeginsAs up) down swept_down counted.back_down chain.top to top.0 s downs
      top.1 top.2 path_down at_end in
      (end.0, end.1, subst (λ (n : ℕ). end.0 ≤ n) (sym same) end.2)

  -- the end's label is the least over all day chains, where it counts
  pub least_chain : (a : ℕ) → down to ≡ Some a → CountsDown to a → IsLeastChain h from to t a
  least_chain a e here =
      let low = reached CountsDown (GoesDown h to) (list_drive h) falls (BeginsAs up) down swept_down to a e in
      let high = reached CountsUp (GoesUp h from) (list_drive h) rises (BeginsAt from t) up swept_up low.start low.second low.begins in
      let path_up = subst (λ (n : ℕ). Passes (GoesUp h from) n high.ranks low.start) high.begins.0 high.path in
      let second : second_behind (list_drive h) from high.ranks t ≡ low.second =
      subst (λ (n : ℕ). second_behind (list_drive h) n high.ranks t ≡ low.second) high.begins.0
      (subst (λ (s : ℕ). second_behind (list_drive h) high.start high.ranks s ≡ low.second) high.begins.1 high.arrives) in
      record {
        reached = (
          high.ranks,
          low.ranks,
          record { top = low.start; up = path_up; down = low.path },
          both_parts h (GoesUp h from) from low.start high.ranks low.ranks t path_up
              ∙ ap (λ (s : ℕ). second_behind (list_drive h) low.start low.ranks s) second ∙ low.arrives,
        );
        least = λ ups downs chain. elim (cases_lt (chain_second h from ups downs t) a) [
          | inr later ↦ later
          | inl sooner ↦
              let counts = counted.sooner a (chain_second h from ups downs t) (omega (arith, sooner)) here in
              let other = none_earlier ups downs chain counts in
              omega (arith, some_same a other.0 (sym e ∙ other.1), other.2)
        ];
      }
    where
      some_same : (x y : ℕ) → Some x ≡ Some y → x ≡ y
      some_same x y e = cc e

  -- and without a label there is no day chain, where all counts
  pub no_chain : ((s : ℕ) → CountsDown to s) → down to ≡ None → HasNoChain h from to
  no_chain all none ups downs chain = let other = none_earlier ups downs chain (all (chain_second h from ups downs t)) in let is = sym none ∙ other.1 in absurd (cc is)
