-- Brief runs: runs of four bytes beside a base, and what lists of them say about each second of the day.
use Rattle.std.specs.Prelude.{ℕ, zero, suc, List, Some, ◌≡◌, ◌≢◌, ◌<◌, ◌+◌, ◌-◌, ◌/◌, ◌%◌, ◌^◌, ◌++◌, map, length, slice_get, take, All}
use Rattle.std.specs.Option.{option_map}
use Rattle.cu_model.specs.Begun.{Rises}
use Rattle.cu_model.specs.Days.{day}
use Rattle.cu_arrival.specs.declared.runs.Run.{Run}
use Rattle.cu_arrival.specs.declared.runs.RunRule.{RunRule}
use Rattle.cu_arrival.specs.declared.runs.RunRule.TheVariants.{Shift, Fixed}
use Rattle.cu_arrival.specs.Runs.{arrival_value}

-- 17 bits of the second from which it holds, one of its kind, and 14 of the seconds that it takes above the base, leaving at its first second
abbrev pub brief_from : ℕ → ℕ
brief_from bits = bits / 2 ^ 15

-- of kind 0 it takes as long whenever it leaves, else it arrives as then, whenever it leaves
abbrev pub brief_rule : ℕ → ℕ → ℕ → RunRule
brief_rule zero from travel = Shift travel
brief_rule (suc _) from travel = Fixed (from + travel)

abbrev pub run_of_brief : ℕ → ℕ → Run
run_of_brief base bits = record {
  from = bits / 2 ^ 15;
  rule = brief_rule (bits / 2 ^ 14 % 2) (bits / 2 ^ 15) (base + bits % 2 ^ 14);
}

-- the runs that brief ones mean
abbrev pub runs_of : ℕ → List ℕ → List Run
runs_of base brief = map (run_of_brief base) brief

-- the function that they mean: when they arrive, leaving at an absolute second
abbrev pub brief_value : ℕ → List ℕ → ℕ → ℕ
brief_value base brief t = arrival_value (runs_of base brief) t

-- brief runs of a day: from second 0 on, each from a later second than the one before
pub record IsBrief (brief : List ℕ) : Type 0 where
  pub starts : option_map brief_from (slice_get brief 0) ≡ Some 0
  pub rises : Rises brief_from brief
  pub limits : All (λ (bits : ℕ). brief_from bits < day) brief

-- no brief run beside this base means this run
abbrev pub HasNoBrief : ℕ → Run → Type 0
HasNoBrief base run = (bits : ℕ) → run_of_brief base bits ≢ run

-- these mean the runs of a function of the day, but for the one that ends it
pub record MeanPacked (base : ℕ) (packed : List Run) (brief : List ℕ) : Type 0 where
  pub day : IsBrief brief
  pub runs : runs_of base brief ≡ take (length packed - 1) packed
  pub value : (t : ℕ) → t < 86400 → brief_value base brief t ≡ arrival_value packed t

-- some were added that do
abbrev pub AddsMeant : ℕ → List Run → List ℕ → List ℕ → Type 0
AddsMeant base packed old new = (added : List ℕ) × (new ≡ old ++ added) × MeanPacked base packed added

-- some run of the function has no brief one
abbrev pub HasUnfit : ℕ → List Run → Type 0
HasUnfit base packed = (index : ℕ) × (run : Run) × (index + 1 < length packed) × (slice_get packed index ≡ Some run) × HasNoBrief base run
