-- How walks are written: a word, and behind it what is written of each road.
use Rattle.std.specs.Prelude.{ℕ, Bool, true, false, List, [], ◌∷◌, ◌++◌, codes, decimal}
use Rattle.cu_model.specs.Networks.{NetworkValue}
use Rattle.cu_model.specs.Roads.{drive}

-- a blank before a text, but not where it is the first of all
abbrev pub behind_blank : Bool → List ℕ → List ℕ
behind_blank true text = text
behind_blank false text = 32 ∷ text

-- a road's number alone
abbrev pub number_text : Bool → (road second : ℕ) → List ℕ
number_text first road second = behind_blank first (decimal road)

-- a road's number and the second at which it is entered
abbrev pub entered_text : Bool → (road second : ℕ) → List ℕ
entered_text first road second = behind_blank first (decimal road ++ 44 ∷ decimal second)

-- The roads of a walk that is driven from an absolute second, each by its text: of whether it is the first of all, its number, and the second
-- at which it is entered.
abbrev pub driven_text : (Bool → ℕ → ℕ → List ℕ) → NetworkValue → Bool → List ℕ → ℕ → List ℕ
driven_text text g first [] t = []
driven_text text g first (road ∷ walk) t = text first road t ++ driven_text text g false walk (drive g (road ∷ []) t)

-- an arrival over a walk that is driven from an absolute second: behind a word the roads, each by its text
abbrev pub arrival_text : (word : List ℕ) → (Bool → ℕ → ℕ → List ℕ) → NetworkValue → (second arrival : ℕ) → List ℕ → List ℕ
arrival_text word text g second arrival walk = codes "arrive=" ++ decimal arrival ++ word ++ driven_text text g true walk second

-- whether the next road is the first of all, after these
abbrev pub first_after : Bool → List ℕ → Bool
first_after first [] = first
first_after first (road ∷ roads) = false
