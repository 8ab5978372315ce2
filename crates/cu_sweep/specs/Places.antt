-- Places of labels and links: place x is rank x in the upward sweep, place nodes + x is rank x in the downward one.
use Rattle.std.specs.Prelude.{ℕ, zero, suc, List, [], ◌∷◌, ◌++◌, Option, Some, None, ◌≡◌, ◌<◌, ◌+◌, ◌*◌, nat_lt, if◌then◌else◌, length, slice_index_or}
use Rattle.cu_links.specs.Chains.{link_at}
use Rattle.cu_interval.specs.declared.ways.Dir.{Dir}
use Rattle.cu_interval.specs.declared.ways.Dir.TheVariants.{Up, Down}
use Rattle.cu_interval.specs.declared.relaxing.Call.{Call}
use Rattle.cu_sweep.specs.Sweeps.{call_at}

-- the second of a place; none where there is no such place
abbrev pub second_at : List (Option ℕ) → ℕ → Option ℕ
second_at labels place = slice_index_or labels place None

-- links are kept: there is a place for one
abbrev pub AreKept : List (Option (ℕ × ℕ)) → Type 0
AreKept links = 0 < length links

-- a kind keeps links, where this gives those of each one of it: not all of these are empty
abbrev pub KeepsLinks : {K : Type 0} → (K → List (Option (ℕ × ℕ))) → Type 0
KeepsLinks {K = K} links = ((one : K) → links one ≡ []) → ⊥

abbrev pub calls_of_some : Option Call → List Call
calls_of_some None = []
calls_of_some (Some call) = call ∷ []

-- which direction a link between two places leads in; none where a downward label starts as the upward one
abbrev pub dir_between : ℕ → ℕ → ℕ → Option Dir
dir_between nodes from place = if nat_lt place nodes then Some Up else (if nat_lt from nodes then None else Some Down)

abbrev pub calls_between : Option Dir → ℕ → Option ℕ → List Call
calls_between None edge second = []
calls_between (Some dir) edge second = calls_of_some (call_at (Some edge) dir second)

-- the call of a link, at the second of the place that it comes from
abbrev pub calls_over : ℕ → List (Option ℕ) → ℕ → ℕ → ℕ → List Call
calls_over nodes labels from place edge = calls_between (dir_between nodes from place) edge (second_at labels from)

-- the calls of the link into a place, behind those that lead to where it comes from
abbrev pub calls_after : (ℕ → List Call) → ℕ → List (Option ℕ) → ℕ → Option (ℕ × ℕ) → List Call
calls_after before nodes labels place None = []
calls_after before nodes labels place (Some link) = before link.0 ++ calls_over nodes labels link.0 place link.1

-- the calls of the links that lead to a place, as many as the fuel lasts
abbrev pub calls_to : ℕ → List (Option ℕ) → List (Option (ℕ × ℕ)) → ℕ → ℕ → List Call
calls_to nodes labels links zero place = []
calls_to nodes labels links (suc fuel) place = calls_after (calls_to nodes labels links fuel) nodes labels place (link_at links place)

-- a chain passes no more than all turns
abbrev pub calls_found : ℕ → List (Option ℕ) → List (Option (ℕ × ℕ)) → ℕ → List Call
calls_found nodes labels links place = calls_to nodes labels links (2 * nodes + 1) place
