-- The fields of a line, cut one by one.
use Rattle.std.proofs.Common.{◌≡◌, ◌≤◌, ◌<◌, ◌+◌, ◌-◌, ◌==◌, ℕ, suc, zero, List, [], ◌∷◌, Option, Some, None, length, refl, ap, subst, arith}
use Rattle.std.specs.Prelude.{All, Err, take}
use Rattle.std.specs.Borrow.{Bor}
use Rattle.std.proofs.lemmas.List.Elements.{All-tail}
use Rattle.std.proofs.lemmas.List.Splits.{length-slice_split}
use Rattle.std.proofs.lemmas.List.Sums.{count_by-le-length}
use Rattle.cu_model.specs.Fields.{CutsField}
use Rattle.cu_model.specs.Queries.{fields_of_line}
use Rattle.cu_reach.specs.declared.lines.ManyRefusal.TheVariants.{Line}
use Rattle.cu_reach.specs.NodeFields.{fields_in}
use Rattle.cu_reach.specs.ReachLines.{latest_of_fields, reach_of_fields}

-- a line has a field
some_field : (parts : List (List ℕ)) (count : ℕ) → length parts ≡ count + 1 → (part : List ℕ) × (more : List (List ℕ)) × (parts ≡ part ∷ more)
some_field [] count e = absurd (omega (arith, e))
some_field (part ∷ parts) count e = (part, parts, refl)

pub line_has_field : (line : List ℕ) → (part : List ℕ) × (more : List (List ℕ)) × (fields_of_line line ≡ part ∷ more)
line_has_field line = some_field (fields_of_line line) _ (length-slice_split (λ (x : ℕ). x == 44) line)

pub four_or_more : (fields : List (List ℕ)) (a b c rest : List ℕ) (nodes : ℕ) → fields ≡ a ∷ b ∷ c ∷ fields_of_line rest
    → reach_of_fields nodes fields ≡ Err Line
four_or_more fields a b c rest nodes e = let (part, more, some) = line_has_field rest in rw (e, some) refl

pub five_or_more : (fields : List (List ℕ)) (a b c d rest : List ℕ) (nodes : ℕ) → fields ≡ a ∷ b ∷ c ∷ d ∷ fields_of_line rest
    → latest_of_fields nodes fields ≡ Err Line
five_or_more fields a b c d rest nodes e = let (part, more, some) = line_has_field rest in rw (e, some) refl

-- the first field, and those of the rest
pub cut_fields : (line field : List ℕ) (rest : Option (Bor (List ℕ))) → CutsField line field rest → fields_of_line line ≡ field ∷ fields_in rest
cut_fields line field None e = e
cut_fields line field (Some rest) e = e

pub few_fields : (line : List ℕ) → length (fields_of_line line) ≤ length line + 1
few_fields line =
    let count = length-slice_split (λ (x : ℕ). x == 44) line in
    let few = count_by-le-length (λ (x : ℕ). x == 44) line in
    omega (arith, count, few)

-- behind the first of so many fields
pub nodes_behind : (Fact : List ℕ → Type 0) (fields more : List (List ℕ)) (field : List ℕ) (left : ℕ) → fields ≡ field ∷ more → 0 < left
    → left ≤ length fields → All Fact (take left fields) → (left - 1 ≤ length more) × All Fact (take (left - 1) more)
nodes_behind Fact fields more field zero e some le all = absurd (omega (arith, some))
nodes_behind Fact fields more field (suc left) e some le all =
    let same : suc left - 1 ≡ left = omega arith in
    let long = ap length e in
    rw same (omega (arith, le, long), All-tail Fact field (take left more) (subst (λ (parts : List (List ℕ)). All Fact (take (suc left) parts)) e all))
