-- What packed files, and bytes that are none, make of a run.
use Rattle.std.proofs.Common.{◌≡◌, ◌≢◌, ℕ, List, true, false, ap, subst}
use Rattle.std.proofs.lemmas.Bool.{eqb-true}
use Rattle.cu_io.specs.Shelves.{ShelfState}
use Rattle.cu_interval.specs.Hierarchies.{HierarchyValue}
use Rattle.cu_pack.specs.Checks.{Spells}
use Rattle.cu_pack.specs.declared.refusals.PackRefusal.{PackRefusal}
use Rattle.cu_pack.specs.declared.refusals.PackRefusal.TheVariants as pack
use Rattle.cu_pack.proofs.Spelled.Again.{same_hierarchy}
use Rattle.cu_cli.specs.Opening.{IsNoFile, Opens, StopsChecks}
use Rattle.cu_cli.specs.Steps.Opening.{names_version_1}
use Rattle.cu_cli.specs.Steps.Outcomes.{IsRefusal, stop_of_file}
use Rattle.cu_cli.specs.Words.{FileAsked}

-- the stop of bytes that are no packed file, which comes before the script; want of memory has its own
pub stops_checks : (bytes : List ℕ) (refusal : PackRefusal) → (refusal ≢ pack.NoMemory → IsNoFile bytes refusal) → StopsChecks bytes (stop_of_file refusal) × IsRefusal (stop_of_file refusal)
stops_checks bytes pack.Short h = ((h (λ e. cc e), λ e. cc e), tt)
stops_checks bytes pack.Magic h = ((h (λ e. cc e), λ e. cc e), tt)
stops_checks bytes (pack.Version found) h = ((h (λ e. cc e), λ e. cc e), tt)
stops_checks bytes (pack.Length said found) h = ((h (λ e. cc e), λ e. cc e), tt)
stops_checks bytes pack.Digest h = ((h (λ e. cc e), λ e. cc e), tt)
stops_checks bytes (pack.Limit field) h = ((h (λ e. cc e), λ e. cc e), tt)
stops_checks bytes (pack.Size counted found) h = ((h (λ e. cc e), λ e. cc e), tt)
stops_checks bytes (pack.Order rank) h = ((h (λ e. cc e), λ e. cc e), tt)
stops_checks bytes (pack.RoadArc arc) h = ((h (λ e. cc e), λ e. cc e), tt)
stops_checks bytes (pack.Profile number) h = ((h (λ e. cc e), λ e. cc e), tt)
stops_checks bytes (pack.Graph rank) h = ((h (λ e. cc e), λ e. cc e), tt)
stops_checks bytes (pack.Ways edge dir) h = ((h (λ e. cc e), λ e. cc e), tt)
stops_checks bytes (pack.Bound edge dir) h = ((h (λ e. cc e), λ e. cc e), tt)
stops_checks bytes pack.NoMemory h = (tt, tt)

-- the opened file is that of each hierarchy that its bytes of version 2 spell
pub opens_held : (a : ShelfState) (files : List FileAsked) (texts : List (List ℕ)) {bytes : List ℕ} {h other : HierarchyValue} → Opens a files h texts → Spells bytes h
    → Spells bytes other → Opens a files other texts
opens_held a files texts {bytes = bytes} {h = h} {other = other} opens spells others =
    subst (λ (x : HierarchyValue). Opens a files x texts) (same_hierarchy bytes h other spells others) opens

-- the refusal of a file of version 1, and those that are another
pub is_version_1 : (refusal : PackRefusal) → names_version_1 refusal ≡ true → refusal ≡ pack.Version 1
is_version_1 (pack.Version found) is = ap (λ (n : ℕ). pack.Version n) (eqb-true found 1 is)
is_version_1 _ is = absurd (cc is)

pub is_another : (refusal : PackRefusal) → names_version_1 refusal ≡ false → refusal ≢ pack.Version 1
is_another refusal is same = let here : names_version_1 refusal ≡ true = ap names_version_1 same in absurd (cc (is, here))
