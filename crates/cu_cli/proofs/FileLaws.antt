-- The packed file of a hierarchy is none of the bytes that are refused, in either version.
use Rattle.std.proofs.Common.{◌≡◌, ◌≢◌, ◌∙◌, ℕ, List, refl, sym, ap, subst, inl, inr}
use Rattle.cu_interval.specs.Hierarchies.{HierarchyValue, IsHierarchy}
use Rattle.cu_pack.specs.Checks.{IsRefused, IsRefusedIn}
use Rattle.cu_pack.specs.Places.{short_at}
use Rattle.cu_pack.specs.Spelling.{spelling_in}
use Rattle.cu_pack.specs.declared.refusals.PackRefusal.{PackRefusal}
use Rattle.cu_pack.specs.declared.refusals.PackRefusal.TheVariants as pack
use Rattle.cu_pack.proofs.Spelled.Accepted.{not_refused, not_refused_in}
use Rattle.cu_pack.proofs.Spelled.Again.{version_said}
use Rattle.cu_cli.specs.Opening.{IsFileOf, IsNoFile}

module _ (h : HierarchyValue) (sound : IsHierarchy h) where
  -- the version of a file of version 1
  one : (found : ℕ) → found ≡ short_at (spelling_in 1 h) 8 → found ≡ 1
  one found same = same ∙ version_said 1 h (inl refl) sound

  -- and so not that of a file of version 2
  other : {X : Type 0} → short_at (spelling_in 1 h) 8 ≡ 2 → X
  other second = absurd (cc (one 2 (sym second)))

  -- a file of version 1 is refused by its version alone where version 2 is wanted
  refused_first : (refusal : PackRefusal) → IsRefused (spelling_in 1 h) refusal → refusal ≢ pack.NoMemory → refusal ≡ pack.Version 1
  refused_first pack.Short k some = absurd (not_refused_in 1 h sound (inl refl) pack.Short some k)
  refused_first pack.Magic k some = absurd (not_refused_in 1 h sound (inl refl) pack.Magic some k)
  refused_first (pack.Version found) (ours, same, known) some = ap (λ (n : ℕ). pack.Version n) (one found same)
  refused_first (pack.Length said found) k some = other k.0
  refused_first pack.Digest k some = other k.0
  refused_first (pack.Limit field) k some = other k.0
  refused_first (pack.Size counted found) k some = other k.0
  refused_first (pack.Order rank) k some = other k.0
  refused_first (pack.RoadArc arc) k some = other k.0
  refused_first (pack.Profile number) k some = other k.0
  refused_first (pack.Graph rank) k some = other k.0
  refused_first (pack.Ways edge dir) k some = other k.0
  refused_first (pack.Bound edge dir) k some = other k.1
  refused_first pack.NoMemory k some = absurd (some refl)

-- bytes that are the packed file of a hierarchy in either version aren't refused
pub not_no_file : (bytes : List ℕ) (h : HierarchyValue) (refusal : PackRefusal) → IsFileOf bytes h → IsNoFile bytes refusal → refusal ≢ pack.NoMemory → ⊥
not_no_file bytes h refusal (inl second) (inl (refused, known)) some =
    not_refused h second.sound refusal some (subst (λ (t : List ℕ). IsRefused t refusal) second.spelled refused)
not_no_file bytes h refusal (inl second) (inr (refused, first)) some =
    not_refused h second.sound (pack.Version 1) (λ e. cc e) (subst (λ (t : List ℕ). IsRefused t (pack.Version 1)) second.spelled refused)
not_no_file bytes h refusal (inr first) (inl (refused, known)) some =
    known (refused_first h first.sound refusal (subst (λ (t : List ℕ). IsRefused t refusal) first.spelled refused) some)
not_no_file bytes h refusal (inr first) (inr (refused, wrong)) some =
    not_refused_in 1 h first.sound (inl refl) refusal some (subst (λ (t : List ℕ). IsRefusedIn 1 t refusal) first.spelled wrong)
