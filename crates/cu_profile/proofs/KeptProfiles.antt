-- What is kept of the profiles that ended.
use Rattle.std.proofs.Common.{◌≡◌, ◌≤◌, ◌+◌, ℕ, List, [], ◌∷◌, ◌++◌, Option, Some, None, Result, Ok, Err, length, refl, sym, ap, subst, arith, append_assoc, length-append}
use Rattle.std.specs.Prelude.{All, OnErr, OnOk, sum_by}
use Rattle.std.specs.Option.{option_or}
use Rattle.std.proofs.lemmas.List.Elements.{All-append, All-cons, All-nil}
use Rattle.std.proofs.lemmas.List.Sums.{sum_by-append}
use Rattle.cu_model.proofs.FaultLaws.{piece_fault-none}
use Rattle.cu_model.specs.Faults.{piece_fault}
use Rattle.cu_model.specs.declared.profiles.PieceFault.{PieceFault}
use Rattle.cu_model.specs.declared.profiles.Piece.{Piece}
use Rattle.cu_model.specs.Profiles.{IsProfile}
use Rattle.cu_profile.specs.declared.refusals.ProfileRefusal.{ProfileRefusal}
use Rattle.cu_profile.specs.ProfileTexts.{faulted, profile_checked, then_more}
use Rattle.cu_profile.specs.Steps.ReadRows.{joined, KeepsProfile}

joined_more : (fault : Option ProfileRefusal) (profiles : List (List Piece)) (profile : List Piece) (more : Result (List (List Piece)) ProfileRefusal)
    → joined fault profiles (then_more (Ok profile) more) ≡ joined fault (profiles ++ (profile ∷ [])) more
joined_more (Some refusal) profiles profile more = refl
joined_more None profiles profile (Err refusal) = refl
joined_more None profiles profile (Ok more) = ap (λ (t : List (List Piece)). Ok t) (sym (append_assoc profiles (profile ∷ []) more))

joined_refused : (fault : Option ProfileRefusal) (profiles : List (List Piece)) (refusal : ProfileRefusal) (more : Result (List (List Piece)) ProfileRefusal)
    → joined fault profiles (then_more (Err refusal) more) ≡ joined (option_or fault (Some refusal)) profiles more
joined_refused (Some first) profiles refusal more = refl
joined_refused None profiles refusal more = refl

-- what is kept of a profile is what it makes of those behind it
pub joined_kept : (profile : Result (List Piece) ProfileRefusal) (fault fault2 : Option ProfileRefusal) (profiles profiles2 : List (List Piece)) (more : Result (List (List Piece)) ProfileRefusal)
    → KeepsProfile profile profiles fault profiles2 fault2 → joined fault profiles (then_more profile more) ≡ joined fault2 profiles2 more
joined_kept (Ok profile) fault fault2 profiles profiles2 more h = rw (h.0, h.1) (joined_more fault profiles profile more)
joined_kept (Err refusal) fault fault2 profiles profiles2 more h = rw (h.0, h.1) (joined_refused fault profiles refusal more)

pub joined_none : (more : Result (List (List Piece)) ProfileRefusal) → joined None [] more ≡ more
joined_none (Ok profiles) = refl
joined_none (Err refusal) = refl

pub valid_one : (profile : List Piece) → IsProfile profile → All IsProfile (profile ∷ [])
valid_one profile v = All-cons IsProfile profile [] v (All-nil IsProfile)

pub kept_few : (profile : Result (List Piece) ProfileRefusal) (ps qs : List (List Piece)) (f g : Option ProfileRefusal) → KeepsProfile profile ps f qs g → length qs ≤ length ps + 1
kept_few (Ok profile) ps qs f g h = let k = length-append ps (profile ∷ []) in let e = ap length h.0 in omega (arith, k, e)
kept_few (Err refusal) ps qs f g h = let e = ap length h.0 in omega (arith, e)

-- pieces that are a profile are kept as they are

faulted_ok : (first : ℕ) (pieces profile : List Piece) (fault : Option PieceFault) → piece_fault pieces ≡ fault → faulted first pieces fault ≡ Ok profile → (pieces ≡ profile) × IsProfile profile
faulted_ok first pieces profile None e h = let same : pieces ≡ profile = cc h in (same, subst IsProfile same (piece_fault-none pieces e))
faulted_ok first pieces profile (Some fault) e h = absurd (cc h)

checked_ok : (first : ℕ) (kind : Option ℕ) (pieces profile : List Piece) → profile_checked first kind pieces ≡ Ok profile → (pieces ≡ profile) × IsProfile profile
checked_ok first (Some row) pieces profile h = absurd (cc h)
checked_ok first None pieces profile h = faulted_ok first pieces profile (piece_fault pieces) refl h

kept_sound : (profile : Result (List Piece) ProfileRefusal) (ps qs : List (List Piece)) (f g : Option ProfileRefusal) (n : ℕ) → ((p : List Piece) → profile ≡ Ok p → (length p ≤ n) × IsProfile p)
    → KeepsProfile profile ps f qs g → All IsProfile ps → (sum_by length qs ≤ sum_by length ps + n) × All IsProfile qs
kept_sound (Ok profile) ps qs f g n sound h valid =
    let (short, v) = sound profile refl in
    let one = sum_by-append length ps (profile ∷ []) in
    let e = ap (sum_by length) h.0 in
    (omega (arith, short, one, e), rw h.0 (All-append IsProfile ps (profile ∷ []) valid (valid_one profile v)))
kept_sound (Err refusal) ps qs f g n sound h valid = let e = ap (sum_by length) h.0 in (omega (arith, e), rw h.0 valid)

-- the profiles kept are profiles, with no more pieces than there are rows before the next one, also where no more could be kept
pub ended_sound : {A E : Type 0} (answer : Result A E) (first row : ℕ) (kind : Option ℕ) (pieces : List Piece) (ps qs : List (List Piece)) (f g : Option ProfileRefusal)
    → OnOk answer (KeepsProfile (profile_checked first kind pieces) ps f qs g) → OnErr answer (qs ≡ ps)
    → first + length pieces ≤ row → sum_by length ps ≤ first → All IsProfile ps → (sum_by length qs ≤ row) × All IsProfile qs
ended_sound (Ok done) first row kind pieces ps qs f g h same few sum valid =
    let (more, all) = kept_sound (profile_checked first kind pieces) ps qs f g (length pieces)
    (λ p e. let k = checked_ok first kind pieces p e in let same = ap length k.0 in (omega (arith, same), k.1)) h valid in
    (omega (arith, few, sum, more), all)
ended_sound (Err why) first row kind pieces ps qs f g h same few sum valid = (rw same (omega (arith, few, sum)), rw same valid)
