use Rattle.std.proofs.Common.{◌≡◌, ◌∙◌, ap, arith, length, subst, Option, List, ℕ, Result, OnOk}
use Rattle.cu_model.specs.declared.profiles.Piece.{Piece}
use Rattle.cu_profile.specs.declared.refusals.ProfileRefusal.{ProfileRefusal}
use Rattle.cu_profile.specs.ProfileTexts.{profile_checked}
use Rattle.cu_profile.specs.Steps.ReadRows.{KeepsProfile}
use Rattle.cu_profile.proofs.KeptProfiles.{ended_sound}
use Rattle.cu_profile.proofs.progress.ProfileRows.end_profile.Goals as goal

pub profile_of-profile-requires : goal.profile_of-profile-requires
profile_of-profile-requires c =
    let few = c.args.self.now.few in
    let narrow = c.args.self.now.narrow in
    let same : length c.replace-pieces.result.items ≡ length c.args.self.now.pieces.items = ap (λ v. length v.items) c.replace-pieces.ensures.value in
    omega (arith, few, narrow, same)

pub invariant_of-self : goal.invariant_of-self
invariant_of-self c =
    let s = c.args.self.now in
    let same = c.profile_of-profile.ensures
    ∙ ap (λ (k : Option ℕ). profile_checked s.first k c.replace-pieces.result.items) c.take.ensures.value
    ∙ ap (λ (ps : List Piece). profile_checked s.first s.wrong_kind ps) (ap (λ v. v.items) c.replace-pieces.ensures.value) in
    let kept = subst (λ (p : Result (List Piece) ProfileRefusal). OnOk c.keep_profile.result
    (KeepsProfile p s.profiles.items s.fault c.keep_profile.new.profiles.items c.keep_profile.new.fault)) same c.keep_profile.ensures.kept in
    let sound = ended_sound c.keep_profile.result s.first s.row s.wrong_kind s.pieces.items s.profiles.items c.keep_profile.new.profiles.items s.fault c.keep_profile.new.fault
    kept c.keep_profile.ensures.unchanged s.few s.sum s.valid in
    let none = ap length (ap (λ v. v.items) c.replace-pieces.ensures.after ∙ c.new.ensures.items) in
    record { narrow = s.narrow; few = omega (arith, none); sum = sound.0; valid = sound.1 }
