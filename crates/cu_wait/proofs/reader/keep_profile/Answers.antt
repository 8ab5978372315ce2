use Rattle.std.proofs.Common.{◌∙◌, ◌++◌, ◌∷◌, [], List, refl, ap, subst}
use Rattle.std.proofs.lemmas.List.Elements.{All-append}
use Rattle.cu_model.specs.Profiles.{IsProfile}
use Rattle.cu_profile.proofs.KeptProfiles.{valid_one}
use Rattle.cu_wait.specs.declared.points.Point.{Point}
use Rattle.cu_wait.specs.Converted.{StandFor}
use Rattle.cu_wait.specs.Networks.{Measured}
use Rattle.cu_wait.proofs.reader.keep_profile.Goals as goal

pub returns-in_ok-push-in-None-2-clause-valid : goal.returns-in_ok-push-in-None-2-clause-valid
returns-in_ok-push-in-None-2-clause-valid c = λ all.
    rw c.in_ok-push-in-None.ensures.items
    (All-append IsProfile c.args.profiles.now.items (c.in_ok-converted-in-None.field-0 ∷ []) all (valid_one c.in_ok-converted-in-None.field-0 c.in_ok-converted-in-None.ensures.valid))

pub returns-in_err-push-in-None-2-clause-valid : goal.returns-in_err-push-in-None-2-clause-valid
returns-in_err-push-in-None-2-clause-valid c = λ all.
    rw c.in_ok-push-in-None.ensures.items
    (All-append IsProfile c.args.profiles.now.items (c.in_ok-converted-in-None.field-0 ∷ []) all (valid_one c.in_ok-converted-in-None.field-0 c.in_ok-converted-in-None.ensures.valid))

pub returns-in_ok-push-in-None-2-clause-kept : goal.returns-in_ok-push-in-None-2-clause-kept
returns-in_ok-push-in-None-2-clause-kept c =
    let pieces = c.in_ok-converted-in-None.field-0 in
    let stands = subst (λ (points : List Point). StandFor (Measured points) pieces) c.deref.ensures.value c.in_ok-converted-in-None.ensures.converted in
    let all = c.in_ok-push-in-None-2.ensures.items ∙ ap (λ (points : List Point). c.args.measured.now.items ++ (points ∷ [])) c.of.ensures in
    rw c.in-None.is (pieces, stands, c.in_ok-push-in-None.ensures.items, refl, all)
