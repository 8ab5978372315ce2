use Rattle.std.proofs.Common.{◌≡◌, ◌∙◌, ◌-◌, ℕ, Result, IfOk, subst}
use Rattle.cu_model.specs.declared.memory.NoMemory.{NoMemory}
use Rattle.cu_router.specs.Working.{edges_left}
use Rattle.cu_desk.proofs.StepLaws.{fits_back, fits_still, publish_stuck, step_left, step_published}
use Rattle.cu_desk.proofs.desk.step_busy.Goals as goal

pub publish-requires-clause-fits : goal.publish-requires-clause-fits
publish-requires-clause-fits c = fits_still c.args.router.now c.go_on-busy.new.self c.go_on-busy.result.0 c.go_on-busy.ensures.stays c.go_on-busy.ensures.fits

pub returns-then-left-gt0-clause-reply : goal.returns-then-left-gt0-clause-reply
returns-then-left-gt0-clause-reply c =
    let go = c.go_on-busy.ensures in
    let left = subst (λ (r : Result ℕ NoMemory). IfOk r (λ left. (left ≡ edges_left c.go_on-busy.result.0) × (left ≡ edges_left c.args.busy - 1))) c.in-Ok.is go.left in
    step_left c.args.router.now c.go_on-busy.new.self c.args.busy c.go_on-busy.result.0 c.in-Ok.left go.stays go.edit go.client left.0 left.1 c.if-left-gt0.true

pub returns-in-Err-clause-reply : goal.returns-in-Err-clause-reply
returns-in-Err-clause-reply c =
    let go = c.go_on-busy.ensures in
    let left = subst (λ (r : Result ℕ NoMemory). IfOk r (λ left. (left ≡ edges_left c.go_on-busy.result.0) × (left ≡ edges_left c.args.busy - 1))) c.in-Ok.is go.left in
    publish_stuck c.args.router.now c.go_on-busy.new.self c.publish.new.self c.args.busy c.go_on-busy.result.0 c.in-Err.busy c.in-Ok.left
    go.stays c.in-Err.ensures.kept c.in-Err.ensures.same go.edit go.client left.0 left.1 c.if-left-gt0.false

pub returns-in-Err-clause-fits : goal.returns-in-Err-clause-fits
returns-in-Err-clause-fits c =
    fits_back c.go_on-busy.new.self c.publish.new.self c.go_on-busy.result.0 c.in-Err.busy c.in-Err.ensures.kept c.in-Err.ensures.same
    (fits_still c.args.router.now c.go_on-busy.new.self c.go_on-busy.result.0 c.go_on-busy.ensures.stays c.go_on-busy.ensures.fits)

pub returns-in-Ok-publish-clause-reply : goal.returns-in-Ok-publish-clause-reply
returns-in-Ok-publish-clause-reply c =
    let go = c.go_on-busy.ensures in
    let left = subst (λ (r : Result ℕ NoMemory). IfOk r (λ left. (left ≡ edges_left c.go_on-busy.result.0) × (left ≡ edges_left c.args.busy - 1))) c.in-Ok.is go.left in
    step_published c.args.router.now c.go_on-busy.new.self c.publish.new.self c.args.busy c.go_on-busy.result.0 c.client-client.result _ c.in-Ok.left
    go.stays c.in-Ok-publish.ensures.published go.edit (c.client-client.ensures ∙ go.client) left.1 c.if-left-gt0.false
