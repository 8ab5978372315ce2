use Rattle.std.proofs.Common.{ℕ, ◌≡◌, ◌∙◌, arith, below_more, sym}
use Rattle.std.specs.Prelude.{slice_get}
use Rattle.cu_verify.proofs.Parted.{ended, parted}
use Rattle.cu_verify.proofs.comparing.parting.Goals as goal

pub returns-in-Some : goal.returns-in-Some
returns-in-Some c =
    parted c.args.stored.now c.args.built.now c.len.ensures.spelled c.requires c.loop-index.index c.in-Some.second c.stored_entry.result c.built_entry.result
    c.loop-index.invariant (sym c.stored_entry.ensures) (sym c.built_entry.ensures) c.in-Some.ensures

pub loop-index-preserved : goal.loop-index-preserved
loop-index-preserved c = below_more (λ (k : ℕ). slice_get c.args.stored.now k ≡ slice_get c.args.built.now k) c.loop-index.index c.loop-index.invariant
    (sym c.stored_entry.ensures ∙ c.in_default.ensures ∙ c.built_entry.ensures)

pub returns : goal.returns
returns c =
    let most = c.max-most.ensures in
    let count = c.len.ensures.count in
    let done = c.loop-index-test.false in
    ended c.args.stored.now c.args.built.now c.loop-index.index (omega (arith, most, count, done)) (omega (arith, most, done)) c.loop-index.invariant
