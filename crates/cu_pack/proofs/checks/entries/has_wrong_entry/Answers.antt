use Rattle.std.proofs.Common.{◌≤◌, ℕ, refl, arith, below_more}
use Rattle.cu_pack.specs.Steps.Entries.{IsWrongEntry}
use Rattle.cu_pack.proofs.checks.entries.has_wrong_entry.Goals as goal

pub returns-then-is_wrong_entry-clause-wrong : goal.returns-then-is_wrong_entry-clause-wrong
returns-then-is_wrong_entry-clause-wrong c = (
  λ _. (c.loop-entry.entry, c.loop-entry.auto.entry, c.loop-entry-test.true, c.is_wrong_entry.ensures.wrong.0 c.if-is_wrong_entry.true),
  λ _. refl,
)

pub loop-entry-preserved : goal.loop-entry-preserved
loop-entry-preserved c =
    let bytes = c.args.sections.now in
    record {
      none = λ entry low high.
          below_more (λ (k : ℕ). c.args.start ≤ k → IsWrongEntry bytes c.args.start c.args.from c.args.to k → ⊥) c.loop-entry.entry (λ k less from. c.loop-entry.invariant.none k from less)
          (λ from wrong. absurd (cc (c.if-is_wrong_entry.false, c.is_wrong_entry.ensures.wrong.1 wrong))) entry high low;
      follow = c.is_wrong_entry.ensures.places;
    }

pub returns-clause-wrong : goal.returns-clause-wrong
returns-clause-wrong c = (
  λ h. absurd (cc h),
  λ has.
      let (entry, low, high, wrong) = has in
      let done = c.loop-entry-test.false in
      absurd (c.loop-entry.invariant.none entry low (omega (arith, high, done)) wrong),
)
