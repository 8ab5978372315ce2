use Rattle.std.proofs.Common.{◌≡◌, ◌≤◌, ◌<◌, ◌-◌, ℕ}
use Rattle.cu_filling.specs.Filling.{SaysUpTo, linked_value}
use Rattle.cu_filling.proofs.linking.add_linked.Given as goal

-- what is said so far
abbrev pub invariant-steps : goal.invariant-steps
invariant-steps l = record {
  low : l.from ≤ l.at;
  high : l.at ≤ l.until;
  says : (f : ℕ → ℕ) → SaysUpTo f l.initial.whole.items l.from
      → ((t : ℕ) → l.from ≤ t → t < l.until → linked_value l.first.base l.first.runs.now l.second.base l.second.runs.now t ≡ f t)
      → SaysUpTo f l.whole.items l.at;
}

abbrev pub decreases-steps : goal.decreases-steps
decreases-steps l = l.until - l.at
