use Rattle.cu_recall.proofs.spans.Row.keep.Goals as goal

pub returns-then-second-lt-SECOND_THIRD : goal.returns-then-second-lt-SECOND_THIRD
returns-then-second-lt-SECOND_THIRD c = record {
  holds = λ h list row span. record { latest = span; early = c.wider-self.ensures.holds h list row.early span; noon = row.noon; late = row.late; met = row.met };
}

pub returns-then-second-lt-LAST_THIRD : goal.returns-then-second-lt-LAST_THIRD
returns-then-second-lt-LAST_THIRD c = record {
  holds = λ h list row span. record { latest = span; early = row.early; noon = c.wider-self-then-second-lt-LAST_THIRD.ensures.holds h list row.noon span; late = row.late; met = row.met };
}

pub returns-else-second-lt-LAST_THIRD : goal.returns-else-second-lt-LAST_THIRD
returns-else-second-lt-LAST_THIRD c = record {
  holds = λ h list row span. record { latest = span; early = row.early; noon = row.noon; late = c.wider-self-else-second-lt-LAST_THIRD.ensures.holds h list row.late span; met = row.met };
}
