use Rattle.std.proofs.lemmas.Result.{IfOk-weaker, err_from_is_err_and}
use Rattle.cu_tables.proofs.TakingFacts.{Leads}
use Rattle.cu_profile.specs.ProfileTexts.{profiles_of_text}
use Rattle.cu_profile.specs.Steps.ReadRows.{IsBetweenRows, rows_behind}
use Rattle.cu_profile.proofs.TextFacts.{finished, text_read}
use Rattle.cu_profile.proofs.reader.read_profiles.Goals as goal
use Rattle.cu_profile.proofs.reader.read_profiles.Goals.{In_ok-each_row_below}

-- what is given once the rows were gone through
read : (c : In_ok-each_row_below) → Leads (profiles_of_text c.args.bytes.now) IsBetweenRows rows_behind c.each_row_below.new.taker c.in_ok-each_row_below.field-0
read c = text_read _ c.args.bytes.now c.new-rows.result c.each_row_below.new.taker c.in_ok-each_row_below.field-0 c.header.ensures c.new-rows.ensures c.in_ok-each_row_below.ensures

pub returns-in_err-branch-clause-given : goal.returns-in_err-branch-clause-given
returns-in_err-branch-clause-given c =
    let p = err_from_is_err_and c.from_residual-in_err-branch.result c.from_residual-in_err-branch.ensures.1 in
    rw (p.1, p.2) (λ n. rw c.in_err-branch.was at (read (goal.at.returns-in_err-branch-clause-given c).In_ok-each_row_below))

pub returns-clause-given : goal.returns-clause-given
returns-clause-given c =
    let all = (rw c.in_ok-branch.was at (read (goal.at.returns-clause-given c).In_ok-each_row_below)).0 in
    finished (λ profiles. profiles.items) c.finish.result (profiles_of_text c.args.bytes.now) c.each_row_below.new.taker all c.finish.ensures.ok c.finish.ensures.refused

pub returns-clause-few : goal.returns-clause-few
returns-clause-few c =
    let between = (rw c.in_ok-branch.was at (read (goal.at.returns-clause-few c).In_ok-each_row_below)).1 in
    IfOk-weaker c.finish.result _ _ (λ profiles h. h between) c.finish.ensures.few
