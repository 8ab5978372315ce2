use Rattle.std.proofs.Common.{◌∙◌, List, Result, subst, sym}
use Rattle.std.specs.Prelude.{IfErr}
use Rattle.std.proofs.lemmas.Result.{IfOk-weaker, err_from_is_err_and}
use Rattle.cu_tables.specs.Checks.{IsRefused}
use Rattle.cu_wait.specs.declared.points.Point.{Point}
use Rattle.cu_wait.specs.declared.refusals.MeasuredRefusal.{MeasuredRefusal}
use Rattle.cu_wait.specs.declared.refusals.MeasuredRefusal.TheVariants as refusal
use Rattle.cu_wait.proofs.ConvertedLaws.{few_answered}
use Rattle.cu_wait.proofs.ReadLaws.{Reads, text_read}
use Rattle.cu_wait.proofs.reader.read_with_points.Goals as goal
use Rattle.cu_wait.proofs.reader.read_with_points.Given.{Over}
use Rattle.cu_wait.proofs.reader.read_with_points.Goals.{In_ok-each_row_below_telling}

-- what is given once the rows were gone through
read : (g : Over) (c : In_ok-each_row_below_telling g) → Reads c.args.bytes.now c.each_row_below_telling.new.taker c.in_ok-each_row_below_telling.field-0
read g c = text_read _ c.args.bytes.now c.new-rows.result c.each_row_below_telling.new.taker c.in_ok-each_row_below_telling.field-0 c.header.ensures c.new-rows.ensures c.in_ok-each_row_below_telling.ensures

pub returns-in_err-branch-clause-refused : goal.returns-in_err-branch-clause-refused
returns-in_err-branch-clause-refused g c =
    let p = err_from_is_err_and c.from_residual-in_err-branch.result c.from_residual-in_err-branch.ensures.1 in
    rw (p.1, p.2) (λ n. rw c.in_err-branch.was at (read g (goal.at.returns-in_err-branch-clause-refused g c).In_ok-each_row_below_telling))

pub returns-clause-ok : goal.returns-clause-ok
returns-clause-ok g c =
    let k = rw c.in_ok-branch.was at (read g (goal.at.returns-clause-ok g c).In_ok-each_row_below_telling) in
    IfOk-weaker c.finish.result _ _ (λ read h. (k.2 ∙ h.0, h.1)) (c.finish.ensures.given.ok k.0 k.1)

pub returns-clause-refused : goal.returns-clause-refused
returns-clause-refused g c =
    let k = rw c.in_ok-branch.was at (read g (goal.at.returns-clause-refused g c).In_ok-each_row_below_telling) in
    subst (λ (given : Result (List (List Point)) MeasuredRefusal). IfErr c.finish.result (IsRefused refusal.NoMemory given)) (sym k.2) (c.finish.ensures.given.refused k.0 k.1)

pub returns-clause-few : goal.returns-clause-few
returns-clause-few g c =
    let k = rw c.in_ok-branch.was at (read g (goal.at.returns-clause-few g c).In_ok-each_row_below_telling) in
    c.finish.ensures.given.few k.0 k.1

pub returns-clause-pieces : goal.returns-clause-pieces
returns-clause-pieces g c =
    let k = rw c.in_ok-branch.was at (read g (goal.at.returns-clause-pieces g c).In_ok-each_row_below_telling) in
    few_answered (λ read. read.profiles.items) c.finish.result c.finish.ensures.valid (c.finish.ensures.given.few k.0 k.1)
