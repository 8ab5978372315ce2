use Rattle.std.proofs.Common.{◌≡◌, ◌∙◌, sym, ap, subst, rules, false, IfOk}
use Rattle.cu_arrival.specs.declared.runs.RunRule.{RunRule}
use Rattle.cu_arrival.specs.declared.runs.RunRule.TheVariants.{Shift}
use Rattle.cu_arrival.specs.Runs.{arrives}
use Rattle.cu_runs.specs.PackedRuns.{is_fixed}
use Rattle.cu_runs.specs.Steps.Linking.{Continues}
use Rattle.cu_runs.proofs.LinkLaws.{fixed_pushed, shift_rule}
use Rattle.cu_runs.proofs.linking.link_run.Goals as goal

pub returns-then-is_fixed-clause-linked : goal.returns-then-is_fixed-clause-linked
returns-then-is_fixed-clause-linked c =
    fixed_pushed c.args.second.now c.args.linked.now.items c.push.new.self.items c.args.run.rule c.reach-place.result c.arrives-arrival.result c.args.at
    c.args.until c.after_fixed-next.result c.index-second-place.result
    c.requires.over_day c.reach-place.ensures.place c.reach-place.ensures.holds c.requires.some (search rules) c.arrives-arrival.ensures c.index-second-place.is
    c.after_fixed-next.ensures.from c.after_fixed-next.ensures.rule c.in_ok-push.ensures.items

pub returns-clause-linked : goal.returns-clause-linked
returns-clause-linked c =
    let fixed : is_fixed c.args.run.rule ≡ false = search rules in
    let rule : c.args.run.rule ≡ Shift c.number.result = shift_rule c.args.run.rule fixed ∙ ap Shift (sym c.number.ensures.number) in
    subst (λ (r : RunRule). IfOk c.link_shift.result (λ x. Continues c.args.second.now (arrives r) c.args.at c.args.until
    c.args.linked.now.items c.link_shift.new.linked.items)) (sym rule) c.link_shift.ensures.linked
