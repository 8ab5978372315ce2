use Rattle.std.proofs.Common.{◌∙◌, Option, ap, sym}
use Rattle.std.specs.Option.{option_map}
use Rattle.cu_router.specs.declared.busy.Busy.{Busy}
use Rattle.cu_desk.specs.HeldDesks.{HeldDesk}
use Rattle.cu_desk.specs.Steps.Busies.{work_of}
use Rattle.cu_desk.proofs.StepLaws.{step_of}
use Rattle.cu_desk.proofs.desk.Desk.step.Goals as goal

pub returns : goal.returns
returns c =
    let now = ap (λ (b : Option Busy). let d : HeldDesk = record { published = c.self.inside.router; work = option_map work_of b } in d) (sym c.take.ensures.value ∙ c.in-Some.is) in
    record {
      reply = step_of c.args.self.now _ c.self.inside.router c.step_busy-busy.new.router c.in-Some.busy c.step_busy-busy.result.0 _
          (sym now ∙ c.self.view_is)
          (ap (λ (b : Option Busy). let d : HeldDesk = record { published = c.step_busy-busy.new.router; work = option_map work_of b } in d) c.replace.ensures.after)
          c.step_busy-busy.ensures.reply;
    }
