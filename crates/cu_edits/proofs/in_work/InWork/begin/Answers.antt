use Rattle.std.proofs.Common.{◌∙◌, ap, subst, sym}
use Rattle.cu_edits.specs.InWork.{IsInWork, PapersValue, in_work_of}
use Rattle.cu_edits.proofs.InWorkLaws.{in_work_none}
use Rattle.cu_edits.proofs.in_work.InWork.begin.Goals as goal

pub invariant_of-result : goal.invariant_of-result
invariant_of-result g c =
    let state = g.S.Settler.state c.args.settler in (
      subst (λ (papers : PapersValue). IsInWork (in_work_of papers state)) (sym c.in_ok-papers.ensures)
          (in_work_none c.args.client c.args.edges.items state c.requires.none c.requires.touched c.requires.sound),
      ap (λ (papers : PapersValue). papers.lists) c.in_ok-papers.ensures ∙ sym c.requires.none,
    )
