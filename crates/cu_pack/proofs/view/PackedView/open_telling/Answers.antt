use Rattle.std.proofs.Common.{◌≡◌, ℕ, List, rules, subst, sym}
use Rattle.std.specs.Prelude.{◌*◌, IfErr}
use Rattle.std.proofs.lemmas.Result.{IfErr-weaker}
use Rattle.cu_pack.specs.Checks.{IsRefused, IsWrongBound, NoneWrong, Spells}
use Rattle.cu_pack.specs.Reading.{counts_in, decoded}
use Rattle.cu_pack.specs.Steps.Fronts.{PassesIn}
use Rattle.cu_pack.proofs.Spelled.Sealed.{all_pass}
use Rattle.cu_pack.proofs.view.PackedView.open_telling.Goals as goal

pub check_file-requires : goal.check_file-requires
check_file-requires g c = search rules

pub check_bounds-requires : goal.check_bounds-requires
check_bounds-requires g c = let (passes, same) = c.in_ok-sections.ensures.ok in record { passes = subst (PassesIn 2) (sym same) passes }

pub returns-in_err-check_bounds-clause-refused : goal.returns-in_err-check_bounds-clause-refused
returns-in_err-check_bounds-clause-refused g c =
    let same = c.in_ok-sections.ensures.ok.1 in
    let refused : IfErr c.from_residual-in_err-check_bounds.result (λ refusal. IsRefused c.in_ok-sections.sections refusal) = search rules in
    IfErr-weaker c.from_residual-in_err-check_bounds.result (IsRefused c.in_ok-sections.sections) (IsRefused c.args.bytes.now)
    (λ refusal p. subst (λ (bs : List ℕ). IsRefused bs refusal) same p) refused

pub of-requires : goal.of-requires
of-requires g c =
    let bytes = c.args.bytes.now in
    let (passes, same) = c.in_ok-sections.ensures.ok in
    let bounds = subst (λ (bs : List ℕ). NoneWrong (IsWrongBound bs) (2 * (counts_in bs).edges)) same c.in_ok-check_bounds.ensures.ok in
    record {
      spelled = subst (λ (bs : List ℕ). Spells bs (decoded bs)) (sym same) (all_pass bytes (search rules) passes.ways.graph passes.ways.lists passes.kind bounds);
    }

pub returns-clause-spells : goal.returns-clause-spells
returns-clause-spells g c =
    let bytes = c.args.bytes.now in
    let (passes, same) = c.in_ok-sections.ensures.ok in
    let bounds = subst (λ (bs : List ℕ). NoneWrong (IsWrongBound bs) (2 * (counts_in bs).edges)) same c.in_ok-check_bounds.ensures.ok in
    let said = subst (λ (bs : List ℕ). c.of.result ≡ decoded bs) same c.of.ensures.said in
    subst (Spells bytes) (sym said) (all_pass bytes (search rules) passes.ways.graph passes.ways.lists passes.kind bounds)
