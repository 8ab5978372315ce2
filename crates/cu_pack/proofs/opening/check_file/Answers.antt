use Rattle.std.proofs.Common.{◌≡◌, ℕ, List, rules, subst}
use Rattle.std.specs.Prelude.{IfErr}
use Rattle.std.proofs.lemmas.Result.{IfErr-weaker}
use Rattle.cu_pack.specs.declared.refusals.PackRefusal.{PackRefusal}
use Rattle.cu_pack.specs.Checks.{HasWays, IsRefusedIn}
use Rattle.cu_pack.specs.Places.{short_at}
use Rattle.cu_pack.proofs.Spelled.Sealed.{sections_pass}
use Rattle.cu_pack.proofs.opening.check_file.Goals as goal

-- a refusal of the sections is one of the file
moved : (version : ℕ) (bytes read : List ℕ) → short_at bytes 8 ≡ version → read ≡ bytes → (refusal : PackRefusal) → IsRefusedIn (short_at read 8) read refusal → IsRefusedIn version bytes refusal
moved version bytes read is same refusal p =
    subst (λ v. IsRefusedIn v bytes refusal) is (subst (λ (bs : List ℕ). IsRefusedIn (short_at bs 8) bs refusal) same p)

pub returns-in_err-check_roads-clause-err : goal.returns-in_err-check_roads-clause-err
returns-in_err-check_roads-clause-err g c =
    let read = c.in_ok-sections.sections in
    let (sized, is, same) = c.in_ok-sections.ensures.ok in
    let refused : IfErr c.from_residual-in_err-check_roads.result (IsRefusedIn (short_at read 8) read) = search rules in
    IfErr-weaker c.from_residual-in_err-check_roads.result _ _ (moved c.args.version c.args.bytes.now read is same) refused

pub returns-in_err-check_graph-clause-err : goal.returns-in_err-check_graph-clause-err
returns-in_err-check_graph-clause-err g c =
    let read = c.in_ok-sections.sections in
    let (sized, is, same) = c.in_ok-sections.ensures.ok in
    let refused : IfErr c.from_residual-in_err-check_graph.result (IsRefusedIn (short_at read 8) read) = search rules in
    IfErr-weaker c.from_residual-in_err-check_graph.result _ _ (moved c.args.version c.args.bytes.now read is same) refused

pub returns-in_err-check_ways-clause-err : goal.returns-in_err-check_ways-clause-err
returns-in_err-check_ways-clause-err g c =
    let read = c.in_ok-sections.sections in
    let (sized, is, same) = c.in_ok-sections.ensures.ok in
    let refused : IfErr c.from_residual-in_err-check_ways.result (IsRefusedIn (short_at read 8) read) = search rules in
    IfErr-weaker c.from_residual-in_err-check_ways.result _ _ (moved c.args.version c.args.bytes.now read is same) refused

pub returns-clause-ok : goal.returns-clause-ok
returns-clause-ok g c =
    let (sized, is, same) = c.in_ok-sections.ensures.ok in
    let ways = subst HasWays same c.in_ok-check_ways.ensures.ok in
    (record { kind = is; ways = ways; told = sections_pass c.args.bytes.now (search rules) ways.graph ways.lists }, same)
