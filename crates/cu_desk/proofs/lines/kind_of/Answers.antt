use Rattle.std.proofs.Common.{◌≡◌, ◌∙◌, ℕ, List, false, true, subst, sym}
use Rattle.std.specs.Prelude.{bytes_eq, codes}
use Rattle.std.proofs.lemmas.Bool.{not-false}
use Rattle.cu_desk.proofs.ClientLaws.{more_fields}
use Rattle.cu_desk.proofs.lines.kind_of.Goals as goal

pub returns-in-Some : goal.returns-in-Some
returns-in-Some c =
    let word = c.cut_field.result.0.now in
    let cut = rw c.in-Some.is at c.cut_field.ensures.cut in
    let other : bytes_eq word (codes "q") ≡ false = subst (λ (w : List ℕ). bytes_eq word w ≡ false) c.as_slice.ensures (sym c.eq.ensures ∙ c.if-eq.false) in
    let is : bytes_eq word (codes "x") ≡ true = subst (λ (w : List ℕ). bytes_eq word w ≡ true) c.as_slice-2.ensures (not-false _ (sym c.ne.ensures ∙ c.if-ne.false)) in
    rw (cut, other, is) (sym (more_fields c.in-Some._more.now))
