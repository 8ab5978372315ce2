use Rattle.std.proofs.Common.{◌≡◌, ◌<◌, ◌∙◌, ℕ, List, Bool, true, false, not, cond, length, get_or, arith, refl, ap, sym, subst}
use Rattle.std.specs.Prelude.{All}
use Rattle.std.specs.List.{filter}
use Rattle.cu_model.specs.Networks.{NetworkValue}
use Rattle.cu_dissect.specs.Dissection.{has}
use Rattle.cu_dissect.specs.Steps.Parts.{IsPart, is_beside}
use Rattle.cu_dissect.proofs.SplitLaws.{filter_short, left_part, part_filter, rest_part, rest_short, split_is}
use Rattle.cu_dissect.proofs.splitting.split.Goals as goal

cond_clear : (b m : Bool) → m ≡ false → cond b true m ≡ b
cond_clear true m clear = refl
cond_clear false m clear = clear

pub mark-requires : goal.mark-requires
mark-requires c =
    let n : ℕ = c.args.map.now.network.now.nodes in
    let all : All (λ node. node < n) c.deref.result.now =
    subst (All (λ node. node < n)) (sym (c.deref.ensures.value ∙ c.in_ok-halves.ensures.left))
    (left_part c.args.map.now.places.now n c.args.part.now c.requires.part).in_range in
    subst (λ (k : ℕ). All (λ node. node < k) c.deref.result.now) (sym c.requires.long) all

pub part_by_marks-requires-clause-in_range : goal.part_by_marks-requires-clause-in_range
part_by_marks-requires-clause-in_range c =
    let n : ℕ = c.args.map.now.network.now.nodes in
    subst (All (λ node. node < n)) (sym (c.deref-2.ensures.value ∙ c.in_ok-halves.ensures.rest)) (rest_part c.args.map.now.places.now n c.args.part.now c.requires.part).in_range

pub mark-requires-2 : goal.mark-requires-2
mark-requires-2 c =
    let n : ℕ = c.args.map.now.network.now.nodes in
    let all : All (λ node. node < n) c.deref-3.result.now =
    subst (All (λ node. node < n)) (sym (c.deref-3.ensures.value ∙ c.in_ok-halves.ensures.left))
    (left_part c.args.map.now.places.now n c.args.part.now c.requires.part).in_range in
    subst (λ (k : ℕ). All (λ node. node < k) c.deref-3.result.now) (sym (c.mark.auto.marks ∙ c.requires.long)) all

pub returns-clause-exact : goal.returns-clause-exact
returns-clause-exact c =
    let g : NetworkValue = c.args.map.now.network.now in
    let left : List ℕ = c.in_ok-halves.halves.left.items in
    let rest : List ℕ = c.in_ok-halves.halves.rest.items in
    let neighbours : List (List ℕ) = c.args.map.now.neighbours in
    let marks : List Bool = c.mark.new.marks in
    let marked : (v : ℕ) → get_or marks v false ≡ has left v =
    λ v. c.mark.ensures v ∙ cond_clear (has c.deref.result.now v) (get_or c.args.marks.now v false) (c.requires.clear v)
    ∙ ap (λ (nodes : List ℕ). has nodes v) c.deref.ensures.value in
    split_is g c.args.map.now.places.now c.args.part.now left rest c.in_ok-sides.sides.beside.items c.in_ok-sides.sides.others.items neighbours marks c.requires.map.joined c.requires.part
    c.in_ok-halves.ensures.left c.in_ok-halves.ensures.rest marked (c.in_ok-sides.ensures.beside ∙ ap (filter (is_beside neighbours marks)) c.deref-2.ensures.value)
    (c.in_ok-sides.ensures.others ∙ ap (filter (λ node. not (is_beside neighbours marks node))) c.deref-2.ensures.value)

pub returns-clause-halves : goal.returns-clause-halves
returns-clause-halves c =
    let n : ℕ = c.args.map.now.network.now.nodes in
    let rest : List ℕ = c.in_ok-halves.halves.rest.items in
    let off : ℕ → Bool = λ node. not (is_beside c.args.map.now.neighbours c.mark.new.marks node) in
    let others : c.in_ok-sides.sides.others.items ≡ filter off rest = c.in_ok-sides.ensures.others ∙ ap (filter off) c.deref-2.ensures.value in
    let half = ap length (sym c.in_ok-halves.ensures.left) ∙ c.in_ok-halves.ensures.half in
    let short = rest_short c.args.map.now.places.now c.args.part.now rest c.in_ok-halves.ensures.rest half c.requires.some in
    let rest_is : IsPart n rest = subst (IsPart n) (sym c.in_ok-halves.ensures.rest) (rest_part c.args.map.now.places.now n c.args.part.now c.requires.part) in
    record {
      left = subst (IsPart n) (sym c.in_ok-halves.ensures.left) (left_part c.args.map.now.places.now n c.args.part.now c.requires.part);
      right = subst (IsPart n) (sym others) (part_filter n off rest rest_is);
      left_short = omega (arith, c.in_ok-halves.ensures.half, c.requires.some);
      right_short = omega (arith, ap length others, filter_short off rest, short);
    }
