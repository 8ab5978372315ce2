use Rattle.std.proofs.Common.{◌≡◌, ◌≤◌, ◌<◌, ◌+◌, ◌∙◌, ◌++◌, ◌∷◌, [], ℕ, Some, length, List, sym, ap, subst, arith, inl, inr}
use Rattle.std.specs.Prelude.{All}
use Rattle.std.specs.List.{AllPairs, Contains}
use Rattle.std.specs.Iterator.{Yields, YieldsFirst}
use Rattle.std.proofs.lemmas.List.Kept.{AllPairs-from_increasing}
use Rattle.std.proofs.lemmas.List.Elements.{Contains-append_cases}
use Rattle.cu_chordal.proofs.Members.{member_cases, none_in_nil}
use Rattle.cu_elimtree.specs.Trees.{ancestors_of}
use Rattle.cu_elimtree.proofs.Climbing.{yielded_first}
use Rattle.cu_interval.specs.declared.ways.Dir.TheVariants.{Down}
use Rattle.cu_interval.specs.Hierarchies.{number_from}
use Rattle.cu_sweep.specs.Outlooks.{ahead_at}
use Rattle.cu_sweep.proofs.Ascending.{ancestor_above, before_below}
use Rattle.cu_sweep.proofs.Passing.{tree_long}
use Rattle.cu_sweep.proofs.Passes.{all_parts, member_inside}
use Rattle.cu_sweep.proofs.looking.look_down.Goals as goal

pub ancestors-rank-items-requires : goal.ancestors-rank-items-requires
ancestors-rank-items-requires g c = subst (λ (n : ℕ). c.args.to < n) (sym (tree_long c.args.graph.now c.args.tree.now c.requires.tree)) c.requires.to

pub lead_up-requires-clause-rank : goal.lead_up-requires-clause-rank
lead_up-requires-clause-rank g c =
    let x = c.in-Some.rank in
    let before = c.ranks.yielded in
    let behind = c.next.new.self in
    let left : c.ranks.rank-iterator ≡ x ∷ behind = c.in-Some.ensures.steps in
    let whole : c.ancestors-rank-items.result ≡ before ++ c.ranks.rank-iterator =
    yielded_first (λ (left : List ℕ). left) c.ancestors-rank-items.result before c.ranks.rank-iterator
    (subst (λ s. Yields (YieldsFirst (λ (left : List ℕ). left)) s before c.ranks.rank-iterator) c.into_iter-rank-iterator.ensures.into_iter_gives c.ranks.yielded_by) in
    let all : ancestors_of c.args.tree.now c.args.to ≡ before ++ (x ∷ behind) = sym c.ancestors-rank-items.ensures.left ∙ whole ∙ ap (λ (xs : List ℕ). before ++ xs) left in
    let below : x < length c.args.tree.now = all_parts (λ a. a < length c.args.tree.now) before x behind (subst (All (λ a. a < length c.args.tree.now)) all c.ancestors-rank-items.ensures.below) in
    let long_tree = tree_long c.args.graph.now c.args.tree.now c.requires.tree in
    subst (λ (n : ℕ). x < n) long_tree below

pub ranks-preserved : goal.ranks-preserved
ranks-preserved g c =
    let graph = c.args.graph.now in
    let bound = g.B.Bounds.bounds c.args.bounds.now in
    let i = c.ranks.invariant in
    let x = c.in-Some.rank in
    let before = c.ranks.yielded in
    let behind = c.next.new.self in
    let left : c.ranks.rank-iterator ≡ x ∷ behind = c.in-Some.ensures.steps in
    let whole : c.ancestors-rank-items.result ≡ before ++ c.ranks.rank-iterator =
    yielded_first (λ (left : List ℕ). left) c.ancestors-rank-items.result before c.ranks.rank-iterator
    (subst (λ s. Yields (YieldsFirst (λ (left : List ℕ). left)) s before c.ranks.rank-iterator) c.into_iter-rank-iterator.ensures.into_iter_gives c.ranks.yielded_by) in
    let all : ancestors_of c.args.tree.now c.args.to ≡ before ++ (x ∷ behind) = sym c.ancestors-rank-items.ensures.left ∙ whole ∙ ap (λ (xs : List ℕ). before ++ xs) left in
    let increasing : AllPairs (λ a b. a < b) (ancestors_of c.args.tree.now c.args.to) = AllPairs-from_increasing (ancestors_of c.args.tree.now c.args.to) c.ancestors-rank-items.ensures.rising in
    let rising : AllPairs (λ a b. a < b) (before ++ (x ∷ behind)) = subst (AllPairs (λ a b. a < b)) all increasing in
    let member : Contains (ancestors_of c.args.tree.now c.args.to) x = subst (λ (xs : List ℕ). Contains xs x) (sym all) (member_inside before x behind) in
    let above : c.args.to ≤ x = ancestor_above c.args.tree.now c.args.to x increasing member in
    let call = c.lead_up.ensures in
    let old = c.ranks.ahead in
    let new = c.lead_up.new.ahead in
    record {
      places = call.places ∙ i.places;
      nexts = call.nexts ∙ i.nexts;
      near = call.near;
      end = call.kept c.args.to above ∙ i.end;
      fall = λ z y edge m e.
          elim (Contains-append_cases before (x ∷ []) z m) [
            | inl earlier ↦
                let lt = before_below before x behind z rising earlier in
                let same = call.kept z (omega (arith, lt)) in
                let less = call.less y in
                let le = i.fall z y edge earlier e in
                omega (arith, same, less, le)
            | inr last ↦
                elim (member_cases x [] z last) [
                  | inl is ↦
                      let at : number_from 0 graph.edges x y ≡ Some edge = subst (λ (r : ℕ). number_from 0 graph.edges r y ≡ Some edge) (sym is) e in
                      subst (λ (r : ℕ). ahead_at new y ≤ bound edge Down + ahead_at new r) is (call.each y edge at)
                  | inr none ↦ absurd (none_in_nil z none)
                ]
          ];
    }
