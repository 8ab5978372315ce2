-- Labels of calls in time are those of all calls, as far as they are in time.
use Rattle.std.proofs.Common.{◌≡◌, ◌≤◌, ◌+◌, ◌∙◌, ℕ, zero, suc, Bool, List, [], ◌∷◌, Option, Some, None, refl, sym, ap, subst, arith, inl, inr, leb, true, false, map}
use Rattle.std.specs.List.{Contains}
use Rattle.std.proofs.lemmas.Bool.{cases_lt}
use Rattle.std.proofs.lemmas.Option.{none-some, same_Some}
use Rattle.cu_chordal.specs.Graphs.{up_of}
use Rattle.cu_chordal.proofs.Members.{here, there}
use Rattle.cu_chordal.proofs.Tables.{edge_from_up_of}
use Rattle.cu_elimtree.specs.SweepArcs.{ancestors_in}
use Rattle.cu_interval.specs.declared.ways.Dir.{Dir}
use Rattle.cu_interval.specs.declared.ways.Dir.TheVariants.{Up, Down}
use Rattle.cu_interval.specs.Hierarchies.{HierarchyValue, IsHierarchy, graph_of, number_from}
use Rattle.cu_interval.specs.LeastBounds.{least_bound}
use Rattle.cu_sweep.specs.Labels.{Label, down_label, down_label_by, earlier_of, earliest, label_over, start_label, up_label, up_label_by}
use Rattle.cu_sweep.specs.Swept.{IsClosed}
use Rattle.cu_sweep.specs.Steps.Ahead.{label_in_time}
use Rattle.cu_sweep.specs.Steps.Made.{Led, down_made, down_made_by, made_over, up_made, up_made_by}
use Rattle.cu_sweep.proofs.Chosen.{chosen_cases, chosen_first, chosen_second, over_late}

-- a label that is in time in one place is there in the other
abbrev pub GoesOver : ℕ → ℕ → Option Label → Option Label → Type 0
GoesOver by ahead a b = (l : Label) → l.second + ahead ≤ by → a ≡ Some l → b ≡ Some l

-- two labels are the same, as far as one of them is in time for what is still to go
pub record Agrees (by ahead : ℕ) (a b : Option Label) : Type 0 where
  pub over : GoesOver by ahead a b
  pub back : GoesOver by ahead b a

agrees_same : (by ahead : ℕ) (a b : Option Label) → a ≡ b → Agrees by ahead a b
agrees_same by ahead a b e = record { over = λ l lt is. sym e ∙ is; back = λ l lt is. e ∙ is }

-- with more still to go
agrees_less : (by less more : ℕ) (a b : Option Label) → less ≤ more → Agrees by less a b → Agrees by more a b
agrees_less by less more a b le f = record {
  over = λ l lt is. f.over l (omega (arith, le, lt)) is;
  back = λ l lt is. f.back l (omega (arith, le, lt)) is;
}

earlier_over : (by ahead : ℕ) (a b c d : Option Label) → Agrees by ahead a b → Agrees by ahead c d → GoesOver by ahead (earlier_of a c) (earlier_of b d)
earlier_over by ahead a b c d f g l lt e =
    elim (chosen_cases a c l e) [
      | inl k ↦ chosen_first b d l (f.over l lt k.0) (λ x is.
          elim (cases_lt by (x.second + ahead)) [
            | inr soon ↦ k.1 x (g.back x soon is)
            | inl late ↦ omega (arith, lt, late)
          ])
      | inr k ↦ chosen_second b d l (g.over l lt k.0) (λ x is.
          elim (cases_lt by (x.second + ahead)) [
            | inr soon ↦ k.1 x (f.back x soon is)
            | inl late ↦ omega (arith, lt, late)
          ])
    ]

agrees_back : (by ahead : ℕ) (a b : Option Label) → Agrees by ahead a b → Agrees by ahead b a
agrees_back by ahead a b f = record { over = f.back; back = f.over }

earlier_agrees : (by ahead : ℕ) (a b c d : Option Label) → Agrees by ahead a b → Agrees by ahead c d → Agrees by ahead (earlier_of a c) (earlier_of b d)
earlier_agrees by ahead a b c d f g = record {
  over = earlier_over by ahead a b c d f g;
  back = earlier_over by ahead b a d c (agrees_back by ahead a b f) (agrees_back by ahead c d g);
}

earliest_agrees : (by ahead : ℕ) (f g : ℕ → Option Label) (xs : List ℕ) → ((x : ℕ) → Contains xs x → Agrees by ahead (f x) (g x))
    → Agrees by ahead (earliest (map f xs)) (earliest (map g xs))
earliest_agrees by ahead f g [] each = agrees_same by ahead None None refl
earliest_agrees by ahead f g (x ∷ xs) each =
    earlier_agrees by ahead (f x) (g x) (earliest (map f xs)) (earliest (map g xs)) (each x (here x xs))
    (earliest_agrees by ahead f g xs (λ y c. each y (there x xs y c)))

-- no label in time comes of one that isn't there in time
module _ (h : HierarchyValue) (f : IsHierarchy h) (by start ahead edge : ℕ) (dir : Dir) (falls : start ≤ least_bound h edge dir + ahead) where
  comes_in_time : (a b : Option Label) → Agrees by start a b → (l : Label) → l.second + ahead ≤ by → label_over h (Some edge) dir a ≡ Some l
      → (s : Label) × (a ≡ Some s) × (b ≡ Some s) × ((s.second + least_bound h edge dir) + ahead ≤ by)
  comes_in_time None b agree l lt e = absurd (none-some l e)
  comes_in_time (Some s) b agree l lt e =
      let late = over_late h f edge dir s l e in
      (s, refl, agree.over s (omega (arith, late, lt, falls)) refl, omega (arith, late, lt))

  edge_agrees : (a b : Option Label) → Agrees by start a b → Agrees by ahead (label_over h (Some edge) dir a) (label_in_time h by (Some edge) dir ahead b)
  edge_agrees a None agree = record {
    over = λ l lt e. let (s, is, other, le) = comes_in_time a None agree l lt e in absurd (none-some s other);
    back = λ l lt e. absurd (none-some l e);
  }
  edge_agrees a (Some t) agree =
      elim (cases_lt by ((t.second + least_bound h edge dir) + ahead)) [
        | inr soon ↦
            let is : leb ((t.second + least_bound h edge dir) + ahead) by ≡ true = grind (arith, soon) in
            let same : a ≡ Some t = agree.back t (omega (arith, soon, falls)) refl in
            agrees_same by ahead (label_over h (Some edge) dir a) (label_in_time h by (Some edge) dir ahead (Some t))
            (ap (label_over h (Some edge) dir) same ∙ sym (rw is refl))
        | inl late ↦
            let is : leb ((t.second + least_bound h edge dir) + ahead) by ≡ false = grind (arith, late) in
            let none : label_in_time h by (Some edge) dir ahead (Some t) ≡ None = rw is refl in
            record {
              over = λ l lt e.
                  let (s, here, other, le) = comes_in_time a (Some t) agree l lt e in
                  let same = ap (λ (x : Label). x.second) (same_Some t s other) in
                  absurd (omega (arith, late, le, same));
              back = λ l lt e. absurd (none-some l (sym none ∙ e));
            }
      ]

-- what is ahead of each place falls by no more than the bound of a call
pub record IsPlaced (h : HierarchyValue) (q : Led) (to by : ℕ) (ahead : ℕ → ℕ) : Type 0 where
  pub allows : q.allows ≡ (λ place soonest. leb (soonest + ahead place) by)
  pub climb : (x y edge : ℕ) → Contains (ancestors_in (graph_of h) q.from) x → number_from 0 h.edges x y ≡ Some edge → ahead x ≤ least_bound h edge Up + ahead y
  pub turn : (x : ℕ) → Contains q.path x → ahead x ≤ ahead (h.network.nodes + x)
  pub fall : (x y edge : ℕ) → Contains q.path x → number_from 0 h.edges x y ≡ Some edge
      → ahead (h.network.nodes + y) ≤ least_bound h edge Down + ahead (h.network.nodes + x)
  pub end : ahead (h.network.nodes + to) ≡ 0

made_in_time : (h : HierarchyValue) (by ahead : ℕ) (n : Option ℕ) (dir : Dir) (o : Option Label) → made_over h (λ soonest. leb (soonest + ahead) by) n dir o ≡ label_in_time h by n dir ahead o
made_in_time h by ahead None dir o = refl
made_in_time h by ahead (Some edge) dir None = refl
made_in_time h by ahead (Some edge) dir (Some label) = refl

module _ (h : HierarchyValue) (f : IsHierarchy h) (q : Led) (closed : IsClosed h q.path) (to by : ℕ) (ahead : ℕ → ℕ) (placed : IsPlaced h q to by ahead) where
  -- a call over an edge that may be there
  call_agrees : (start place : ℕ) (n : Option ℕ) (dir : Dir) → ((edge : ℕ) → n ≡ Some edge → start ≤ least_bound h edge dir + ahead place) → (a b : Option Label) → Agrees by start a b
      → Agrees by (ahead place) (label_over h n dir a) (made_over h (q.allows place) n dir b)
  call_agrees start place n dir falls a b agree =
      let is : made_over h (q.allows place) n dir b ≡ label_in_time h by n dir (ahead place) b =
      ap (λ (allows : ℕ → ℕ → Bool). made_over h (allows place) n dir b) placed.allows ∙ made_in_time h by (ahead place) n dir b in
      subst (Agrees by (ahead place) (label_over h n dir a)) (sym is) (some n falls)
    where
      some : (n : Option ℕ) → ((edge : ℕ) → n ≡ Some edge → start ≤ least_bound h edge dir + ahead place) → Agrees by (ahead place) (label_over h n dir a) (label_in_time h by n dir (ahead place) b)
      some None falls = agrees_same by (ahead place) None None refl
      some (Some edge) falls = edge_agrees h f by start (ahead place) edge dir (falls edge refl) a b agree

  up_agrees_by : (fuel y : ℕ) → Agrees by (ahead y) (up_label_by h q.from q.second fuel y) (up_made_by h q fuel y)
  up_agrees_by zero y = agrees_same by (ahead y) None None refl
  up_agrees_by (suc fuel) y =
      let start = start_label q.from q.second y in
      let all : ℕ → Option Label = λ x. label_over h (number_from 0 h.edges x y) Up (up_label_by h q.from q.second fuel x) in
      let some : ℕ → Option Label = λ x. made_over h (q.allows y) (number_from 0 h.edges x y) Up (up_made_by h q fuel x) in
      let ranks = ancestors_in (graph_of h) q.from in
      earlier_agrees by (ahead y) start start (earliest (map all ranks)) (earliest (map some ranks)) (agrees_same by (ahead y) start start refl)
      (earliest_agrees by (ahead y) all some ranks
      (λ x c. call_agrees (ahead x) y (number_from 0 h.edges x y) Up (λ edge e. placed.climb x y edge c e) (up_label_by h q.from q.second fuel x) (up_made_by h q fuel x) (up_agrees_by fuel x)))

  down_agrees_by : (fuel x : ℕ) → Contains q.path x → Agrees by (ahead (h.network.nodes + x)) (down_label_by h q.from q.second fuel x) (down_made_by h q fuel x)
  down_agrees_by zero x c = agrees_same by (ahead (h.network.nodes + x)) None None refl
  down_agrees_by (suc fuel) x c =
      let place = h.network.nodes + x in
      let all : ℕ → Option Label = λ y. label_over h (number_from 0 h.edges x y) Down (down_label_by h q.from q.second fuel y) in
      let some : ℕ → Option Label = λ y. made_over h (q.allows place) (number_from 0 h.edges x y) Down (down_made_by h q fuel y) in
      earlier_agrees by (ahead place) (up_label h q.from q.second x) (up_made h q x) (earliest (map all (up_of h.edges x))) (earliest (map some (up_of h.edges x)))
      (agrees_less by (ahead x) (ahead place) (up_label h q.from q.second x) (up_made h q x) (placed.turn x c) (up_agrees_by (suc x) x))
      (earliest_agrees by (ahead place) all some (up_of h.edges x)
      (λ y d.
      let on = closed x y c (edge_from_up_of h.edges x y d) in
      call_agrees (ahead (h.network.nodes + y)) place (number_from 0 h.edges x y) Down (λ edge e. placed.fall x y edge c e) (down_label_by h q.from q.second fuel y) (down_made_by h q fuel y)
      (down_agrees_by fuel y on)))

  -- where the end is reached in time, it has the label of all calls
  pub goal_reached : Contains q.path to → (l : Label) → down_made h q to ≡ Some l → l.second ≤ by → down_label h q.from q.second to ≡ Some l
  goal_reached c l e le =
      let none = placed.end in
      (down_agrees_by h.network.nodes to c).back l (omega (arith, le, none)) e
