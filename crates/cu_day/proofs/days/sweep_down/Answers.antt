use Rattle.std.proofs.Common.{◌≡◌, ◌<◌, ◌-◌, ◌∙◌, ◌++◌, ℕ, suc, List, [], refl, sym, ap, subst, arith, drop, reverse, get_or, length}
use Rattle.std.specs.List.{Contains}
use Rattle.cu_chordal.specs.Graphs.{up_of}
use Rattle.cu_chordal.proofs.Members.{place_of}
use Rattle.cu_interval.specs.Hierarchies.{HierarchyValue}
use Rattle.cu_day.specs.Steps.Ranks.{DownSweptBy, GathersFrom}
use Rattle.std.proofs.lemmas.List.{append-nil}
use Rattle.cu_interval.specs.declared.ways.Dir.TheVariants.{Down}
use Rattle.cu_sweep.specs.LedCalls.{arcs_of_rank, arcs_of_ranks}
use Rattle.cu_day.proofs.Calls.{one_rank}
use Rattle.cu_sweep.proofs.Rows.{row_edge}
use Rattle.cu_day.proofs.Places.{behind_place}
use Rattle.cu_sweep.proofs.Behind.{drop_all, turned_at, turned_back}
use Rattle.cu_day.proofs.Ranked.{swept_down_more, swept_down_none}
use Rattle.cu_day.specs.Steps.Sweeping.{Always}
use Rattle.cu_day.proofs.days.sweep_down.Goals as goal

pub ranks-init : goal.ranks-init
ranks-init g c =
    let h = g.F.DayFunctions.hierarchy c.args.functions.now in
    let labels = c.args.labels.now.items in
    let first = g.F.DayFunctions.calls c.args.functions.now in
    let none : [] ≡ reverse (drop (length c.args.path.now) c.args.path.now) = sym (ap reverse (drop_all c.args.path.now)) in (
      refl,
      omega arith,
      subst (λ (done : List ℕ). DownSweptBy Always h done labels labels) none (swept_down_none Always h labels),
      subst (λ (done : List ℕ). first ≡ first ++ arcs_of_ranks h Down done) none (sym (append-nil first)),
    )

pub ranks-preserved : goal.ranks-preserved
ranks-preserved g c =
    let h = g.F.DayFunctions.hierarchy c.args.functions.now in
    let i = c.ranks.invariant in
    let path = c.args.path.now in
    let k = c.ranks.left - 1 in
    let next : c.ranks.left ≡ suc k = omega (arith, c.ranks-test.true) in
    let lt : k < length path = omega (arith, i.1, next) in
    let x = get_or path k 0 in
    let before = c.ranks.labels.items in
    let after = c.gather.new.labels.items in
    let first = c.args.labels.now.items in
    let gathers = subst (λ (v : HierarchyValue). GathersFrom Always v x (up_of v.edges x) before after) i.0 c.in_ok-gather.ensures.gathers in
    let done = reverse (drop (suc k) path) in
    let swept = subst (λ (n : ℕ). DownSweptBy Always h (reverse (drop n path)) first before) next i.2 in
    let calls = g.F.DayFunctions.calls c.args.functions.now in
    let so = subst (λ (n : ℕ). g.F.DayFunctions.calls c.ranks.functions ≡ calls ++ arcs_of_ranks h Down (reverse (drop n path))) next i.3 in
    let told =
    subst (λ (v : HierarchyValue). g.F.DayFunctions.calls c.gather.new.functions ≡ g.F.DayFunctions.calls c.ranks.functions ++ arcs_of_rank v Down x)
    i.0 c.in_ok-gather.ensures.told in
    let rises : (y z : ℕ) → Contains (up_of h.edges y) z → y < z = λ y z m. let at = place_of (up_of h.edges y) z m in
    (row_edge h c.requires.graph.1 y at.0 z at.1).2 in
    let more = swept_down_more Always h done x first before after
    (λ y m. behind_place path k y c.requires.rising lt (turned_back (drop (suc k) path) y m)) rises swept gathers in (
      c.gather.ensures.stays ∙ i.0,
      omega (arith, lt),
      subst (λ (ranks : List ℕ). DownSweptBy Always h ranks first after) (sym (turned_at path k lt)) more,
      subst (λ (ranks : List ℕ). g.F.DayFunctions.calls c.gather.new.functions ≡ calls ++ arcs_of_ranks h Down ranks) (sym (turned_at path k lt))
          (one_rank h calls (g.F.DayFunctions.calls c.ranks.functions) (g.F.DayFunctions.calls c.gather.new.functions) Down done x so told),
    )

pub returns-clause-swept : goal.returns-clause-swept
returns-clause-swept g c =
    let h = g.F.DayFunctions.hierarchy c.args.functions.now in
    let over : c.ranks.left ≡ 0 = omega (arith, c.ranks-test.false) in
    subst (λ (n : ℕ). DownSweptBy Always h (reverse (drop n c.args.path.now)) c.args.labels.now.items c.ranks.labels.items) over c.ranks.invariant.2

pub returns-clause-told : goal.returns-clause-told
returns-clause-told g c =
    let h = g.F.DayFunctions.hierarchy c.args.functions.now in
    let over : c.ranks.left ≡ 0 = omega (arith, c.ranks-test.false) in
    subst (λ (n : ℕ). g.F.DayFunctions.calls c.ranks.functions ≡ g.F.DayFunctions.calls c.args.functions.now ++ arcs_of_ranks h Down
    (reverse (drop n c.args.path.now))) over c.ranks.invariant.3
