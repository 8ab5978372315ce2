use Rattle.std.proofs.Common.{◌≡◌, ◌<◌, ◌-◌, ◌∙◌, ℕ, suc, List, [], refl, sym, ap, subst, arith, drop, reverse, get_or, length}
use Rattle.std.specs.List.{Contains}
use Rattle.cu_chordal.specs.Graphs.{up_of}
use Rattle.cu_chordal.proofs.Members.{place_of}
use Rattle.cu_interval.specs.Hierarchies.{HierarchyValue}
use Rattle.cu_interval.specs.declared.ways.Dir.TheVariants.{Down}
use Rattle.cu_sweep.specs.LedCalls.{arcs_of_rank, arcs_of_ranks}
use Rattle.cu_day.specs.Steps.InTime.{InTime}
use Rattle.cu_day.specs.Steps.LedSteps.{AddsSomeOf}
use Rattle.cu_day.specs.Steps.Ranks.{DownSweptBy, GathersFrom}
use Rattle.cu_sweep.proofs.Rows.{row_edge}
use Rattle.cu_day.proofs.LedArcs.{none_of, rank_more}
use Rattle.cu_day.proofs.Places.{behind_place}
use Rattle.cu_sweep.proofs.Behind.{drop_all, turned_at, turned_back}
use Rattle.cu_day.proofs.Ranked.{swept_down_more, swept_down_none}
use Rattle.cu_day.proofs.timing.fall.Goals as goal

pub ranks-init : goal.ranks-init
ranks-init g c =
    let h = g.F.DayFunctions.hierarchy c.args.functions.now in
    let counts = InTime c.args.limits.now.by.now c.args.limits.now.outlook.now.down in
    let labels = c.args.reached.now.labels.items in
    let none : [] ≡ reverse (drop (length c.args.path.now) c.args.path.now) = sym (ap reverse (drop_all c.args.path.now)) in
    record {
      stays = refl;
      within = omega arith;
      swept = subst (λ (done : List ℕ). DownSweptBy counts h done labels labels) none (swept_down_none counts h labels);
      places = c.requires.places;
      slacks = c.requires.slacks;
      told = none_of _ (g.F.DayFunctions.calls c.args.functions.now);
    }

pub ranks-preserved : goal.ranks-preserved
ranks-preserved g c =
    let h = g.F.DayFunctions.hierarchy c.args.functions.now in
    let counts = InTime c.args.limits.now.by.now c.args.limits.now.outlook.now.down in
    let i = c.ranks.invariant in
    let path = c.args.path.now in
    let k = c.ranks.left - 1 in
    let next : c.ranks.left ≡ suc k = omega (arith, c.ranks-test.true) in
    let lt : k < length path = let within = i.within in omega (arith, within, next) in
    let x = get_or path k 0 in
    let first = c.args.reached.now.labels.items in
    let before = c.ranks.reached.labels.items in
    let after = c.gather_in_time.new.reached.labels.items in
    let gathers = subst (λ (v : HierarchyValue). GathersFrom counts v x (up_of v.edges x) before after) i.stays c.in_ok-gather_in_time.ensures.gathers in
    let done = reverse (drop (suc k) path) in
    let swept = subst (λ (n : ℕ). DownSweptBy counts h (reverse (drop n path)) first before) next i.swept in
    let calls = g.F.DayFunctions.calls c.args.functions.now in
    let mid = g.F.DayFunctions.calls c.ranks.functions in
    let now = g.F.DayFunctions.calls c.gather_in_time.new.functions in
    let so = subst (λ (n : ℕ). AddsSomeOf (arcs_of_ranks h Down (reverse (drop n path))) calls mid) next i.told in
    let told = subst (λ (v : HierarchyValue). AddsSomeOf (arcs_of_rank v Down x) mid now) i.stays c.in_ok-gather_in_time.ensures.told in
    let rises : (y z : ℕ) → Contains (up_of h.edges y) z → y < z = λ y z m. let at = place_of (up_of h.edges y) z m in
    (row_edge h c.requires.graph.1 y at.0 z at.1).2 in
    let more = swept_down_more counts h done x first before after
    (λ y m. behind_place path k y c.requires.rising lt (turned_back (drop (suc k) path) y m)) rises swept gathers in
    record {
      stays = c.gather_in_time.ensures.stays ∙ i.stays;
      within = omega (arith, lt);
      swept = subst (λ (ranks : List ℕ). DownSweptBy counts h ranks first after) (sym (turned_at path k lt)) more;
      places = c.in_ok-gather_in_time.ensures.places;
      slacks = c.in_ok-gather_in_time.ensures.slacks;
      told = subst (λ (ranks : List ℕ). AddsSomeOf (arcs_of_ranks h Down ranks) calls now) (sym (turned_at path k lt))
          (rank_more h Down done x calls mid now so told);
    }

pub returns-clause-swept : goal.returns-clause-swept
returns-clause-swept g c =
    let h = g.F.DayFunctions.hierarchy c.args.functions.now in
    let counts = InTime c.args.limits.now.by.now c.args.limits.now.outlook.now.down in
    let over : c.ranks.left ≡ 0 = omega (arith, c.ranks-test.false) in
    subst (λ (n : ℕ). DownSweptBy counts h (reverse (drop n c.args.path.now)) c.args.reached.now.labels.items c.ranks.reached.labels.items) over
    c.ranks.invariant.swept

pub returns-clause-told : goal.returns-clause-told
returns-clause-told g c =
    let h = g.F.DayFunctions.hierarchy c.args.functions.now in
    let over : c.ranks.left ≡ 0 = omega (arith, c.ranks-test.false) in
    subst (λ (n : ℕ). AddsSomeOf (arcs_of_ranks h Down (reverse (drop n c.args.path.now))) (g.F.DayFunctions.calls c.args.functions.now)
    (g.F.DayFunctions.calls c.ranks.functions)) over c.ranks.invariant.told
