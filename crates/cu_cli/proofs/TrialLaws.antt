-- Trials step by step: what is drawn, how much is counted, and what is said.
use Rattle.std.proofs.Common.{◌≡◌, ◌≤◌, ◌<◌, ◌+◌, ◌*◌, ◌^◌, ◌∙◌, ℕ, List, [], ◌++◌, suc, length, take, get_or, refl, sym, ap, subst, arith, inl, inr, false, append_assoc}
use Rattle.std.specs.Prelude.{Option, Some, slice_get}
use Rattle.std.specs.List.{sum_by}
use Rattle.std.proofs.lemmas.Bool.{eqb-true}
use Rattle.std.proofs.lemmas.Bool.Decides.{Decides-eqb}
use Rattle.std.proofs.lemmas.List.Kept.{AllPairs-from_increasing}
use Rattle.std.proofs.lemmas.List.Sums.{sum_by_more}
use Rattle.std.proofs.lemmas.Map.Made.{IsDistinct-from_AllPairs}
use Rattle.std.proofs.lemmas.Map.Steps.{length-le_from_distinct_below}
use Rattle.std.proofs.lemmas.Map.Views.{Contains-from_any}
use Rattle.std.proofs.lemmas.Nat.{mul-le}
use Rattle.std.proofs.lemmas.Option.{slice_get-get_or, slice_get_within}
use Rattle.cu_io.specs.Shelves.{ShelfState}
use Rattle.cu_io.specs.Sinks.{SinkState}
use Rattle.cu_io.specs.Sources.{SourceState}
use Rattle.cu_model.specs.declared.queries.Query.{Query}
use Rattle.cu_model.specs.declared.roads.Edit.{Edit}
use Rattle.cu_model.specs.Days.{day}
use Rattle.cu_model.proofs.RoadLaws.{all_at}
use Rattle.cu_model.specs.Edits.{IsEditInRange}
use Rattle.cu_model.specs.Networks.{NetworkValue}
use Rattle.cu_model.specs.Orders.{OrderValue}
use Rattle.cu_interval.specs.declared.ways.Dir.TheVariants.{Up, Down}
use Rattle.cu_interval.specs.declared.ways.Entry.{Entry}
use Rattle.cu_interval.specs.Hierarchies.{HierarchyValue, IsBuilt, IsHierarchy, entries_or_none, list_of}
use Rattle.cu_interval.specs.WayLists.{IsWayList}
use Rattle.cu_interval.proofs.Spelled.{few_entries}
use Rattle.cu_roads.specs.Draws.{after, drawn, stepped}
use Rattle.cu_roads.specs.Grids.{IsSide, behind_grid, grid_network}
use Rattle.cu_roads.proofs.DrawSteps.{after_two, drawn_below}
use Rattle.cu_roads.proofs.GridLaws.{length-days}
use Rattle.cu_cli.specs.declared.commands.trial.Tally.{Tally}
use Rattle.cu_cli.specs.declared.stops.Stop.{Stop}
use Rattle.cu_cli.specs.declared.stops.Stop.TheVariants as stop
use Rattle.cu_router.specs.Edited.{IsEdited}
use Rattle.cu_cli.specs.Commands.Trial.{EndsTrial, trying}
use Rattle.cu_cli.specs.Trials.{IsEditedBy, IsGridOrder, IsTrial, IsTried, IsTurn, TrialValue, drawn_edit, drawn_query, edits_text, hierarchy_text, queries_text}
use Rattle.cu_cli.specs.Words.{GridAsked, grid_read}
use Rattle.cu_cli.specs.Steps.Outcomes.{Did, world_of}
use Rattle.cu_cli.specs.Steps.Trials.{IsDrawable, StopsGrid, standing}
use Rattle.cu_cli.proofs.Completeness.{IsComplete}
use Rattle.cu_cli.proofs.LoadLaws.{only_nothing, only_refused}
use Rattle.cu_cli.proofs.WorkLaws.{stopped_before}

after_three : (state : ℕ) → after 3 state ≡ stepped (stepped (stepped state))
unfolding after
after_three state = refl

-- three draws one after the other
pub drawn_thrice : (state first second third : ℕ) → first ≡ stepped state → second ≡ stepped first → third ≡ stepped second → third ≡ after 3 state
drawn_thrice state first second third a b c = c ∙ ap stepped (b ∙ ap stepped a) ∙ sym (after_three state)

-- one draw and then two
pub drawn_once : (state first third : ℕ) → first ≡ stepped state → third ≡ after 2 first → third ≡ after 3 state
unfolding after
drawn_once state first third a b = b ∙ ap (λ (s : ℕ). stepped (stepped s)) a

-- the three numbers of a query
pub query_is : (nodes state first second from to at : ℕ) → from ≡ drawn nodes state → first ≡ stepped state → to ≡ drawn nodes first → second ≡ stepped first → at ≡ drawn day second
    → ◌≡◌ {A = Query} (record { from = from; to = to; second = at }) (drawn_query nodes state)
query_is nodes state first second from to at a b c d e =
    let later : second ≡ after 2 state = d ∙ ap stepped b ∙ sym (after_two state) in
    let there : to ≡ drawn nodes (stepped state) = c ∙ ap (drawn nodes) b in
    let then : at ≡ drawn day (after 2 state) = e ∙ ap (drawn day) later in
    rw (a, there, then) refl

-- an edit that was drawn may be made in a grid
pub edit_in_range : (g : NetworkValue) (state : ℕ) (edit : Edit) → edit ≡ drawn_edit state → IsDrawable g → IsEditInRange g edit
edit_in_range g state edit is drawable =
    let below = drawn_below 64 state (omega arith) in
    let long = drawable.profiles in
    rw is (omega (arith, below, long))

-- a grid has nodes to draw, and 64 profiles
pub grid_drawable : (grid : GridAsked) → IsSide grid.width → IsSide grid.height → IsDrawable (grid_read grid).network
unfolding grid_network
grid_drawable grid wide high = record {
  nodes = let more = mul-le 1 1 grid.width grid.height wide.0 high.0 in omega (arith, more);
  profiles = length-days 64 grid.start;
}

-- an edit touches no more edges than there are
pub touched_few : (old new : HierarchyValue) (edit : Edit) (count : ℕ) → IsEdited old edit new count → count ≤ 2 ^ 32
touched_few old new edit count made =
    let rising = AllPairs-from_increasing made.touched made.numbers.rising in
    let once = IsDistinct-from_AllPairs Decides-eqb made.touched (λ i j d lt inside. let up = rising i j d lt inside in λ same. omega (arith, up, same)) in
    let few = length-le_from_distinct_below made.touched (length old.edges) once
    (λ q found. let (ends, is, touched) = (made.numbers.exact q).0 (Contains-from_any eqb-true q made.touched found) in slice_get_within old.edges q ends is) in
    let most = made.sound.graph.few_edges in
    let same = made.count in
    omega (arith, few, most, same)

-- an edit that was drawn and made is a turn's edit
pub edit_counted : (old new : HierarchyValue) (count : ℕ) (before now : Tally) → IsEdited old (drawn_edit before.draws) new count
    → now.draws ≡ after 3 before.draws → now.touched ≡ before.touched + count → now.edits ≡ before.edits + 1 → now.reached ≡ before.reached → now.sum ≡ before.sum
    → IsEditedBy old.order (standing old.network before) (standing new.network now)
edit_counted old new count before now made draws touched edits reached sum = record {
  count = count;
  touches = record { edges = old.edges; listed = made.sound.edges; touched = made.touched; rising = made.numbers.rising; exact = made.numbers.exact; counted = made.count };
  network = made.resettled.network;
  state = draws;
  touched = touched;
  edits = edits;
  reached = reached;
  sum = sum;
}

module _ (h : HierarchyValue) (sound : IsHierarchy h) (edge : ℕ) (within : edge < length h.edges) where
  -- the list of an edge in a direction has this number
  list_there : (number : ℕ) → number < 2 * length h.edges → length (entries_or_none (slice_get h.lists number)) ≡ length (get_or h.lists number [])
  list_there number lt =
      let long = sound.lists in
      ap (λ (o : Option (List Entry)). length (entries_or_none o)) (slice_get-get_or h.lists number [] (omega (arith, lt, long)))

  -- the two lists of one more edge
  pub entries_more : sum_by (λ (list : List Entry). length list) (take (2 * (edge + 1)) h.lists)
      ≡ sum_by (λ (list : List Entry). length list) (take (2 * edge) h.lists) + length (list_of h edge Up) + length (list_of h edge Down)
  entries_more =
      let long = sound.lists in
      let f : List Entry → ℕ = λ list. length list in
      let first = sum_by_more f h.lists (2 * edge) [] (omega (arith, within, long)) in
      let second = sum_by_more f h.lists (2 * edge + 1) [] (omega (arith, within, long)) in
      let up = list_there (2 * edge) (omega (arith, within)) in
      let down = list_there (2 * edge + 1) (omega (arith, within)) in
      let next : sum_by f (take (2 * (edge + 1)) h.lists) ≡ sum_by f (take (2 * edge + 1 + 1) h.lists) = ap (λ (n : ℕ). sum_by f (take n h.lists)) (omega arith) in
      omega (arith, first, second, up, down, next)

  list_few : (number : ℕ) → number < 2 * length h.edges → length (entries_or_none (slice_get h.lists number)) ≤ day
  list_few number lt =
      let long = sound.lists in
      let list = get_or h.lists number [] in
      let few = few_entries list (all_at IsWayList h.lists number list sound.spelled (slice_get-get_or h.lists number [] (omega (arith, lt, long)))) in
      let same = list_there number lt in
      omega (arith, few, same)

  pub ups_few : length (list_of h edge Up) ≤ day
  ups_few = list_few (2 * edge) (omega (arith, within))

  pub downs_few : length (list_of h edge Down) ≤ day
  downs_few = list_few (2 * edge + 1) (omega (arith, within))

-- one more turn
pub tried_more : (order : OrderValue) (start before now : TrialValue) (number : ℕ) → IsTried order start number before → IsTurn order number before now → IsTried order start (number + 1) now
tried_more order start before now number h k =
    let e : number + 1 ≡ suc number = omega arith in
    subst (λ (n : ℕ). IsTried order start n now) (sym e) (before, h, k)

-- all turns were taken
pub tried_all : (grid : GridAsked) (turns : ℕ) (first last : HierarchyValue) (draws : ℕ) (end : Tally) → IsGridOrder grid first.order → first.network ≡ (grid_read grid).network
    → draws ≡ behind_grid grid.start grid.width grid.height
    → IsTried first.order (standing first.network (record { draws = draws; reached = 0; sum = 0; edits = 0; touched = 0 })) turns (standing last.network end)
    → last.order ≡ first.order → IsBuilt last → IsTrial grid turns (hierarchy_text last ++ queries_text turns (standing last.network end) ++ edits_text (standing last.network end))
tried_all grid turns first last draws end order network behind tried same built = record {
  order = first.order;
  given = order;
  end = standing last.network end;
  tried = rw (network, behind) at tried;
  last = last;
  built = built;
  network = refl;
  same = same;
  line = refl;
}

-- where nothing fails, nothing but want of memory stops a trial whose graph hasn't too many edges
pub trial_law : (grid : GridAsked) (turns : ℕ) → IsComplete (trying grid turns)
unfolding trying
trial_law grid turns a b work why can fine is (inl (text, tried, inl (none, said), taken, stored)) = absurd (cc (none, is))
trial_law grid turns a b work why can fine is (inl (text, tried, inr (failed, front), taken, stored)) = absurd (fine.sink failed)
trial_law grid turns a b work why can fine is (inr (inl (order, given, many, before))) = absurd (can order given many)
trial_law grid turns a b work why can fine is (inr (inr before)) = inl (cc (before.0, is))

-- the hierarchy of a grid wasn't built
pub grid_stopped : (a : ShelfState) (s : SourceState) (k : SinkState) (grid : GridAsked) (turns : ℕ) (why : Stop) → StopsGrid grid why
    → Did false (Some why) (EndsTrial grid turns) (world_of a s k) (world_of a s k)
grid_stopped a s k grid turns stop.TooManyEdges (order, given, many) =
    stopped_before a a s k (EndsTrial grid turns) stop.TooManyEdges (only_refused stop.TooManyEdges tt (only_nothing a)) tt (λ work ends. inr (inl (order, given, many, ends)))
grid_stopped a s k grid turns stop.NoMemory h =
    stopped_before a a s k (EndsTrial grid turns) stop.NoMemory (only_refused stop.NoMemory tt (only_nothing a)) tt (λ work ends. inr (inr ends))
grid_stopped a s k grid turns _ h = absurd h

-- four texts in two pairs, and four more
pub pairs_then : (a b c d e f x y : List ℕ) → a ++ b ++ (c ++ d) ++ (e ++ f ++ x ++ y) ≡ a ++ b ++ c ++ d ++ e ++ f ++ x ++ y
pairs_then a b c d e f x y = simp append_assoc
