-- The rows of a table, one after the other.
use Rattle.std.proofs.Common.{◌≡◌, ◌∙◌, ◌++◌, ℕ, true, List, [], ◌∷◌, Option, Some, None, ap, append_assoc, refl, subst, sym}
use Rattle.std.specs.Prelude.{MatchOption, is_some, slice_get}
use Rattle.std.specs.List.{Contains}
use Rattle.std.proofs.lemmas.List.{append-nil}
use Rattle.cu_interval.specs.declared.ways.Dir.{Dir}
use Rattle.cu_interval.specs.Hierarchies.{HierarchyValue}
use Rattle.cu_reach.specs.declared.reaching.Reached.{Reached}
use Rattle.cu_reach.specs.declared.reaching.Reached.TheVariants.{Done, Long}
use Rattle.cu_reach.specs.declared.lines.ReachAsked.{ReachAsked}
use Rattle.cu_reach.specs.Aims.{HasRanks}
use Rattle.cu_reach.specs.Reaching.{HoldsLabelsOver, HoldsTimes, reached}
use Rattle.cu_reach.specs.ReachTexts.{reach_from, reach_reply, reach_text, row_from, row_then, rows_unless_none, table_rows, times_at, times_text}

-- behind a row that is done come those of the other sources, and behind one that isn't nothing does
abbrev pub rest_behind : Reached → List ℕ → List ℕ
rest_behind Done rest = rest
rest_behind (Long edge dir at) rest = []

module _ (h : HierarchyValue) (from second : ℕ) (targets : List ℕ) where
  row_split : (answer : Reached) (rest : List ℕ) → row_then h from second targets answer rest ≡ row_then h from second targets answer [] ++ rest_behind answer rest
  row_split Done rest = ap (λ (t : List ℕ). t ++ rest) (sym (append-nil (times_text (times_at h from second targets))))
  row_split (Long edge dir at) rest = sym (append-nil (row_then h from second targets (Long edge dir at) []))

  -- the rows from a source on, by what its reach answers
  pub row_more : (source : ℕ) (sources : List ℕ) (answer : Reached) → slice_get h.order.rank_of source ≡ Some from → answer ≡ reached h from second
      → table_rows h second targets (source ∷ sources) ≡ row_then h from second targets answer [] ++ rest_behind answer (table_rows h second targets sources)
  row_more source sources answer start is =
      let rest = table_rows h second targets sources in
      ap (λ (rank : Option ℕ). row_from h second targets rank rest) start ∙ ap (λ (found : Reached). row_then h from second targets found rest) (sym is) ∙ row_split answer rest

-- the same over hierarchies, seconds and targets that are these
pub row_next : (h over seen : HierarchyValue) (from second at source : ℕ) (targets to sources left : List ℕ) (answer : Reached) → over ≡ h → seen ≡ h → at ≡ second → to ≡ targets
    → left ≡ source ∷ sources → slice_get seen.order.rank_of source ≡ Some from → answer ≡ reached over from at
    → table_rows h second targets left ≡ row_then seen from at to answer [] ++ rest_behind answer (table_rows h second targets sources)
row_next h over seen from second at source targets to sources left answer same sees when which cut start is =
    let starts = subst (λ (g : HierarchyValue). slice_get g.order.rank_of source ≡ Some from) sees start in
    let found = is ∙ ap (λ (g : HierarchyValue). reached g from at) same ∙ ap (λ (t : ℕ). reached h from t) when in
    let rest = rest_behind answer (table_rows h second targets sources) in
    ap (table_rows h second targets) cut ∙ row_more h from second targets source sources answer starts found
    ∙ ap (λ (g : HierarchyValue). row_then g from second targets answer [] ++ rest) (sym sees)
    ∙ ap (λ (t : ℕ). row_then seen from t targets answer [] ++ rest) (sym when) ∙ ap (λ (nodes : List ℕ). row_then seen from at nodes answer [] ++ rest) (sym which)

-- the labels of a path that has the targets' ranks are those of the targets
pub times_over : (h over seen : HierarchyValue) (from at : ℕ) (path targets to : List ℕ) (labels : List (Option ℕ)) → over ≡ h → seen ≡ h → to ≡ targets
    → HasRanks h targets path → HoldsLabelsOver over from at path labels → HoldsTimes seen from at to labels
times_over h over seen from at path targets to labels same sees which aimed holds node rank member there low =
    let held = subst (λ (g : HierarchyValue). HoldsLabelsOver g from at path labels) (same ∙ sym sees) holds in
    held.1 rank (aimed node rank (subst (λ (nodes : List ℕ). Contains nodes node) which member)
    (subst (λ (g : HierarchyValue). slice_get g.order.rank_of node ≡ Some rank) sees there))

-- behind what isn't too long come the other rows
pub rest_done : (answer : Reached) (rest : List ℕ) → ((edge : ℕ) (dir : Dir) (second : ℕ) → answer ≡ Long edge dir second → ⊥) → rest_behind answer rest ≡ rest
rest_done Done rest short = refl
rest_done (Long edge dir second) rest short = absurd (short edge dir second refl)

-- all rows, where some were written and these are left
pub rows_whole : (all done rows row rest : List ℕ) → all ≡ done ++ rows → rows ≡ row ++ rest → all ≡ (done ++ row) ++ rest
rows_whole all done rows row rest whole cut = whole ∙ ap (λ (t : List ℕ). done ++ t) cut ∙ sym (append_assoc done row rest)

-- the text of what a reach answers is the reply to the question that it was made for
pub reach_told : (h : HierarchyValue) (asked : ReachAsked) (from : ℕ) (answer : Reached) → slice_get h.order.rank_of asked.from ≡ Some from
    → answer ≡ reached h from asked.second → reach_text h from asked.second answer ≡ reach_reply h asked
reach_told h asked from answer start is = ap (reach_text h from asked.second) is ∙ sym (ap (reach_from h asked.second) start)

-- where a first target was taken, all sources have their rows
pub rows_of_some : (h : HierarchyValue) (second : ℕ) (sources targets behind : List ℕ) (first : Option ℕ) → is_some first ≡ true
    → MatchOption first ((targets ≡ []) × (behind ≡ [])) (λ target. targets ≡ target ∷ behind)
    → table_rows h second targets sources ≡ rows_unless_none h second sources targets
rows_of_some h second sources targets behind None some cut = absurd (cc some)
rows_of_some h second sources targets behind (Some target) some cut = rw cut refl
