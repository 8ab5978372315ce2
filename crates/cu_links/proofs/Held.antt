-- Edges held by rank: one more, one fewer, none.
use Rattle.std.proofs.Common.{◌≡◌, ◌≢◌, ◌≤◌, ◌<◌, ◌^◌, ◌∙◌, ℕ, List, [], ◌∷◌, Option, Some, None, refl, ap, sym, subst, arith, inl, inr, length}
use Rattle.std.specs.Prelude.{All, ◌↔◌, replicate, slice_get, slice_set}
use Rattle.std.specs.List.{Contains}
use Rattle.std.proofs.lemmas.Bool.{cases_eq}
use Rattle.std.proofs.lemmas.List.{length-replicate, length-set}
use Rattle.std.proofs.lemmas.List.Elements.{All-replicate, Contains-append_right}
use Rattle.std.proofs.lemmas.Map.Made.{Contains-tail}
use Rattle.std.proofs.lemmas.Option.{slice_get-get_or, slice_get_within}
use Rattle.cu_model.proofs.RoadLaws.{all_at}
use Rattle.cu_model.proofs.OptionLaws.{same_value}
use Rattle.cu_model.proofs.ListLaws.{get_here, get_other}
use Rattle.cu_links.specs.declared.buckets.EdgeState.{EdgeState}
use Rattle.cu_links.specs.declared.buckets.EdgeState.TheVariants.{Free, Held, Done}
use Rattle.cu_links.specs.Steps.Bucketed.{AreBuckets, AreLinked, FindsFirst, IsBucket, IsFirst}

-- one state holds an edge at one rank
pub same_rank : (a b : ℕ) (o : Option EdgeState) → o ≡ Some (Held a) → o ≡ Some (Held b) → a ≡ b
same_rank a b o p q = cc (p, q)

-- a link of an edge that isn't among them changes nothing
linked_kept : (nexts : List (Option ℕ)) (edge : ℕ) (link first : Option ℕ) (edges : List ℕ) → (Contains edges edge → ⊥) → AreLinked nexts first edges
    → AreLinked (slice_set nexts edge link) first edges
linked_kept nexts edge link first [] off l = l
linked_kept nexts edge link first (e ∷ edges) off (next, is, once, at, rest) = (
  next,
  is,
  once,
  get_other nexts edge e link (λ same. off (0, omega arith, sym same)) ∙ at,
  linked_kept nexts edge link next edges (λ c. off (Contains-append_right (e ∷ []) edges edge c)) rest,
)

-- an edge that isn't held at the rank, neither before nor after, changes nothing there
held_kept : (states : List EdgeState) (edge rank : ℕ) (before after : EdgeState) → slice_get states edge ≡ Some before → before ≢ Held rank → after ≢ Held rank
    → (e : ℕ) → (slice_get states e ≡ Some (Held rank)) ↔ (slice_get (slice_set states edge after) e ≡ Some (Held rank))
held_kept states edge rank before after at old new e =
    elim (cases_eq edge e) [
      | inl same ↦
          let was : slice_get states e ≡ Some before = subst (λ (k : ℕ). slice_get states k ≡ Some before) same at in
          let is : slice_get (slice_set states edge after) e ≡ Some after = subst (λ (k : ℕ). slice_get (slice_set states edge after) k ≡ Some after) same
          (get_here states edge after (slice_get_within states edge before at)) in
          ((λ h. absurd (old (same_value (slice_get states e) before (Held rank) was h))), λ h. absurd (new (same_value (slice_get (slice_set states edge after) e) after (Held rank) is h)))
      | inr other ↦ let kept = get_other states edge e after other in ((λ h. kept ∙ h), λ h. sym kept ∙ h)
    ]

module _ (nexts : List (Option ℕ)) (states : List EdgeState) (edge rank : ℕ) where
  bucket_kept : (link first : Option ℕ) (before after : EdgeState) → slice_get states edge ≡ Some before → before ≢ Held rank → after ≢ Held rank
      → IsBucket nexts states rank first → IsBucket (slice_set nexts edge link) (slice_set states edge after) rank first
  bucket_kept link first before after at old new b =
      let same = held_kept states edge rank before after at old new in
      record {
        edges = b.edges;
        linked = linked_kept nexts edge link first b.edges (λ c. old (same_value (slice_get states edge) before (Held rank) at ((b.exact edge).0 c))) b.linked;
        exact = λ e. ((λ c. (same e).0 ((b.exact e).0 c)), λ h. (b.exact e).1 ((same e).1 h));
      }

  bucket_more : (first : Option ℕ) → length nexts ≡ length states → slice_get states edge ≡ Some Free → IsBucket nexts states rank first
      → IsBucket (slice_set nexts edge first) (slice_set states edge (Held rank)) rank (Some edge)
  bucket_more first long free b =
      let lt = slice_get_within states edge Free free in
      let off : Contains b.edges edge → ⊥ = λ c. absurd (cc ((b.exact edge).0 c, free)) in
      record {
        edges = edge ∷ b.edges;
        linked = (first, refl, off, get_here nexts edge first (omega (arith, lt, long)), linked_kept nexts edge first first b.edges off b.linked);
        exact = λ e.
            elim (cases_eq edge e) [
              | inl same ↦ (
                (λ c. subst (λ (k : ℕ). slice_get (slice_set states edge (Held rank)) k ≡ Some (Held rank)) same (get_here states edge (Held rank) lt)),
                λ h. (0, omega arith, same),
              )
              | inr other ↦
                  let kept = get_other states edge e (Held rank) other in (
                    (λ c. kept ∙ (b.exact e).0 (Contains-tail edge b.edges e other c)),
                    λ h. Contains-append_right (edge ∷ []) b.edges e ((b.exact e).1 (sym kept ∙ h)),
                  )
            ];
      }

  bucket_fewer : (next : Option ℕ) → slice_get nexts edge ≡ Some next → (edges : List ℕ) → AreLinked nexts (Some edge) edges
      → ((e : ℕ) → Contains edges e ↔ (slice_get states e ≡ Some (Held rank))) → IsBucket nexts (slice_set states edge Done) rank next
  bucket_fewer next at [] linked exact = absurd (cc linked)
  bucket_fewer next at (first ∷ edges) (next2, is, once, at2, rest) exact =
      let same : first ≡ edge = cc is in
      let nexts_same : next2 ≡ next = same_value (slice_get nexts edge) next2 next (subst (λ (k : ℕ). slice_get nexts k ≡ Some next2) same at2) at in
      let held : slice_get states edge ≡ Some (Held rank) = (exact edge).0 (0, omega arith, same) in
      let lt = slice_get_within states edge (Held rank) held in
      record {
        edges = edges;
        linked = subst (λ (o : Option ℕ). AreLinked nexts o edges) nexts_same rest;
        exact = λ e.
            elim (cases_eq edge e) [
              | inl here ↦ (
                (λ c. absurd (once (subst (Contains edges) (sym here ∙ sym same) c))),
                λ h. absurd (cc (h, subst (λ (k : ℕ). slice_get (slice_set states edge Done) k ≡ Some Done) here (get_here states edge Done lt))),
              )
              | inr other ↦
                  let kept = get_other states edge e Done other in (
                    (λ c. kept ∙ (exact e).0 (Contains-append_right (first ∷ []) edges e c)),
                    λ h. Contains-tail first edges e (λ off. other (sym same ∙ off)) ((exact e).1 (sym kept ∙ h)),
                  )
            ];
      }

pub buckets_more : (firsts nexts : List (Option ℕ)) (states : List EdgeState) (last edge rank : ℕ) (first : Option ℕ) → AreBuckets firsts nexts states last
    → slice_get states edge ≡ Some Free
    → slice_get firsts rank ≡ Some first → last ≤ rank → AreBuckets (slice_set firsts rank (Some edge)) (slice_set nexts edge first) (slice_set states edge (Held rank)) last
buckets_more firsts nexts states last edge rank first f free at onward =
    let lt = slice_get_within states edge Free free in
    let inside = slice_get_within firsts rank first at in
    let firsts_long = length-set firsts rank (Some edge) in
    record {
      long = length-set nexts edge first ∙ f.long ∙ sym (length-set states edge (Held rank));
      few = subst (λ (n : ℕ). n < 2 ^ 32) (sym firsts_long) f.few;
      within = λ e r h.
          elim (cases_eq edge e) [
            | inl same ↦
                let is : rank ≡ r = same_rank rank r _ (subst (λ (k : ℕ). slice_get (slice_set states edge (Held rank)) k ≡ Some (Held rank)) same (get_here states edge (Held rank) lt)) h in
                (omega (arith, is, onward), omega (arith, is, inside, firsts_long))
            | inr other ↦ let (low, high) = f.within e r (sym (get_other states edge e (Held rank) other) ∙ h) in (low, omega (arith, high, firsts_long))
          ];
      buckets = λ r o e.
          elim (cases_eq rank r) [
            | inl same ↦
                let is : Some edge ≡ o = same_value (slice_get (slice_set firsts rank (Some edge)) r) (Some edge) o
                (subst (λ (k : ℕ). slice_get (slice_set firsts rank (Some edge)) k ≡ Some (Some edge)) same (get_here firsts rank (Some edge) inside)) e in
                subst (λ (k : ℕ). IsBucket (slice_set nexts edge first) (slice_set states edge (Held rank)) k o) same
                (subst (IsBucket (slice_set nexts edge first) (slice_set states edge (Held rank)) rank) is (bucket_more nexts states edge rank first f.long free (f.buckets rank first at)))
            | inr other ↦ bucket_kept nexts states edge r first o Free (Held rank) free (λ x. absurd (cc x)) (λ x. other (same_rank rank r (Some (Held rank)) refl (ap Some x)))
                (f.buckets r o (sym (get_other firsts rank r (Some edge) other) ∙ e))
          ];
    }

-- a bucket that holds an edge has a first one
first_of : (nexts : List (Option ℕ)) (first : Option ℕ) (edges : List ℕ) (e : ℕ) → AreLinked nexts first edges → Contains edges e → (edge : ℕ) × (first ≡ Some edge)
first_of nexts first [] e l c = absurd (omega (arith, c.1))
first_of nexts first (edge ∷ edges) e l c = (edge, l.1)

module _ (firsts nexts : List (Option ℕ)) (states : List EdgeState) (last : ℕ) where
  pub has_first : (e rank : ℕ) → AreBuckets firsts nexts states last → slice_get states e ≡ Some (Held rank) → (edge : ℕ) × (slice_get firsts rank ≡ Some (Some edge))
  has_first e rank f h =
      let inside = (f.within e rank h).1 in
      let at = slice_get-get_or firsts rank None inside in
      let b = f.buckets rank _ at in
      let (edge, is) = first_of nexts _ b.edges e b.linked ((b.exact e).1 h) in
      (edge, at ∙ ap Some is)

  -- the first edge of a rank is held there
  pub first_held_at : (edge rank : ℕ) → AreBuckets firsts nexts states last → slice_get firsts rank ≡ Some (Some edge) → slice_get states edge ≡ Some (Held rank)
  first_held_at edge rank f at = let b = f.buckets rank (Some edge) at in (b.exact edge).0 (first_in nexts edge b.edges b.linked)
    where
      first_in : (nexts : List (Option ℕ)) (edge : ℕ) (edges : List ℕ) → AreLinked nexts (Some edge) edges → Contains edges edge
      first_in nexts edge [] l = absurd (cc l)
      first_in nexts edge (e ∷ edges) l = (0, omega arith, cc l.1)

  pub first_inside : (edge rank : ℕ) → AreBuckets firsts nexts states last → IsFirst firsts last edge rank → (rank < length firsts) × (edge < length states) × (edge < length nexts)
  first_inside edge rank f first =
      let lt = slice_get_within states edge (Held rank) (first_held_at edge rank f first.there) in
      let long = f.long in
      (slice_get_within firsts rank (Some edge) first.there, lt, omega (arith, lt, long))

  -- the first rank with a first edge is the lowest that holds one
  pub lowest_held : (edge rank : ℕ) → AreBuckets firsts nexts states last → IsFirst firsts last edge rank → (other higher : ℕ) → slice_get states other ≡ Some (Held higher) → rank ≤ higher
  lowest_held edge rank f first other higher h =
      let (e, at) = has_first other higher f h in
      first.lowest e higher (f.within other higher h).0 at

  pub none_held : AreBuckets firsts nexts states last → FindsFirst firsts last None → (e rank : ℕ) → slice_get states e ≡ Some (Held rank) → ⊥
  none_held f none e rank h = let (edge, at) = has_first e rank f h in none edge rank (f.within e rank h).0 at

  pub buckets_fewer : (edge rank : ℕ) (next : Option ℕ) → AreBuckets firsts nexts states last → IsFirst firsts last edge rank → slice_get nexts edge ≡ Some next
      → AreBuckets (slice_set firsts rank next) nexts (slice_set states edge Done) rank
  buckets_fewer edge rank next f first at =
      let held = first_held_at edge rank f first.there in
      let inside = slice_get_within firsts rank (Some edge) first.there in
      let firsts_long = length-set firsts rank next in
      let away : (r : ℕ) → (rank ≡ r → ⊥) → (e : ℕ) → (slice_get states e ≡ Some (Held r)) ↔ (slice_get (slice_set states edge Done) e ≡ Some (Held r)) =
      λ r other. held_kept states edge r (Held rank) Done held (λ x. other (same_rank rank r (Some (Held rank)) refl (ap Some x))) (λ x. absurd (cc x)) in
      record {
        long = f.long ∙ sym (length-set states edge Done);
        few = subst (λ (n : ℕ). n < 2 ^ 32) (sym firsts_long) f.few;
        within = λ e r h.
            let was : slice_get states e ≡ Some (Held r) = elim (cases_eq edge e) [
              | inl same ↦ absurd (cc (h, subst (λ (k : ℕ). slice_get (slice_set states edge Done) k ≡ Some Done) same (get_here states edge Done (slice_get_within states edge (Held rank) held))))
              | inr other ↦ sym (get_other states edge e Done other) ∙ h
            ] in
            let high = (f.within e r was).1 in
            (lowest_held edge rank f first e r was, omega (arith, high, firsts_long));
        buckets = λ r o e.
            elim (cases_eq rank r) [
              | inl same ↦
                  let is : next ≡ o = same_value (slice_get (slice_set firsts rank next) r) next o
                  (subst (λ (k : ℕ). slice_get (slice_set firsts rank next) k ≡ Some next) same (get_here firsts rank next inside)) e in
                  let b = f.buckets rank (Some edge) first.there in
                  let fewer = subst (IsBucket nexts (slice_set states edge Done) rank) is (bucket_fewer nexts states edge rank next at b.edges b.linked b.exact) in
                  subst (λ (k : ℕ). IsBucket nexts (slice_set states edge Done) k o) same fewer
              | inr other ↦
                  let b = f.buckets r o (sym (get_other firsts rank r next other) ∙ e) in
                  record { edges = b.edges; linked = b.linked; exact = λ x. ((λ c. (away r other x).0 ((b.exact x).0 c)), λ h. (b.exact x).1 ((away r other x).1 h)) }
            ];
      }

-- nothing was added
pub no_buckets : (firsts nexts : List (Option ℕ)) (states : List EdgeState) (ranks edges : ℕ) → firsts ≡ replicate ranks None → states ≡ replicate edges Free
    → length nexts ≡ edges → ranks < 2 ^ 32
    → AreBuckets firsts nexts states 0
no_buckets firsts nexts states ranks edges none free long few =
    let all_none = subst (All (λ (o : Option ℕ). o ≡ None)) (sym none) (All-replicate (λ (o : Option ℕ). o ≡ None) ranks None refl) in
    let all_free = subst (All (λ (s : EdgeState). s ≡ Free)) (sym free) (All-replicate (λ (s : EdgeState). s ≡ Free) edges Free refl) in
    let never : (e rank : ℕ) → slice_get states e ≡ Some (Held rank) → ⊥ = λ e rank h. absurd (cc (all_at (λ (s : EdgeState). s ≡ Free) states e (Held rank) all_free h)) in
    record {
      long = long ∙ sym (ap length free ∙ length-replicate edges Free);
      few = subst (λ (n : ℕ). n < 2 ^ 32) (sym (ap length none ∙ length-replicate ranks None)) few;
      within = λ e rank h. absurd (never e rank h);
      buckets = λ rank first at. record {
        edges = [];
        linked = all_at (λ (o : Option ℕ). o ≡ None) firsts rank first all_none at;
        exact = λ e. ((λ c. absurd (omega (arith, c.1))), λ h. absurd (never e rank h));
      };
    }
