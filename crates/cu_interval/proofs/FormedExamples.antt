-- The ways of the small hierarchy are well formed.
use Rattle.std.proofs.Common.{◌≡◌, ℕ, zero, suc, List, [], ◌∷◌, refl, subst, arith}
use Rattle.std.specs.Prelude.{All}
use Rattle.cu_chordal.specs.declared.graph.Ends.{Ends}
use Rattle.cu_chordal.proofs.Members.{member_at}
use Rattle.cu_interval.specs.declared.ways.Dir.{Dir}
use Rattle.cu_interval.specs.declared.ways.Dir.TheVariants.{Up, Down}
use Rattle.cu_interval.specs.declared.ways.Way.TheVariants.{Road, Via}
use Rattle.cu_interval.specs.declared.ways.Entry.{Entry}
use Rattle.cu_interval.specs.Hierarchies.{EachList, IsWellFormed, start_of, end_of, list_of}
use Rattle.cu_interval.proofs.Examples.{three_built, ends, entry}

abbrev pub Formed : ℕ → ℕ → List Entry → Type 0
Formed u v entries = All (λ (entry : Entry). IsWellFormed three_built u v entry.way) entries

none : (u v : ℕ) → Formed u v []
none u v = λ k d h. absurd (omega (arith, h))

one_more : (u v : ℕ) (e : Entry) (es : List Entry) → IsWellFormed three_built u v e.way → Formed u v es → Formed u v (e ∷ es)
one_more u v e es here rest zero d h = here
one_more u v e es here rest (suc k) d h = rest k d (omega (arith, h))

by_middle : IsWellFormed three_built 1 2 (Via 0)
by_middle = (omega arith, omega arith, member_at three_built.edges (ends 0 1) 0 refl, member_at three_built.edges (ends 0 2) 1 refl, (λ e. cc e), λ e. cc e)

-- an edge's ends, once read, are these
at_ends : (low high : ℕ) (dir : Dir) (entries : List Entry) (e : Ends) → ends low high ≡ e
    → Formed (start_of (ends low high) dir) (end_of (ends low high) dir) entries → Formed (start_of e dir) (end_of e dir) entries
at_ends low high dir entries e same f = subst (λ (x : Ends). Formed (start_of x dir) (end_of x dir) entries) same f

formed : EachList three_built Formed
formed zero Up e at = at_ends 0 1 Up [] e (cc at) (none 0 1)
formed zero Down e at = at_ends 0 1 Down (list_of three_built 0 Down) e (cc at)
    (one_more 1 0 (entry 0 (Road 0)) [] (0, 1, ((record { tail = 0; head = 1; profile = 0 }, refl, refl, refl), refl), refl, refl) (none 1 0))
formed (suc zero) Up e at = at_ends 0 2 Up (list_of three_built 1 Up) e (cc at)
    (one_more 0 2 (entry 0 (Road 1)) [] (1, 2, ((record { tail = 1; head = 2; profile = 1 }, refl, refl, refl), refl), refl, refl) (none 0 2))
formed (suc zero) Down e at = at_ends 0 2 Down [] e (cc at) (none 2 0)
formed (suc (suc zero)) Up e at = at_ends 1 2 Up (list_of three_built 2 Up) e (cc at)
    (one_more 1 2 (entry 0 (Via 0)) (entry 28740 (Road 2) ∷ entry 35851 (Via 0) ∷ []) by_middle
    (one_more 1 2 (entry 28740 (Road 2)) (entry 35851 (Via 0) ∷ []) (0, 2, ((record { tail = 0; head = 2; profile = 2 }, refl, refl, refl), refl), refl, refl)
    (one_more 1 2 (entry 35851 (Via 0)) [] by_middle (none 1 2))))
formed (suc (suc zero)) Down e at = at_ends 1 2 Down [] e (cc at) (none 2 1)
formed (suc (suc (suc n))) dir e at = absurd (cc at)
