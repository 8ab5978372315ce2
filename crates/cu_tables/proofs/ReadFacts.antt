-- What one read does to a table text of which some rows were read.
use Rattle.std.proofs.Common.{Bor, ◌≡◌, ◌∙◌, ℕ, List, [], ◌∷◌, ◌++◌, Some, refl, sym, subst, inl, true, false, append_assoc}
use Rattle.std.specs.Prelude.{Bool, bytes_eq}
use Rattle.std.specs.Cmp.Lexicographic.{pointwise}
use Rattle.csv.specs.Reading.{ReadRecord, default_config, strip_bom}
use Rattle.csv.specs.declared.reader.Reader.{Reader}
use Rattle.csv.specs.declared.parser.State.TheVariants as st
use Rattle.csv.proofs.ReadFacts.{rows-end, rows-more}
use Rattle.cu_tables.specs.Steps.Reads.{HasRead, ReadsHeader, ReadsRow}
use Rattle.cu_tables.specs.Tables.{rows_below, table}
use Rattle.cu_tables.proofs.Whole.{all_of, front_of}

module _ (a b : Reader (Bor (List ℕ))) (text : List ℕ) (done : List (List (List ℕ))) (row : List (List ℕ)) where
  -- a read that found a row
  pub reads_row : HasRead a text done
      → ReadRecord (λ (s : Bor (List ℕ)). Some s.now) a b true row → b.first ≡ true → b.flexible ≡ a.flexible
      → ReadsRow b text done row true
  reads_row h r first same =
      let m = rows-more (λ (s : Bor (List ℕ)). Some s.now) a b row default_config st.StartRecord (strip_bom text) h.unread done h.config h.source h.reached r in
      let all = front_of default_config b.state (strip_bom text) m.0 (done ++ (row ∷ [])) m.2 in (
        record {
          trim = r.3 ∙ h.trim;
          ready = inl first;
          config = r.2 ∙ h.config;
          flexible = same ∙ h.flexible;
          unread = m.0;
          source = m.1;
          reached = m.2;
        },
        (_, all ∙ append_assoc done (row ∷ []) _),
      )

  -- a read that found none
  pub reads_none : HasRead a text done
      → ReadRecord (λ (s : Bor (List ℕ)). Some s.now) a b false row → table text ≡ done
  reads_none h r =
      sym (all_of default_config (strip_bom text) done (
        a.state,
        h.unread,
        h.reached,
        rows-end (λ (s : Bor (List ℕ)). Some s.now) a b row default_config h.unread h.config h.source r,
      ))

  -- a read, whether it found a row or none
  pub reads : (found : Bool) → HasRead a text done
      → ReadRecord (λ (s : Bor (List ℕ)). Some s.now) a b found row → b.first ≡ true → b.flexible ≡ a.flexible → ReadsRow b text done row found
  reads true h r first same = reads_row h r first same
  reads false h r first same = reads_none h r

-- what holds of the rows behind none is said of the whole table
pub whole_table : (P : List (List (List ℕ)) → Type 0) (it : Reader (Bor (List ℕ))) (text : List ℕ) → HasRead it text []
    → ((t : List ℕ) → (done : List (List (List ℕ))) → HasRead it t done → (rest : List (List (List ℕ))) × (table t ≡ done ++ rest) × P rest)
    → P (table text)
whole_table P it text h k =
    let (rest, e, p) = k text [] h in
    subst P (sym e) p

-- a first row, compared with the header
pub reads_header : (it : Reader (Bor (List ℕ))) (text : List ℕ) (names : List (List ℕ)) (row : List (List ℕ)) (found : Bool) → ReadsRow it text [] row true
    → found ≡ pointwise bytes_eq row names → ReadsHeader it text names found
reads_header it text names row true r e =
    (row, r.0, λ rest all. rw (all, sym e) refl)
reads_header it text names row false r e =
    rw (r.1.1, sym e) refl

-- what holds of the rows behind the header holds of the rows below it
pub below_header : (P : List (List (List ℕ)) → Type 0) (it : Reader (Bor (List ℕ))) (text : List ℕ) (names : List (List ℕ)) → ReadsHeader it text names true
    → ((t : List ℕ) → (done : List (List (List ℕ))) → HasRead it t done → (rest : List (List (List ℕ))) × (table t ≡ done ++ rest) × P rest)
    → (rows : List (List (List ℕ))) × (rows_below names (table text) ≡ Some rows) × P rows
below_header P it text names (head, read, below) k =
    let (rest, e, p) = k text (head ∷ []) read in
    (rest, below rest e, p)
