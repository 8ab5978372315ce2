-- What is written of a network is read as the same network.
use Rattle.std.proofs.Common.{◌≡◌, ◌∙◌, ◌≤◌, ◌<◌, ◌^◌, ℕ, List, ◌∷◌, Bool, true, false, Option, Some, None, refl, ap, arith, length, map}
use Rattle.std.specs.Prelude.{All, Result, Ok, decimal, nat_le, nat_lt, not, ◌&&◌, ◌==◌, if◌then◌else◌, sum_by}
use Rattle.std.proofs.lemmas.Bool.{and_from, eq-eqb, le-leb, lt-ltb, ne_eqb}
use Rattle.csv.proofs.RoundTrip.{rows_text}
use Rattle.csv.specs.Writing.{fields_text, is_blank}
use Rattle.cu_model.specs.declared.limits.TheConstants.{MAX_ARCS, MAX_NODES}
use Rattle.cu_model.specs.declared.roads.RoadArc.{RoadArc}
use Rattle.cu_model.specs.Networks.{IsNetwork}
use Rattle.cu_model.specs.Numbers.{is_number_word, number_value}
use Rattle.cu_tables.specs.Checks.{below, unless}
use Rattle.cu_tables.specs.Tables.{rows_below, table}
use Rattle.cu_tables.proofs.FieldFacts.{and_four, and_three}
use Rattle.cu_tables.proofs.Numerals.{decimal_value, decimal_word}
use Rattle.cu_tables.proofs.Round.{table_of_rows}
use Rattle.cu_profile.proofs.AgainFacts.{again}
use Rattle.cu_roads.specs.declared.places.Place.{Place}
use Rattle.cu_roads.specs.declared.places.TheConstants.{MAX_COORDINATE}
use Rattle.cu_roads.specs.declared.refusals.File.TheVariants.{Nodes, Roads}
use Rattle.cu_roads.specs.declared.refusals.RoadRefusal.{RoadRefusal}
use Rattle.cu_roads.specs.declared.refusals.RoadRefusal.TheVariants.{Header, Fields, Number, Sequence, TooManyNodes, TooManyArcs, NodeRange, ProfileRange}
use Rattle.cu_roads.specs.NetworkTexts.{NetworkRead, arc_fault, arc_header, arc_of_row, arcs_of_rows, arcs_of_text, has_arc_numbers, has_node_numbers, is_coordinate, network_of}
use Rattle.cu_roads.specs.NetworkTexts.{node_fault, node_header, place_of_row, places_of_rows, places_of_text, value_at}
use Rattle.cu_roads.specs.Steps.TableRows.{IsBetween}
use Rattle.cu_roads.specs.Written.{written_arc, arc_table, written_place, node_table, rows_from, written_network}
use Rattle.cu_roads.proofs.NetworkReads.{arcs-joined}
use Rattle.cu_roads.proofs.WrittenRows.{IsReadBack, rows_pass, rows_plain, rows_same}

-- a place whose x and y are coordinates
abbrev pub IsPlace : Place → Type 0
IsPlace place = (place.x ≤ MAX_COORDINATE) × (place.y ≤ MAX_COORDINATE)

below_is : (n limit : ℕ) → n < 2 ^ 64 → n < limit → nat_lt (number_value (decimal n)) limit ≡ true
below_is n limit small h = ap (λ (v : ℕ). nat_lt v limit) (decimal_value n small) ∙ lt-ltb n limit h

coordinate_word : (n : ℕ) → n ≤ MAX_COORDINATE → is_coordinate (decimal n) ≡ true
coordinate_word n h =
    let small : n < 2 ^ 64 = omega (arith, h) in
    and_from (is_number_word (decimal n)) (nat_le (number_value (decimal n)) MAX_COORDINATE) (decimal_word n small)
    (ap (λ (v : ℕ). nat_le v MAX_COORDINATE) (decimal_value n small) ∙ le-leb n MAX_COORDINATE h)

passes_four : (b1 b2 b3 b4 : Bool) (x1 x2 x3 x4 : RoadRefusal) → b1 ≡ true → b2 ≡ true → b3 ≡ false → b4 ≡ true
    → (if not b1 then Some x1 else if not b2 then Some x2 else if b3 then Some x3 else if not b4 then Some x4 else None) ≡ None
passes_four b1 b2 b3 b4 x1 x2 x3 x4 e1 e2 e3 e4 = rw (e1, e2, e3, e4) refl

passes_six : (b1 b2 b3 b4 b5 b6 : Bool) (x1 x2 x3 x4 x5 x6 : RoadRefusal) → b1 ≡ true → b2 ≡ true → b3 ≡ false → b4 ≡ true → b5 ≡ true → b6 ≡ true
    → (if not b1 then Some x1 else if not b2 then Some x2 else if b3 then Some x3 else if not b4 then Some x4 else if not b5 then Some x5 else if not b6 then Some x6 else None) ≡ None
passes_six b1 b2 b3 b4 b5 b6 x1 x2 x3 x4 x5 x6 e1 e2 e3 e4 e5 e6 = rw (e1, e2, e3, e4, e5, e6) refl

node_passes : (number : ℕ) (place : Place) → number < MAX_NODES → IsPlace place → node_fault number (written_place number place) ≡ None
node_passes number place few (x, y) =
    let row = written_place number place in
    let small : number < 2 ^ 64 = omega (arith, few) in
    passes_four (length row == 3) (has_node_numbers row) (number == MAX_NODES) (value_at row 0 == number) (Fields Nodes number) (Number Nodes number) (TooManyNodes number) (Sequence Nodes number)
    refl
    (and_three (is_number_word (decimal number)) (is_coordinate (decimal place.x)) (is_coordinate (decimal place.y))
    (decimal_word number small) (coordinate_word place.x x) (coordinate_word place.y y))
    (ne_eqb number MAX_NODES (λ e. absurd (omega (arith, few, e))))
    (eq-eqb (value_at row 0) number (decimal_value number small))

place_same : (a b : ℕ) (place : Place) → a ≡ place.x → b ≡ place.y → ◌≡◌ {A = Place} (record { x = a; y = b }) place
place_same a b place e f = rw (e, f) refl

nodes_back : IsReadBack written_place node_fault place_of_row MAX_NODES IsPlace
nodes_back = record {
  passes = node_passes;
  same = λ number place fits. place_same _ _ place (decimal_value place.x (omega (arith, fits.0))) (decimal_value place.y (omega (arith, fits.1)));
  plain = λ number place. refl;
}

arc_passes : (nodes profiles number : ℕ) (arc : RoadArc) → nodes < 2 ^ 64 → profiles < 2 ^ 64 → number < MAX_ARCS → IsBetween nodes profiles arc
    → arc_fault nodes profiles number (written_arc number arc) ≡ None
arc_passes nodes profiles number arc n p few (tail, head, profile) =
    let row = written_arc number arc in
    let small : number < 2 ^ 64 = omega (arith, few) in
    let t : arc.tail < 2 ^ 64 = omega (arith, tail, n) in
    let h : arc.head < 2 ^ 64 = omega (arith, head, n) in
    let q : arc.profile < 2 ^ 64 = omega (arith, profile, p) in
    passes_six (length row == 4) (has_arc_numbers row) (number == MAX_ARCS) (value_at row 0 == number)
    (nat_lt (value_at row 1) nodes && nat_lt (value_at row 2) nodes) (nat_lt (value_at row 3) profiles)
    (Fields Roads number) (Number Roads number) (TooManyArcs number) (Sequence Roads number) (NodeRange number) (ProfileRange number)
    refl
    (and_four (is_number_word (decimal number)) (is_number_word (decimal arc.tail)) (is_number_word (decimal arc.head)) (is_number_word (decimal arc.profile))
    (decimal_word number small) (decimal_word arc.tail t) (decimal_word arc.head h) (decimal_word arc.profile q))
    (ne_eqb number MAX_ARCS (λ e. absurd (omega (arith, few, e))))
    (eq-eqb (value_at row 0) number (decimal_value number small))
    (and_from (nat_lt (value_at row 1) nodes) (nat_lt (value_at row 2) nodes) (below_is arc.tail nodes t tail) (below_is arc.head nodes h head))
    (below_is arc.profile profiles q profile)

arc_same : (a b c : ℕ) (arc : RoadArc) → a ≡ arc.tail → b ≡ arc.head → c ≡ arc.profile → ◌≡◌ {A = RoadArc} (record { tail = a; head = b; profile = c }) arc
arc_same a b c arc e f g = rw (e, f, g) refl

arcs_back : (nodes profiles : ℕ) → nodes < 2 ^ 64 → profiles < 2 ^ 64 → IsReadBack written_arc (arc_fault nodes profiles) arc_of_row MAX_ARCS (IsBetween nodes profiles)
arcs_back nodes profiles n p = record {
  passes = λ number arc few fits. arc_passes nodes profiles number arc n p few fits;
  same = λ number arc fits.
      arc_same _ _ _ arc (decimal_value arc.tail (omega (arith, n, fits.0))) (decimal_value arc.head (omega (arith, n, fits.1))) (decimal_value arc.profile (omega (arith, p, fits.2)));
  plain = λ number arc. refl;
}

-- both texts begin with a letter, and so with no byte-order mark

nodes_begin : (rows : List (List (List ℕ))) → (rest : List ℕ) × (rows_text (node_header ∷ rows) ≡ 110 ∷ rest)
unfolding rows_text fields_text is_blank
nodes_begin rows = (_, refl)

arcs_begin : (rows : List (List (List ℕ))) → (rest : List ℕ) × (rows_text (arc_header ∷ rows) ≡ 97 ∷ rest)
unfolding rows_text fields_text is_blank
arcs_begin rows = (_, refl)

places_again : (places : List Place) → All IsPlace places → length places ≤ MAX_NODES → places_of_text (rows_text (node_table places)) ≡ Ok places
places_again places all few =
    let rows = rows_from written_place 0 places in
    let text = nodes_begin rows in
    let read : table (rows_text (node_table places)) ≡ node_table places =
    table_of_rows (node_table places) 110 text.0 text.1 (omega arith) ∙ ap (λ (rest : List (List (List ℕ))). node_header ∷ rest) (rows_plain nodes_back 0 places) in
    ap (λ (t : List (List (List ℕ))). below (Header Nodes) places_of_rows (rows_below node_header t)) read
    ∙ ap (λ (o : Option RoadRefusal). unless o (Ok (map place_of_row rows))) (rows_pass nodes_back 0 places all (omega (arith, few)))
    ∙ ap Ok (rows_same nodes_back 0 places all)

arcs_again : (nodes profiles : ℕ) (arcs : List RoadArc) → nodes < 2 ^ 64 → profiles < 2 ^ 64 → All (IsBetween nodes profiles) arcs → length arcs ≤ MAX_ARCS
    → arcs_of_text nodes profiles (rows_text (arc_table arcs)) ≡ Ok arcs
arcs_again nodes profiles arcs n p all few =
    let back = arcs_back nodes profiles n p in
    let rows = rows_from written_arc 0 arcs in
    let text = arcs_begin rows in
    let read : table (rows_text (arc_table arcs)) ≡ arc_table arcs =
    table_of_rows (arc_table arcs) 97 text.0 text.1 (omega arith) ∙ ap (λ (rest : List (List (List ℕ))). arc_header ∷ rest) (rows_plain back 0 arcs) in
    ap (λ (t : List (List (List ℕ))). below (Header Roads) (arcs_of_rows nodes profiles) (rows_below arc_header t)) read
    ∙ ap (λ (o : Option RoadRefusal). unless o (Ok (map arc_of_row rows))) (rows_pass back 0 arcs all (omega (arith, few)))
    ∙ ap Ok (rows_same back 0 arcs all)

same_count : (read : NetworkRead) (n : ℕ) → n ≡ read.network.nodes
    → ◌≡◌ {A = Result NetworkRead RoadRefusal} (Ok (record { network = record { nodes = n; arcs = read.network.arcs; profiles = read.network.profiles }; places = read.places })) (Ok read)
same_count read n e = rw e refl

-- a network and the places of its nodes are read from the texts that they are written as
pub written_again : (read : NetworkRead) → IsNetwork read.network → All IsPlace read.places → length read.places ≡ read.network.nodes → sum_by length read.network.profiles < 2 ^ 32
    → network_of (written_network read).nodes (written_network read).roads (written_network read).profiles ≡ Ok read
unfolding written_network
written_again read sound all count small =
    let g = read.network in
    let few = sound.few_nodes in
    let kinds = sound.few_profiles in
    let t = written_network read in
    arcs-joined t.nodes t.roads t.profiles read.places g.profiles g.nodes (length g.profiles) (Ok g.arcs)
    (places_again read.places all (omega (arith, few, count)))
    (again g.profiles sound.valid kinds small)
    (omega (arith, count)) refl
    (arcs_again g.nodes (length g.profiles) g.arcs (omega (arith, few)) (omega (arith, kinds)) sound.in_range sound.few_arcs)
    ∙ same_count read (length read.places) count
