-- Tables read with profiles in pieces that stand for measured ones: the network is the converted one, and what follows from its roads alone
-- follows from those of the measured one.
use Rattle.std.proofs.Common.{◌≡◌, ◌≢◌, ◌∙◌, ℕ, zero, suc, List, [], ◌∷◌, length, map, refl, sym, ap, subst, inl, inr}
use Rattle.std.specs.Prelude.{Result, Ok, Err, not, slice_get}
use Rattle.std.specs.List.{filter, list_any, range_with_len}
use Rattle.std.proofs.lemmas.List.{length-map}
use Rattle.cu_dissect.specs.Dissection.{Dissected as DissectedNodes, dissected, dissected_by, joins, left_of, rest_of, right_of}
use Rattle.cu_model.specs.declared.profiles.Piece.{Piece}
use Rattle.cu_model.specs.declared.roads.RoadArc.{RoadArc}
use Rattle.cu_model.specs.Networks.{NetworkValue}
use Rattle.cu_model.specs.Orders.{OrderValue}
use Rattle.cu_order.specs.declared.refusals.OrderRefusal.{OrderRefusal}
use Rattle.cu_roads.specs.NetworkTexts.{NetworkRead, arcs_of_text, joined, network_with, places_of_text, with_given}
use Rattle.cu_roads.specs.declared.places.Place.{Place}
use Rattle.cu_roads.specs.declared.refusals.RoadRefusal.{RoadRefusal}
use Rattle.cu_roads.specs.declared.refusals.RoadRefusal.TheVariants as road
use Rattle.cu_session.specs.Waiting.{roads_of}
use Rattle.cu_session.proofs.RoadsAlone.{edges_same, many_same}
use Rattle.cu_wait.specs.declared.points.Point.{Point}
use Rattle.cu_wait.specs.MeasuredTexts.{measured_of_text}
use Rattle.cu_wait.specs.Converted.{AreConverted, IsConverted, StandForSome}
use Rattle.cu_wait.specs.Networks.{Measured}
use Rattle.cu_io.specs.Shelves.{ShelfState}
use Rattle.cu_interval.specs.Hierarchies.{HierarchyValue, IsBuilt}
use Rattle.cu_cli.specs.declared.preparing.OrderGiven.{OrderGiven}
use Rattle.cu_cli.specs.declared.measuring.PreparedWaiting.{PreparedWaiting}
use Rattle.cu_cli.specs.declared.preparing.TableTexts.{TableTexts}
use Rattle.cu_cli.specs.declared.stops.Stop.{Stop}
use Rattle.cu_cli.specs.declared.stops.Stop.TheVariants as stop
use Rattle.cu_cli.specs.Preparing.{AreLoaded, HasFewEdges, IsOrderGiven, IsOrderOf, IsOrderRefused, StopsNetwork, StopsOrder}
use Rattle.cu_cli.specs.PreparingWaiting.{RawRead, StopsRoads, StopsTexts, joined_raw, raw_network_of, roads_read, with_places_raw}
use Rattle.cu_cli.specs.Steps.Loading.{IsGivenBy, order_kind, order_texts}
use Rattle.cu_cli.specs.Steps.Measuring.{HasBuiltMeasured, HasPreparedMeasured, IsReadMeasured, StopsReadingMeasured}
use Rattle.cu_cli.specs.Steps.Outcomes.{IsRefusal, stop_of_network}
use Rattle.cu_cli.specs.Words.{OrderAsked, Identity, Dissected, Named, TablesAsked, table_files}
use Rattle.cu_cli.proofs.OrderKinds.{order_asked_is, order_stops_asked}

-- as many profiles in pieces as measured ones
as_many : (measured : List (List Point)) (profiles : List (List Piece)) → AreConverted measured profiles → length profiles ≡ length measured
as_many [] [] all = refl
as_many [] (pieces ∷ profiles) all = absurd all
as_many (points ∷ measured) [] all = absurd all
as_many (points ∷ measured) (pieces ∷ profiles) all = ap suc (as_many measured profiles all.1)

-- each for its own
each_stands : (measured : List (List Point)) (profiles : List (List Piece)) → AreConverted measured profiles → (number : ℕ)
    → StandForSome (slice_get (map Measured measured) number) (slice_get profiles number)
each_stands [] [] all number = tt
each_stands [] (pieces ∷ profiles) all number = absurd all
each_stands (points ∷ measured) [] all number = absurd all
each_stands (points ∷ measured) (pieces ∷ profiles) all zero = all.0
each_stands (points ∷ measured) (pieces ∷ profiles) all (suc number) = each_stands measured profiles all.1 number

-- one reading gives the converted network of the other, or the same refusal
abbrev pub Converts : Result NetworkRead RoadRefusal → Result RawRead RoadRefusal → Type 0
Converts (Ok read) (Ok raw) = IsConverted raw.network read.network × (raw.places ≡ read.places)
Converts (Err refusal) (Err other) = other ≡ refusal
Converts _ _ = ⊥

module _ (measured : List (List Point)) (profiles : List (List Piece)) (all : AreConverted measured profiles) where
  joined_converts : (places : List Place) (arcs : Result (List RoadArc) RoadRefusal) → Converts (joined places profiles arcs) (joined_raw places measured arcs)
  joined_converts places (Err refusal) = refl
  joined_converts places (Ok arcs) = (
    record { nodes = refl; arcs = refl; count = as_many measured profiles all ∙ sym (length-map measured Measured); profiles = each_stands measured profiles all },
    refl,
  )

  places_convert : (places : Result (List Place) RoadRefusal) (roads : List ℕ) → Converts (with_given places roads profiles) (with_places_raw places roads measured)
  places_convert (Err refusal) roads = refl
  places_convert (Ok places) roads = rw (as_many measured profiles all) (joined_converts places (arcs_of_text (length places) (length measured) roads))

  pub texts_convert : (nodes roads : List ℕ) → Converts (network_with nodes roads profiles) (raw_network_of nodes roads measured)
  texts_convert nodes roads = places_convert (places_of_text nodes) roads

-- so a network is read where the converted one is
pub converts_ok : (named : Result NetworkRead RoadRefusal) (raws : Result RawRead RoadRefusal) (read : NetworkRead) → Converts named raws → named ≡ Ok read
    → (raw : RawRead) × (raws ≡ Ok raw) × IsConverted raw.network read.network × (raw.places ≡ read.places)
converts_ok (Ok other) (Ok raw) read (converted, places) is =
    let same : other ≡ read = cc is in
    (raw, refl, subst (λ (n : NetworkRead). IsConverted raw.network n.network) same converted, places ∙ ap (λ (n : NetworkRead). n.places) same)
converts_ok (Ok other) (Err refusal) read none is = absurd none
converts_ok (Err refusal) (Ok raw) read none is = absurd none
converts_ok (Err refusal) (Err other) read same is = absurd (cc is)

-- and refused where it is
converts_err : (named : Result NetworkRead RoadRefusal) (raws : Result RawRead RoadRefusal) (refusal : RoadRefusal) → Converts named raws → named ≡ Err refusal → raws ≡ Err refusal
converts_err (Ok read) (Ok raw) refusal converted is = absurd (cc is)
converts_err (Ok read) (Err other) refusal none is = absurd none
converts_err (Err other) (Ok raw) refusal none is = absurd none
converts_err (Err other) (Err said) refusal same is = cc (same, is)

pub network_stops_raw : (named : Result NetworkRead RoadRefusal) (raws : Result RawRead RoadRefusal) (why : Stop) → Converts named raws → StopsNetwork named why → StopsNetwork raws why
network_stops_raw named raws (stop.Network refusal) converts stops = converts_err named raws refusal converts stops
network_stops_raw named raws stop.NoMemory converts stops = tt
network_stops_raw named raws _ converts stops = absurd stops

-- the stop of refused tables, which comes before the script; want of memory has its own
pub stops_tables : {Read : Type 0} (named : Result Read RoadRefusal) (refusal : RoadRefusal) → (refusal ≢ road.NoMemory → named ≡ Err refusal)
    → StopsNetwork named (stop_of_network refusal) × IsRefusal (stop_of_network refusal)
stops_tables named (road.Header file) h = (h (λ e. cc e), tt)
stops_tables named (road.Fields file row) h = (h (λ e. cc e), tt)
stops_tables named (road.Number file row) h = (h (λ e. cc e), tt)
stops_tables named (road.TooManyNodes row) h = (h (λ e. cc e), tt)
stops_tables named (road.TooManyArcs row) h = (h (λ e. cc e), tt)
stops_tables named (road.Sequence file row) h = (h (λ e. cc e), tt)
stops_tables named (road.NodeRange row) h = (h (λ e. cc e), tt)
stops_tables named (road.ProfileRange row) h = (h (λ e. cc e), tt)
stops_tables named (road.Profiles why) h = (h (λ e. cc e), tt)
stops_tables named road.NoMemory h = (tt, tt)

-- the dissection of a network follows from its nodes and roads
dissected_same : (g other : NetworkValue) → other.arcs ≡ g.arcs → (places : List Place) (fuel : ℕ) (part : List ℕ)
    → dissected_by other places fuel part ≡ dissected_by g places fuel part
dissected_same g other same places zero part = refl
dissected_same g other same places (suc fuel) part =
    let right : right_of other places part ≡ right_of g places part =
    ap (λ (arcs : List RoadArc). filter (λ node. not (list_any (joins (left_of places part) node) arcs)) (rest_of places part)) same in
    let separator = ap (λ (arcs : List RoadArc). filter (λ node. list_any (joins (left_of places part) node) arcs) (rest_of places part)) same in
    let first = dissected_same g other same places fuel (left_of places part) in
    let second = dissected_same g other same places fuel (right_of other places part) ∙ ap (dissected_by g places fuel) right in
    cc (right, separator, first, second)

module _ (read : NetworkRead) (raw : RawRead) (c : IsConverted raw.network read.network) (places : raw.places ≡ read.places) where
  given_raw : (asked : OrderAsked) (texts : List (List ℕ)) (order : OrderValue) → IsOrderGiven asked read texts order → IsOrderGiven asked (roads_read raw) texts order
  given_raw Identity texts order is = rw (sym c.nodes) is
  given_raw Dissected texts order is =
      let same = dissected_same read.network (roads_of raw.network) (sym c.arcs) in
      let there = ap (λ (d : DissectedNodes). d.order) (same raw.places raw.network.nodes (range_with_len 0 raw.network.nodes)) in
      let nodes = ap (λ (n : ℕ). (dissected_by read.network raw.places n (range_with_len 0 n)).order) (sym c.nodes) in
      let here = ap (λ (p : List Place). (dissected read.network p).order) places in
      is ∙ sym (there ∙ nodes ∙ here)
  given_raw (Named name) (text ∷ texts) order is = rw (sym c.nodes) is
  given_raw (Named name) [] order is = absurd is

  -- the order is that of the nodes and roads
  pub order_raw : (asked : OrderAsked) (texts : List (List ℕ)) (order : OrderValue) → IsOrderOf asked read texts order → IsOrderOf asked (roads_read raw) texts order
  order_raw asked texts order is = record { sound = is.sound; count = is.count ∙ c.nodes; given = given_raw asked texts order is.given }

  refused_raw : (asked : OrderAsked) (texts : List (List ℕ)) (refusal : OrderRefusal) → IsOrderRefused asked read texts refusal → IsOrderRefused asked (roads_read raw) texts refusal
  refused_raw Identity texts refusal is = absurd is
  refused_raw Dissected texts refusal is = absurd is
  refused_raw (Named name) (text ∷ texts) refusal is = rw (sym c.nodes) is
  refused_raw (Named name) [] refusal is = absurd is

  pub order_stops_raw : (asked : OrderAsked) (texts : List (List ℕ)) (why : Stop) → StopsOrder asked read texts why → StopsOrder asked (roads_read raw) texts why
  order_stops_raw asked texts (stop.Order refusal) is = refused_raw asked texts refusal is
  order_stops_raw asked texts stop.TooManyEdges (order, is, many) =
      (order, order_raw asked texts order is, many_same read.network (roads_of raw.network) order (sym c.arcs) many)
  order_stops_raw asked texts stop.NoMemory is = tt
  order_stops_raw asked texts _ is = absurd is

  pub few_raw : (order : OrderValue) → HasFewEdges read.network order → HasFewEdges (roads_of raw.network) order
  few_raw order (edges, listed, few) = (edges, edges_same read.network (roads_of raw.network) order (sym c.arcs) edges listed, few)

-- what stops the reading of the tables with such profiles stops that of the nodes and roads with the measured ones
pub roads_stop : (asked : OrderAsked) (named : Result NetworkRead RoadRefusal) (raws : Result RawRead RoadRefusal) (given : List (List ℕ)) (why : Stop) → Converts named raws
    → StopsNetwork named why → StopsRoads asked raws given why
roads_stop asked named raws given why converts stops = inl (network_stops_raw named raws why converts stops)

pub roads_stop_later : (asked : OrderAsked) (named : Result NetworkRead RoadRefusal) (raws : Result RawRead RoadRefusal) (read : NetworkRead) (given : List (List ℕ)) (why : Stop)
    → Converts named raws → named ≡ Ok read → StopsOrder asked read given why → StopsRoads asked raws given why
roads_stop_later asked named raws read given why converts is stops =
    let (raw, raw_is, c, places) = converts_ok named raws read converts is in
    inr (raw, raw_is, order_stops_raw read raw c places asked given why stops)

-- the network that is read has these measured profiles
joined_profiles : (places : List Place) (measured : List (List Point)) (arcs : Result (List RoadArc) RoadRefusal) (read : RawRead) → joined_raw places measured arcs ≡ Ok read
    → read.network.profiles ≡ map Measured measured
joined_profiles places measured (Err refusal) read is = absurd (cc is)
joined_profiles places measured (Ok arcs) read is =
    let made : RawRead = record { network = record { nodes = length places; arcs = arcs; profiles = map Measured measured }; places = places } in
    let same : made ≡ read = cc is in
    sym (ap (λ (r : RawRead). r.network.profiles) same)

raw_profiles : (places : Result (List Place) RoadRefusal) (roads : List ℕ) (measured : List (List Point)) (read : RawRead) → with_places_raw places roads measured ≡ Ok read
    → read.network.profiles ≡ map Measured measured
raw_profiles (Err refusal) roads measured read is = absurd (cc is)
raw_profiles (Ok places) roads measured read is = joined_profiles places measured (arcs_of_text (length places) (length measured) roads) read is

-- what is read of texts that are loaded is prepared by them
pub prepared_measured : (a : ShelfState) (tables : TablesAsked) (asked : OrderAsked) (texts : TableTexts) (by : OrderGiven) (ready : PreparedWaiting) → IsGivenBy asked by
    → AreLoaded a (table_files tables asked) (texts.nodes.items ∷ texts.roads.items ∷ texts.profiles.items ∷ order_texts by) → IsReadMeasured texts by ready
    → HasPreparedMeasured a tables asked ready
prepared_measured a tables asked texts by ready h loaded (raw, points, named, c, is, few) = (
  raw,
  c,
  raw_profiles (places_of_text texts.nodes.items) texts.roads.items ready.measured.items raw named,
  (
    order_texts by,
    (texts.nodes.items, texts.roads.items, texts.profiles.items, ready.measured.items, loaded, points, named),
    order_asked_is asked by (roads_read raw) ready.prepared.order h is,
    few,
  ),
)

-- and what stops their reading stops it by the order that is asked for
pub texts_stop_asked : (asked : OrderAsked) (by : OrderGiven) (nodes roads text : List ℕ) (why : Stop) → IsGivenBy asked by
    → StopsTexts (order_kind by) nodes roads text (order_texts by) why → StopsTexts asked nodes roads text (order_texts by) why
texts_stop_asked asked by nodes roads text why h (inl stops) = inl stops
texts_stop_asked asked by nodes roads text why h (inr (measured, points, inl stops)) = inr (measured, points, inl stops)
texts_stop_asked asked by nodes roads text why h (inr (measured, points, inr (raw, named, stops))) =
    inr (measured, points, inr (raw, named, order_stops_asked asked by (roads_read raw) why h stops))

module _ (texts : TableTexts) (measured : List (List Point)) (profiles : List (List Piece)) (points : measured_of_text texts.profiles.items ≡ Ok measured)
    (all : AreConverted measured profiles) (by : OrderGiven) where
  -- the nodes and roads were read with the converted profiles, and the order that is given
  pub read_measured_is : (ready : PreparedWaiting) (read : NetworkRead) → ready.measured.items ≡ measured → ready.prepared.network ≡ read.network
      → network_with texts.nodes.items texts.roads.items profiles ≡ Ok read → IsOrderOf (order_kind by) read (order_texts by) ready.prepared.order
      → HasFewEdges read.network ready.prepared.order → IsReadMeasured texts by ready
  read_measured_is ready read measured_is network named is few =
      let raws = raw_network_of texts.nodes.items texts.roads.items measured in
      let converts = texts_convert measured profiles all texts.nodes.items texts.roads.items in
      let (raw, raw_is, c, same) = converts_ok (network_with texts.nodes.items texts.roads.items profiles) raws read converts named in (
        raw,
        points ∙ ap Ok (sym measured_is),
        subst (λ (m : List (List Point)). raw_network_of texts.nodes.items texts.roads.items m ≡ Ok raw) (sym measured_is) raw_is,
        subst (λ (n : NetworkValue). IsConverted raw.network n) (sym network) c,
        order_raw read raw c same (order_kind by) (order_texts by) ready.prepared.order is,
        few_raw read raw c same ready.prepared.order few,
      )

  -- or their reading stopped the run
  pub network_stops : (why : Stop) → StopsNetwork (network_with texts.nodes.items texts.roads.items profiles) why → StopsReadingMeasured texts by why
  network_stops why stops =
      inr (
        measured,
        points,
        roads_stop (order_kind by) (network_with texts.nodes.items texts.roads.items profiles)
            (raw_network_of texts.nodes.items texts.roads.items measured) (order_texts by) why (texts_convert measured profiles all texts.nodes.items texts.roads.items) stops,
      )

  -- or behind it the order
  pub order_stops : (why : Stop) (read : NetworkRead) → network_with texts.nodes.items texts.roads.items profiles ≡ Ok read
      → StopsOrder (order_kind by) read (order_texts by) why → StopsReadingMeasured texts by why
  order_stops why read named stops =
      inr (
        measured,
        points,
        roads_stop_later (order_kind by) (network_with texts.nodes.items texts.roads.items profiles)
            (raw_network_of texts.nodes.items texts.roads.items measured) read (order_texts by) why (texts_convert measured profiles all texts.nodes.items texts.roads.items)
            named stops,
      )

-- the hierarchy of prepared tables was built
pub has_built_measured : {a : ShelfState} (tables : TablesAsked) (asked : OrderAsked) {h : HierarchyValue} (ready : PreparedWaiting) → HasPreparedMeasured a tables asked ready → IsBuilt h
    → h.network ≡ ready.prepared.network → h.order ≡ ready.prepared.order → HasBuiltMeasured a tables asked ready.measured.items h
has_built_measured tables asked ready (read, c, measured, prepares) built network order =
    record { built = built; read = read; converted = rw network c; measured = measured; prepares = rw order prepares }
