-- Functions that are let go of.
use Rattle.std.proofs.Common.{◌≡◌, ◌≢◌, ◌≤◌, ◌<◌, ◌∙◌, ℕ, suc, List, Some, None, refl, ap, sym, subst, arith, inl, inr, length, get_or}
use Rattle.std.specs.Prelude.{◌↔◌, All, slice_get, slice_set}
use Rattle.std.specs.List.{Contains}
use Rattle.std.proofs.lemmas.Bool.{cases_eq}
use Rattle.std.proofs.lemmas.List.{length-set}
use Rattle.std.proofs.lemmas.List.Elements.{All-contains}
use Rattle.std.proofs.lemmas.Option.{slice_get-get_or}
use Rattle.cu_model.proofs.ListLaws.{get_other}
use Rattle.cu_model.proofs.RoadLaws.{all_at}
use Rattle.cu_chordal.specs.declared.graph.Ends.{Ends}
use Rattle.cu_chordal.specs.Graphs.{ChordalValue, HasEdge, IsChordal}
use Rattle.cu_chordal.proofs.Members.{member_at}
use Rattle.cu_interval.specs.declared.ways.Dir.{Dir}
use Rattle.cu_interval.specs.Hierarchies.{list_number}
use Rattle.cu_unpack.specs.RebuiltRuns.{AreSpared, PackedValue}
use Rattle.cu_edits.specs.Settling.{SettlingValue, settled_so_far}
use Rattle.cu_edits.specs.Steps.Frames.{IsFrame}
use Rattle.cu_edits.specs.Steps.Moving.{AreApart, IsListUpTo, LeadsUpTo, LetsGo, MovedValue, StandingPair}
use Rattle.cu_edits.specs.Steps.Packed.{IsSettlingPacked}
use Rattle.cu_edits.proofs.AtHand.{same_edges}
use Rattle.cu_edits.proofs.Spared.{packed_spared}

-- none is
pub lets_none : (IsKept : ℕ → Type 0) (moved : MovedValue) → LetsGo IsKept moved moved
lets_none IsKept moved = record { places = refl; long = refl; low = refl; still = λ list place function kept at there. there }

-- first some are, then others
pub lets_then : (IsKept : ℕ → Type 0) (old mid new : MovedValue) → LetsGo IsKept old mid → LetsGo IsKept mid new → LetsGo IsKept old new
lets_then IsKept old mid new first then = record {
  places = then.places ∙ first.places;
  long = then.long ∙ first.long;
  low = then.low ∙ first.low;
  still = λ list place function kept at there.
      first.still list place function kept (ap (λ (ps : List ℕ). slice_get ps list) (sym then.places) ∙ at) (then.still list place function kept at there);
}

-- fewer lists are kept
pub lets_fewer : (IsKept IsLeft : ℕ → Type 0) (old new : MovedValue) → ((list : ℕ) → IsLeft list → IsKept list) → LetsGo IsKept old new → LetsGo IsLeft old new
lets_fewer IsKept IsLeft old new so lets = record {
  places = lets.places;
  long = lets.long;
  low = lets.low;
  still = λ list place function left. lets.still list place function (so list left);
}

-- one is
pub lets_one : (moved : MovedValue) (number place : ℕ) → AreApart moved.places → slice_get moved.places number ≡ Some (suc place)
    → LetsGo (λ (list : ℕ). list ≢ number) moved (record moved { functions = slice_set moved.functions place None })
lets_one moved number place apart here = record {
  places = refl;
  long = length-set moved.functions place None;
  low = refl;
  still = λ list other function kept at there. elim (cases_eq place other) [
    | inl same ↦ absurd (kept (apart list number other at (subst (λ (p : ℕ). slice_get moved.places number ≡ Some (suc p)) same here)))
    | inr off ↦ sym (get_other moved.functions place other None off) ∙ there
  ];
}

-- what a settler holds then
module _ (s : SettlingValue) (graph : ChordalValue) (arcs : List (List ℕ)) (packed now : PackedValue) (moved after : MovedValue) (low : ℕ) (holds : IsSettlingPacked s graph arcs packed moved)
    (rises : moved.low ≤ low) (lets : LetsGo (IsListUpTo graph.edges low) (record moved { low = low }) after) (spared : AreSpared packed now) where
  before : (list place : ℕ) → slice_get after.places list ≡ Some (suc place) → slice_get moved.places list ≡ Some (suc place)
  before list place at = ap (λ (ps : List ℕ). slice_get ps list) (sym lets.places) ∙ at

  inside : All (λ (place : ℕ). place ≤ length after.functions) moved.places
  inside = subst (λ (n : ℕ). All (λ (place : ℕ). place ≤ n) moved.places) (sym lets.long) holds.inside

  function_before : (place : ℕ) → suc place ≤ length moved.functions → slice_get moved.functions place ≡ Some (get_or moved.functions place None)
  function_before place le = slice_get-get_or moved.functions place None (omega (arith, le))

  up_before : (edge : ℕ) → LeadsUpTo s.before.edges after.low edge → LeadsUpTo s.before.edges moved.low edge
  up_before edge (ends, at, le) = let same = lets.low in (ends, at, omega (arith, le, same, rises))

  listed : (edge : ℕ) (dir : Dir) → LeadsUpTo s.before.edges after.low edge → IsListUpTo graph.edges low (list_number edge dir)
  listed edge dir up =
      let here : LeadsUpTo s.before.edges low edge = subst (λ (n : ℕ). LeadsUpTo s.before.edges n edge) lets.low up in
      (edge, dir, refl, subst (λ (es : List Ends). LeadsUpTo es low edge) (sym (same_edges s.before graph holds.parts.hierarchy)) here)

  pub holds_let_go : IsSettlingPacked s graph arcs now after
  holds_let_go = record {
    are = holds.are;
    parts = holds.parts;
    known = packed_spared s.before packed now holds.known spared;
    places = ap length lets.places ∙ holds.places;
    inside = subst (All (λ (place : ℕ). place ≤ length after.functions)) (sym lets.places) inside;
    stands = subst (λ (ps : List ℕ). IsFrame s.before (settled_so_far s) (StandingPair s (record { places = ps; functions = moved.functions; low = moved.low }))) (sym lets.places) holds.stands;
    moves = λ edge dir function (place, at, there).
        let at_before = before (list_number edge dir) place at in
        let le = all_at (λ (k : ℕ). k ≤ length moved.functions) moved.places (list_number edge dir) (suc place) holds.inside at_before in (
          (holds.moves edge dir (get_or moved.functions place None) (place, at_before, function_before place le)).0,
          λ up. (holds.moves edge dir function (place, at_before, lets.still (list_number edge dir) place function (listed edge dir up) at there)).1 (up_before edge up),
        );
  }

-- lower neighbours are below
pub down_below : (graph : ChordalValue) → IsChordal graph → (rank : ℕ) (downs : List ℕ) → ((x : ℕ) → Contains downs x ↔ HasEdge graph.edges x rank) → (i : ℕ) → i < length downs
    → get_or downs i 0 < rank
down_below graph is rank downs members i inside =
    let edge = (members (get_or downs i 0)).0 (member_at downs (get_or downs i 0) i (slice_get-get_or downs i 0 inside)) in
    (All-contains (λ (e : Ends). (e.low < e.high) × (e.high < graph.ranks)) graph.edges (record { low = get_or downs i 0; high = rank }) is.in_range edge).0
