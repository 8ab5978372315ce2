-- Lists and low walks: where one leads, the built list has a way and the graph has an edge.
use Rattle.std.proofs.Common.{◌≡◌, ◌≢◌, ◌<◌, ◌++◌, ◌∙◌, ℕ, List, [], ◌∷◌, ap, subst, arith, min}
use Rattle.std.proofs.Math.Nat.{min-eq_left, min-eq_right}
use Rattle.cu_model.specs.Days.{day}
use Rattle.cu_model.specs.Networks.{NetworkValue, IsNetwork}
use Rattle.cu_model.specs.Orders.{OrderValue}
use Rattle.cu_model.specs.Roads.{drive}
use Rattle.cu_model.proofs.RoadLaws.{drive-append}
use Rattle.cu_chordal.specs.declared.graph.Ends.{Ends}
use Rattle.cu_chordal.specs.Edges.{JoinedBelow, ListsEdges}
use Rattle.cu_chordal.specs.Graphs.{HasEdge}
use Rattle.cu_chordal.proofs.Joined.{joined_back}
use Rattle.cu_interval.specs.declared.ways.Entry.{Entry}
use Rattle.cu_interval.specs.declared.ways.Way.{Way}
use Rattle.cu_interval.specs.declared.ways.Way.TheVariants.{Road, Via}
use Rattle.cu_interval.specs.FirstWays.{Arrives, IsBuiltList, IsCandidate}
use Rattle.cu_interval.specs.Low.{HasLowWalk, IsLeastLowDrive, IsLowWalk, WalkBelow}
use Rattle.cu_interval.specs.WayLists.{IsRunsOf}
use Rattle.cu_interval.proofs.BuiltWalks.{walk_path}
use Rattle.cu_interval.proofs.Candidates.{candidate_below}
use Rattle.cu_interval.proofs.Walks.{below-append, below-more}

-- the same first ways where the candidates and their values are the same
pub runs_by : (C D : Way → Type 0) (A B : ℕ → Way → ℕ → Type 0) (entries : List Entry) → ((way : Way) → C way → D way) → ((way : Way) → D way → C way)
    → ((s a : ℕ) (way : Way) → s < day → D way → A s way a → B s way a) → ((s a : ℕ) (way : Way) → s < day → D way → B s way a → A s way a)
    → IsRunsOf C A entries → IsRunsOf D B entries
runs_by C D A B entries to back there home f = record {
  spelled = f.spelled;
  first = λ s way lt e.
      let first = f.first s way lt e in
      let candidate = to way first.candidate in
      record {
        candidate = candidate;
        arrival = first.arrival;
        arrives = there s first.arrival way lt candidate first.arrives;
        first = λ other later d b. first.first other later (back other d) (home s later other lt d b);
      };
  none = λ empty way d. f.none empty way (back way d);
}

-- a low walk joins the ends of an edge
pub low_edge : (g : NetworkValue) (o : OrderValue) (edges : List Ends) → ListsEdges g o edges → (u v : ℕ) → HasLowWalk g o u v → u < v → HasEdge edges u v
low_edge g o edges f u v h lt =
    let (w, l) = h in
    (f.exact u v).1 (lt, (l.0, walk_path g o (min u v) u w v l.1))

pub low_edge_back : (g : NetworkValue) (o : OrderValue) (edges : List Ends) → ListsEdges g o edges → (u v : ℕ) → HasLowWalk g o u v → v < u → HasEdge edges v u
low_edge_back g o edges f u v h lt =
    let (w, l) = h in
    let path = walk_path g o (min u v) u w v l.1 in
    let back = joined_back g o (min u v) u path.0 v path.1 in
    let same : min u v ≡ min v u = omega arith in
    (f.exact v u).1 (lt, ((λ e. absurd (omega (arith, e, lt))), subst (λ (m : ℕ). JoinedBelow g o m v u) same back))

-- wherever a low walk joins two ranks of which one is below this, there is a least one
abbrev pub HasLeastBelow : NetworkValue → OrderValue → ℕ → Type 0
HasLeastBelow g o m = (x y t : ℕ) (w : List ℕ) → min x y < m → IsLowWalk g o x w y → (a : ℕ) × IsLeastLowDrive g o x y t a

-- a candidate's arrival is that of a low walk
pub candidate_walk : (g : NetworkValue) (o : OrderValue) (u v t : ℕ) (way : Way) (a : ℕ) → u ≢ v → IsCandidate g o u v way → Arrives g o u v t way a
    → (w : List ℕ) × IsLowWalk g o u w v × (drive g w t ≡ a)
candidate_walk g o u v t (Road r) a apart leads arrives = (r ∷ [], (apart, leads), arrives)
candidate_walk g o u v t (Via m) a apart (mu, mv, one, two) (between, first, second) =
    let (w1, l1, e1) = first.reached in
    let (w2, l2, e2) = second.reached in
    let low_u : min u m ≡ m = min-eq_right (omega (arith, mu)) in
    let low_v : min m v ≡ m = min-eq_left (omega (arith, mv)) in
    let below : m < min u v = omega (arith, mu, mv) in
    let to = below-more g o m (min u v) u w1 m (omega (arith, below)) (subst (λ (k : ℕ). WalkBelow g o k u w1 m) low_u l1.1) in
    let on = below-more g o m (min u v) m w2 v (omega (arith, below)) (subst (λ (k : ℕ). WalkBelow g o k m w2 v) low_v l2.1) in (
      w1 ++ w2,
      (apart, below-append g o (min u v) u m w1 w2 v below to on),
      drive-append g w1 w2 t ∙ ap (drive g w2) e1 ∙ e2,
    )

-- where a low walk leads, the built list has a way
pub built_some : (g : NetworkValue) (o : OrderValue) → IsNetwork g → (u v : ℕ) → HasLeastBelow g o (min u v) → (entries : List Entry) → IsBuiltList g o u v entries → HasLowWalk g o u v → entries ≢ []
built_some g o n u v has entries built (w, l) empty =
    let c = candidate_below g o n u v has (min u v) (omega arith) (omega arith) w 0 l.1 in
    built.none empty c.way c.candidate
