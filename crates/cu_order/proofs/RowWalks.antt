-- What the rows of a text give, where a reader takes them all or refuses one.
use Rattle.std.proofs.Common.{◌≡◌, ◌≤◌, ◌<◌, ℕ, List, [], Some, refl, length}
use Rattle.std.specs.Prelude.{Result, Ok, Err}
use Rattle.std.proofs.lemmas.Bool.{le-ltb, lt-ltb}
use Rattle.cu_tables.specs.Checks.{Adds}
use Rattle.cu_tables.specs.Tables.{table}
use Rattle.cu_tables.specs.Taking.{Ends}
use Rattle.cu_tables.proofs.TakingFacts.{Follows, Leads, walked}
use Rattle.cu_order.specs.declared.refusals.OrderRefusal.{OrderRefusal}
use Rattle.cu_order.specs.declared.refusals.OrderRefusal.TheVariants.{Count}
use Rattle.cu_order.specs.declared.reader.ListedNodes.{ListedNodes}
use Rattle.cu_order.specs.OrderTexts.{node_fault, node_of_row, nodes_from, order_of}

abbrev pub takes_node : ListedNodes → List (List ℕ) → ListedNodes → Type 0
takes_node s row t = (length t.seen.items ≡ length s.seen.items) × Adds (node_fault (length s.seen.items) s.nodes.items row) (node_of_row row) s.nodes.items t.nodes.items

abbrev pub refuses_node : ListedNodes → List (List ℕ) → OrderRefusal → ListedNodes → Type 0
refuses_node s row why t = (node_fault (length s.seen.items) s.nodes.items row ≡ Some why) × (t ≡ s)

-- there is a flag for each of so many nodes
abbrev pub HasFlags : ℕ → ListedNodes → Type 0
HasFlags nodes s = length s.seen.items ≡ nodes

-- what the rows behind those taken give
abbrev pub nodes_rest : ℕ → ListedNodes → List (List (List ℕ)) → Result (List ℕ) OrderRefusal
nodes_rest nodes s rows = nodes_from nodes s.nodes.items rows

follows : (nodes : ℕ) → Follows takes_node refuses_node (HasFlags nodes) (nodes_rest nodes)
follows nodes = record {
  kept = λ s row t h k. rw h.0 k;
  taken = λ s row t rest h k. rw (h.1.1, rw k at h.1.0) refl;
  refused = λ s row why t rest h k. rw (rw k at h.0) refl;
}

-- what the text gives, once it was gone through
pub nodes_read : {U : Type 0} (text : List ℕ) (s t : ListedNodes) (nodes : ℕ) (answer : Result U OrderRefusal) → s.nodes.items ≡ [] → length s.seen.items ≡ nodes
    → Ends takes_node refuses_node s (table text) t answer → Leads (order_of nodes text) (HasFlags nodes) (nodes_rest nodes) t answer
unfolding order_of
nodes_read text s t nodes answer empty count h = rw empty at (walked (follows nodes) s t (table text) answer count h)

-- enough rows, or too few
pub enough : (nodes : ℕ) (list : List ℕ) → nodes ≤ length list → nodes_from nodes list [] ≡ Ok list
enough nodes list h = rw (le-ltb (length list) nodes h) refl

pub too_few : (nodes : ℕ) (list : List ℕ) → length list < nodes → nodes_from nodes list [] ≡ Err (Count (length list))
too_few nodes list h = rw (lt-ltb (length list) nodes h) refl
