use Rattle.std.proofs.Common.{◌≡◌, ◌+◌, ℕ, Bool, List, length}
use Rattle.std.specs.Prelude.{◌&&◌, map, nat_lt}
use Rattle.std.specs.List.{list_all}
use Rattle.cu_model.specs.Numbers.{is_number_word, number_value}
use Rattle.cu_reach.specs.NodeFields.{fields_in}
use Rattle.cu_reach.proofs.tables.scan_nodes.Given as goal

abbrev pub all_below : ℕ → List (List ℕ) → Bool
all_below nodes fields = list_all (λ number. nat_lt number nodes) (map number_value fields)

abbrev pub invariant-fields : goal.invariant-fields
invariant-fields l = record {
  numbers : list_all is_number_word (fields_in l.fn.line) ≡ list_all is_number_word (fields_in l.rest);
  counted : l.count + length (fields_in l.rest) ≡ length (fields_in l.fn.line);
  below : all_below l.fn.nodes (fields_in l.fn.line) ≡ (l.in_range && all_below l.fn.nodes (fields_in l.rest));
}

abbrev pub decreases-fields : goal.decreases-fields
decreases-fields l = length (fields_in l.rest)
