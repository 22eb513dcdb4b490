-- The names and rules of the columns so far are pushed, and the others are left.
use Rattle.std.proofs.Common.{◌≡◌, ◌++◌, map, string_bytes}
use Rattle.std.specs.Vec.Iter.{into_iter_items}
use Rattle.cs_shell_grammar.proofs.statement.names_and_rules.Given as goal

abbrev pub invariant-loop-column : goal.invariant-loop-column
invariant-loop-column l = record {
  names : map string_bytes l.names.items ≡ map (λ c. string_bytes c.name) l.yielded;
  refuses : l.refuses.items ≡ map (λ c. c.refuses) l.yielded;
  whole : l.yielded ++ into_iter_items l.column-iterator ≡ l.fn.columns.items;
}
