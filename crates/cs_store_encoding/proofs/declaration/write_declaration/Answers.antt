-- `declaration::write_declaration`: what `write_columns` asks for.
use Rattle.std.proofs.Common.{ℕ, List, length, string_bytes, sym, ap, ◌∙◌}
use Rattle.std.proofs.lemmas.List.{length-map}
use Rattle.cs_store_encoding.proofs.CodeLemmas.{columns_length}
use Rattle.cs_store_encoding.proofs.declaration.write_declaration.Goals as goal

pub write_columns-requires-clause-as_many : goal.write_columns-requires-clause-as_many
write_columns-requires-clause-as_many c =
    ap (λ (l : List ℕ). length l) (c.deref.ensures.value ∙ c.in_ok-codes.ensures) ∙ columns_length c.args.schema.now c.flags.ensures.well_formed
    ∙ sym (ap (λ (l : List (List ℕ)). length l) c.columns.ensures) ∙ length-map c.columns.result.now string_bytes
