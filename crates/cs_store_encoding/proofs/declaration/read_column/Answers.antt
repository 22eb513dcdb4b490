-- `declaration::read_column`: the clause `refused`.
use Rattle.std.proofs.Common.{refl, sym, ◌∙◌, inl, arith}
use Rattle.std.proofs.lemmas.List.{take_rest}
use Rattle.cs_store_encoding.proofs.DeclarationLemmas.{no_column}
use Rattle.cs_store_encoding.proofs.declaration.read_column.Goals as goal

pub returns-in-Err-clause-refused : goal.returns-in-Err-clause-refused
returns-in-Err-clause-refused c =
    let found = c.in_ok-name.ensures.found in
    inl (refl, no_column c.args.bytes.now c.in_ok-name.name.now c.in_ok-name.rest.now (omega arith) found.0 (sym (take_rest c.args.bytes.now 1) ∙ found.1) c.in-Err.ensures.cases.0)
