-- `declaration::read_counted`: the clause `refused`.
use Rattle.std.proofs.Common.{◌++◌, length, refl, ◌∙◌}
use Rattle.std.proofs.lemmas.Result.{err_from_is_err_and}
use Rattle.cs_store_encoding.proofs.DeclarationLemmas.{counted_count, counted_cut}
use Rattle.cs_store_encoding.proofs.declaration.read_counted.Goals as goal

pub returns-in_err-count-clause-refused : goal.returns-in_err-count-clause-refused
returns-in_err-count-clause-refused c =
    let p = err_from_is_err_and c.from_residual.result c.from_residual.ensures.1 in
    let no_count = c.in_err-count.ensures.refused in
    rw (p.1, p.2) (no_count.0, λ text rest short e. no_count.1 (length text) (text ++ rest) short (e ∙ counted_count text rest))

pub returns-in-None-clause-refused : goal.returns-in-None-clause-refused
returns-in-None-clause-refused c =
    let found = c.in_ok-count.ensures.found in
    (refl, counted_cut c.args.bytes.now c.in_ok-count.rest.now c.in_ok-count.count found.0 found.1 c.in-None.ensures.cases)
