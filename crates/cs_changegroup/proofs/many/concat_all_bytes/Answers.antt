-- `many::concat_all_bytes`: the file that is returned.
use Rattle.std.proofs.Common.{◌≡◌, sym, subst}
use Rattle.cs_wire.specs.Changeset.{file_bytes}
use Rattle.cs_changegroup.specs.Chaining.{Chains, files_in}
use Rattle.cs_changegroup.proofs.FoldLemmas.{folds_chain}
use Rattle.cs_changegroup.proofs.many.concat_all_bytes.Goals as goal

pub returns-in-Ok-clause-chained : goal.returns-in-Ok-clause-chained
returns-in-Ok-clause-chained c =
    let to = c.in_ok-tables.ensures.joined in
    let written : c.in-Ok.out.items ≡ file_bytes to.groups = c.in-Ok.ensures to.groups to.has in
    subst (Chains (files_in c.args.files.now c.args.lengths.now)) (sym written) (folds_chain (files_in c.args.files.now c.args.lengths.now) to.groups to.folds)

pub returns-in-Ok-clause-length : goal.returns-in-Ok-clause-length
returns-in-Ok-clause-length c =
    let to = c.in_ok-tables.ensures.joined in
    let written : c.in-Ok.out.items ≡ file_bytes to.groups = c.in-Ok.ensures to.groups to.has in
    rw written to.fewer
