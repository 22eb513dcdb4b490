-- `adoption::renew_version`: the clause `set_up`.
use Rattle.std.proofs.Common.{ap, ◌∙◌, Some}
use Rattle.sqlite.specs.Held.{state}
use Rattle.sqlite.proofs.StateLemmas.{unchanged}
use Rattle.cs_store_encoding.specs.Versions.{bytes_of}
use Rattle.cs_store_adoption.proofs.AdoptionLemmas.{valid_holds}
use Rattle.cs_store_adoption.proofs.adoption.renew_version.Goals as goal

pub returns-in-Current-clause-set_up : goal.returns-in-Current-clause-set_up
returns-in-Current-clause-set_up g c clean =
    let old = state g.S.Store c.args.conn.now in
    let inside = c.requires.inside clean in
    let needs = c.requires.records clean in
    valid_holds old old needs.0 needs.1 (needs.2 ∙ ap (λ v. Some (bytes_of v)) c.in-Current.is) inside.inside (unchanged old inside.is_open)
