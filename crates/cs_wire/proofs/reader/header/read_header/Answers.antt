-- `reader::header::read_header`: what it ensures.
use Rattle.std.proofs.Common.{◌+◌, [], ◌∷◌, ◌∙◌, arith}
use Rattle.std.proofs.lemmas.Result.{err_from_is_err_and}
use Rattle.cs_wire_entries.specs.Changeset.{flags_bytes}
use Rattle.cs_wire_entries.specs.ReadFaults.{Stands}
use Rattle.cs_wire.proofs.HeaderFaults.{HeaderPart-more, HeaderPart-first}
use Rattle.cs_wire_entries.proofs.ReadingLemmas.{behind_byte, rest_is, first_byte, Stands-byte, header_bytes-append, Stands-header, same_header}
use Rattle.cs_wire.proofs.reader.header.read_header.Goals as goal

pub returns-then-file-at-eq-PATCHSET-clause-only : goal.returns-then-file-at-eq-PATCHSET-clause-only
returns-then-file-at-eq-PATCHSET-clause-only c = λ header rest h e.
    absurd (omega (arith, c.if-file-at-eq-PATCHSET.true, first_byte c.args.file.now c.args.at _ _ c.requires (e ∙ header_bytes-append header rest)))

pub returns-then-file-at-ne-TABLE-clause-only : goal.returns-then-file-at-ne-TABLE-clause-only
returns-then-file-at-ne-TABLE-clause-only c = λ header rest h e.
    absurd (c.if-file-at-ne-TABLE.true (first_byte c.args.file.now c.args.at _ _ c.requires (e ∙ header_bytes-append header rest)))

pub returns-in_err-flags-clause-only : goal.returns-in_err-flags-clause-only
returns-in_err-flags-clause-only c =
    λ header rest h e.
    let whole = e ∙ header_bytes-append header rest in
    let flags = behind_byte c.args.file.now c.args.at (c.args.at + 1) _ _ _ (Stands-byte c.args.file.now c.args.at c.requires) (first_byte c.args.file.now c.args.at _ _ c.requires whole) whole in
    absurd (c.in_err-flags.ensures.only header.flags _ h.flags flags)

pub returns-in_err-name-clause-only : goal.returns-in_err-name-clause-only
returns-in_err-name-clause-only c =
    λ header rest h e.
    let whole = e ∙ header_bytes-append header rest in
    let flags = behind_byte c.args.file.now c.args.at (c.args.at + 1) _ _ _ (Stands-byte c.args.file.now c.args.at c.requires) (first_byte c.args.file.now c.args.at _ _ c.requires whole) whole in
    let same = c.in_ok-flags.ensures.only header.flags _ h.flags flags in
    let name = rest_is c.args.file.now (c.args.at + 1) c.in_ok-flags.at (flags_bytes header.flags) _ (rw (← same) c.in_ok-flags.ensures.found.1) flags in
    absurd (c.in_err-name.ensures.only header.name rest h.name name)

pub returns-clause-well_formed : goal.returns-clause-well_formed
returns-clause-well_formed c = record { name = c.in_ok-name.ensures.found.0; flags = c.in_ok-flags.ensures.found.0 }

pub returns-clause-found : goal.returns-clause-found
returns-clause-found c =
    let file = c.args.file.now in
    let first : Stands file c.args.at (0x54 ∷ []) (c.args.at + 1) = rw c.if-file-at-ne-TABLE.false at (Stands-byte file c.args.at c.requires) in
    Stands-header file c.args.at (c.args.at + 1) c.in_ok-flags.at c.in_ok-name.at _ first c.in_ok-flags.ensures.found.1 c.in_ok-name.ensures.found.1

pub returns-clause-only : goal.returns-clause-only
returns-clause-only c = λ header rest h e.
    let whole = e ∙ header_bytes-append header rest in
    let flags = behind_byte c.args.file.now c.args.at (c.args.at + 1) _ _ _ (Stands-byte c.args.file.now c.args.at c.requires) (first_byte c.args.file.now c.args.at _ _ c.requires whole) whole in
    let same = c.in_ok-flags.ensures.only header.flags _ h.flags flags in
    let name = rest_is c.args.file.now (c.args.at + 1) c.in_ok-flags.at (flags_bytes header.flags) _ (rw (← same) c.in_ok-flags.ensures.found.1) flags in
    same_header _ _ header (c.in_ok-name.ensures.only header.name rest h.name name) same

pub returns-in_err-name-clause-fault : goal.returns-in_err-name-clause-fault
returns-in_err-name-clause-fault c =
    let p = err_from_is_err_and c.from_residual-in_err-name.result c.from_residual-in_err-name.ensures.1 in
    let file = c.args.file.now in
    let first : Stands file c.args.at (0x54 ∷ []) (c.args.at + 1) = rw c.if-file-at-ne-TABLE.false at (Stands-byte file c.args.at c.requires) in
    let flags = c.in_ok-flags.ensures.found in
    λ groups start only.
    let part = HeaderPart-more file (c.args.at + 1) c.in_ok-flags.at _ (HeaderPart-first file c.args.at (c.args.at + 1) groups start first) flags.1 in
    rw (p.1, p.2) (c.in_err-name.ensures.fault c.in_ok-flags.flags.now flags.0 part)
