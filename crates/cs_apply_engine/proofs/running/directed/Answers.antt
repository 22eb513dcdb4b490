-- `running::directed`: what it ensures of an inverse.
use Rattle.std.proofs.Common.{◌≡◌, List, ℕ, ap₂}
use Rattle.cs_wire_entries.specs.declared.entry.Entry.{Entry}
use Rattle.cs_wire.specs.Views.{inverse_entry}
use Rattle.cs_group.proofs.InverseGroups.{inverse_is}
use Rattle.cs_apply_engine.proofs.running.directed.Goals as goal

pub returns-in-Inverse : goal.returns-in-Inverse
returns-in-Inverse c =
    let seen = c.args.entry in
    let flags = c.inverted.ensures.flags in
    let same : c.inverted.result.entry ≡ inverse_entry seen.flags seen.entry = inverse_is seen.flags seen.entry c.inverted.result.entry c.requires (rw flags at c.inverted.ensures.well_formed) c.inverted.ensures.inverse in
    rw c.in-Inverse.is (ap₂ (λ (f : List ℕ) (e : Entry). record { flags = f; entry = e }) flags same)
