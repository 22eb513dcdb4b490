-- `numbering::number_header`: what `new` asks for.
use Rattle.std.proofs.Common.{◌≡◌, rules}
use Rattle.std.specs.Prelude.{string_bytes}
use Rattle.cs_group.specs.Numbering.{numbered_flags}
use Rattle.cs_group.proofs.NumberingLemmas.{IsHeader-numbered}
use Rattle.cs_group.proofs.numbering.number_header.Goals as goal

pub new-requires : goal.new-requires
new-requires c =
    let name : string_bytes c.in_ok-name.name ≡ c.args.header.now.name = search rules in
    let flags : c.in_ok-number_flags.field-0.items ≡ numbered_flags c.args.header.now.flags = search rules in
    rw (name, flags) (IsHeader-numbered c.args.header.now c.flags.ensures.well_formed)
