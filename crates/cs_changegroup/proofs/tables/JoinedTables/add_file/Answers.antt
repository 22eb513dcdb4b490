-- `tables::JoinedTables::add_file`: what `add_tables` requires, what it ensures.
use Rattle.std.proofs.Common.{◌≡◌, List, sym, ap, ◌∙◌, subst}
use Rattle.cs_wire.specs.Changeset.{GroupData}
use Rattle.cs_file_scan.specs.Named.{IsListing, NamedData}
use Rattle.cs_group.specs.Joining.{AreJoinable, joined}
use Rattle.cs_group.proofs.JoinLemmas.{joined_is_changeset}
use Rattle.cs_files.proofs.JoiningLemmas.{read_is}
use Rattle.cs_changegroup.specs.Slots.{IsPartOf, groups_of}
use Rattle.cs_changegroup.proofs.tables.JoinedTables.add_file.Goals as goal

pub returns-in-Some-clause-refused : goal.returns-in-Some-clause-refused
returns-in-Some-clause-refused c = λ groups has.
    let one = read_is _ c.read.result c.in_ok-named.named (IsListing c.args.file.now) c.in_ok-named.ensures.cases c.read.ensures.found in
    (one.0, one.1, c.in-Some.ensures.clash c.args.files.now groups one.0 has one.2)

pub add_tables-requires : goal.add_tables-requires
add_tables-requires c =
    let same : c.in_ok-named.named.file ≡ c.args.file.now = read_is _ c.read.result c.in_ok-named.named (λ (n : NamedData). n.file ≡ c.args.file.now) c.in_ok-named.ensures.cases c.read.ensures.file in
    subst (IsPartOf c.args.files.now c.args.base) (sym same) c.requires

pub returns-clause-joined : goal.returns-clause-joined
returns-clause-joined c = λ groups has.
    let one = read_is _ c.read.result c.in_ok-named.named (IsListing c.args.file.now) c.in_ok-named.ensures.cases c.read.ensures.found in
    let others : List GroupData = one.0 in
    let joinable : AreJoinable groups others = c.in_default.ensures.none c.args.files.now groups others has one.2 in
    let mine : AreJoinable (groups_of has.kept) others = rw has.groups_are at joinable in
    let grown = c.in_ok-add_tables.ensures has.kept others has.are_tables one.2 one.1.0 mine in
    record {
      others = others;
      is_file = one.1;
      joinable = joinable;
      has = record {
        kept = grown.0;
        are_tables = grown.1;
        groups_are = ap (λ (gs : List GroupData). joined gs others) has.groups_are ∙ sym grown.2;
        is_changeset = joined_is_changeset groups others has.is_changeset one.1.0 joinable;
      };
    }
