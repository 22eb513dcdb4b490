-- `tables::JoinedTables::add_tables`: the invariant of the loop, what it ensures.
use Rattle.std.proofs.Common.{◌≤◌, ◌++◌, ◌∷◌, [], List, suc, length, drop, refl, sym, ap, ◌∙◌, subst, arith}
use Rattle.std.proofs.lemmas.List.{take_all}
use Rattle.cs_wire.specs.Changeset.{GroupData, IsGroup}
use Rattle.cs_wire.specs.Headers.{header_of}
use Rattle.cs_file_scan.proofs.NamedLemmas.{tables_length}
use Rattle.cs_group.specs.Joining.{AgreesWith, joined, joined_group, table_name}
use Rattle.cs_files.proofs.JoiningLemmas.{group_at, group_at_is, group_under, group_within, table_of_group}
use Rattle.cs_changegroup.specs.Slots.{groups_of}
use Rattle.cs_changegroup.proofs.OneByOneLemmas.{joined-none}
use Rattle.cs_changegroup.proofs.TableLemmas.{joined_next, next_agrees}
use Rattle.cs_changegroup.proofs.tables.JoinedTables.add_tables.Goals as goal

pub loop-index-init : goal.loop-index-init
loop-index-init c = λ kept others are added is joinable. (kept, are, sym (joined-none table_name joined_group (λ (g : GroupData). refl) (groups_of kept)))

pub loop-index-preserved : goal.loop-index-preserved
loop-index-preserved c = λ kept others are added is joinable.
    let index = c.loop-index.index in
    let named = c.args.named.now in
    let lt = rw c.len-index-end.ensures at c.loop-index-test.true in
    let group = group_at named others added index lt in
    let within = group_within named others added index lt in
    let group_is = group_at_is named others added index lt in
    let so = c.loop-index.invariant kept others are added is joinable in
    let under = group_under named others added index lt (header_of c.header.result) c.header.ensures.same in
    let agrees : AgreesWith (groups_of so.0) group = rw so.2 (next_agrees (groups_of kept) others index within is joinable group group_is) in
    let grown = c.in_ok-add_table.ensures so.0 group.entries (drop (suc index) others ++ []) so.1 (rw c.open.ensures (table_of_group named others added index lt).are_left) (subst IsGroup (sym under) (subst IsGroup (sym group_is) (is.each index group within))) (subst (AgreesWith (groups_of so.0)) (sym under) agrees) in (
      grown.0,
      grown.1,
      grown.2 ∙ ap (λ (g : GroupData). joined (groups_of so.0) (g ∷ [])) under ∙ ap (λ (gs : List GroupData). joined gs (group ∷ [])) so.2
          ∙ sym (joined_next (groups_of kept) others index within is joinable group group_is),
    )

pub returns : goal.returns
returns c = λ kept others are added is joinable.
    let named = c.args.named.now in
    let le : length others ≤ c.loop-index.index = omega (arith, c.loop-index-test.false, c.len-index-end.ensures, tables_length named.file named.tables others [] added) in
    rw (take_all c.loop-index.index others le) at (c.loop-index.invariant kept others are added is joinable)
