-- `tables::JoinedTables::first_clash`: the invariant of the loop, what it ensures.
use Rattle.std.proofs.Common.{◌≤◌, [], length, take, get_or, ◌∙◌, arith}
use Rattle.std.proofs.lemmas.List.{take_all}
use Rattle.std.proofs.lemmas.List.Elements.{All-push}
use Rattle.cs_group.specs.Joining.{AgreesWith}
use Rattle.cs_value.proofs.ListLemmas.{take_more_at}
use Rattle.cs_file_scan.proofs.NamedLemmas.{table_at, tables_length}
use Rattle.cs_file_scan.specs.Named.{no_table}
use Rattle.cs_files.proofs.JoiningLemmas.{group_at, group_at_is, group_within, table_of_group}
use Rattle.cs_changegroup.proofs.tables.JoinedTables.first_clash.Goals as goal

pub returns-then-not-agrees-clause-clash : goal.returns-then-not-agrees-clause-clash
returns-then-not-agrees-clause-clash c = λ files groups others has added.
    let index = c.loop-index.index in
    let named = c.args.named.now in
    let lt = rw c.len-index-end.ensures at c.loop-index-test.true in
    record {
      within = group_within named others added index lt;
      before = c.loop-index.invariant files groups others has added;
      clash = λ d agrees.
          let yes = (c.agrees.ensures files groups (get_or others index d) has (c.header.ensures.same ∙ (table_at named.file named.tables others [] index no_table d added lt).header)).1 agrees in
          absurd cc;
    }

pub loop-index-preserved : goal.loop-index-preserved
loop-index-preserved c = λ files groups others has added.
    let index = c.loop-index.index in
    let named = c.args.named.now in
    let lt = rw c.len-index-end.ensures at c.loop-index-test.true in
    let group = group_at named others added index lt in
    let agrees : AgreesWith groups group = (c.agrees.ensures files groups group has (c.header.ensures.same ∙ (table_of_group named others added index lt).header)).0 cc in
    rw (take_more_at others index group (group_within named others added index lt) (group_at_is named others added index lt)) (All-push (AgreesWith groups) (take index others) group (c.loop-index.invariant files groups others has added) agrees)

pub returns-clause-none : goal.returns-clause-none
returns-clause-none c = λ files groups others has added.
    let named = c.args.named.now in
    let le : length others ≤ c.loop-index.index = omega (arith, c.loop-index-test.false, c.len-index-end.ensures, tables_length named.file named.tables others [] added) in
    rw (take_all c.loop-index.index others le) at (c.loop-index.invariant files groups others has added)
