-- `joining::join_tables`: what it ensures.
use Rattle.std.specs.Prelude.{filter, filter_map}
use Rattle.cs_wire.specs.Changeset.{group_bytes}
use Rattle.cs_group.specs.Joining.{is_new, joined_group, outcome, table_name}
use Rattle.cs_files.proofs.JoiningLemmas.{joined_bytes}
use Rattle.cs_files.proofs.joining.join_tables.Goals as goal

pub returns-clause-joinable : goal.returns-clause-joinable
returns-clause-joinable c = λ groups others left right p q.
    c.in_default.ensures.none groups others left p right

pub returns-clause-joined : goal.returns-clause-joined
returns-clause-joined c = λ groups others left right p q.
    let joinable = c.in_default.ensures.none groups others left p right in
    rw c.in_ok-out.ensures.items at (
    joined_bytes group_bytes c.in_ok-out.out.items c.write_kept_tables.new.out.items c.write_new_tables.new.out.items (filter_map (outcome table_name joined_group others) groups) (filter (is_new table_name groups) others)
    (c.in_ok-write_kept_tables.ensures groups others left right q joinable) (c.in_ok-write_new_tables.ensures groups others left p right)
    )

pub returns-in-Some-clause-refused : goal.returns-in-Some-clause-refused
returns-in-Some-clause-refused c = λ groups others left right p q.
    c.in-Some.ensures.clash groups others left p right
