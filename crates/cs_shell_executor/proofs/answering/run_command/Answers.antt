-- `answering::run_command`: what it ensures.
use Rattle.std.proofs.lemmas.Result.{err_from_is_err_and}
use Rattle.sqlite.specs.Held.{state}
use Rattle.cs_shell_executor.proofs.CommandLemmas.{works_on_slots, on_create, on_insert, on_update, on_delete, on_select, on_apply, on_apply_empty, on_revert, on_revert_empty, on_open, on_attach, on_changeset, on_is_empty, on_undo, on_close}
use Rattle.cs_shell_executor.proofs.answering.run_command.Goals as goal

pub returns-in-Create : goal.returns-in-Create
returns-in-Create g c = rw c.in-Create.is (on_create (state g.S.Store c.args.store.now) (state g.S.Store c.create.new.store) _ c.args.work.now.session c.args.work.now.session _ _ _ _ _ (rw (c.as_str.ensures.value, c.deref.ensures.value, c.deref-in-Create.ensures.value, c.deref-in-Create-2.ensures.value) at (c.create.ensures c.args.work.now.session)))

pub returns-in-Insert : goal.returns-in-Insert
returns-in-Insert g c = rw c.in-Insert.is (on_insert (state g.S.Store c.args.store.now) (state g.S.Store c.insert.new.store) _ c.args.work.now.session c.insert.new.session _ _ _ c.insert.ensures)

pub returns-in-Update : goal.returns-in-Update
returns-in-Update g c = rw c.in-Update.is (on_update (state g.S.Store c.args.store.now) (state g.S.Store c.update.new.store) _ c.args.work.now.session c.update.new.session _ _ _ _ (rw (c.deref-in-Update.ensures.value, c.deref-in-Update-2.ensures.value) at c.update.ensures))

pub returns-in-Delete : goal.returns-in-Delete
returns-in-Delete g c = rw c.in-Delete.is (on_delete (state g.S.Store c.args.store.now) (state g.S.Store c.delete.new.store) _ c.args.work.now.session c.delete.new.session _ _ _ (rw c.deref-in-Delete.ensures.value at c.delete.ensures))

pub returns-in-Select : goal.returns-in-Select
returns-in-Select g c = rw c.in-Select.is (on_select (state g.S.Store c.args.store.now) (state g.S.Store c.select.new.store) _ c.args.work.now.session c.args.work.now.session _ _ (rw c.as_str-in-Select.ensures.value at (c.select.ensures c.args.work.now.session)))

pub returns-in-Load : goal.returns-in-Load
returns-in-Load g c = rw c.in-Load.is (works_on_slots _ (state g.S.Store c.args.store.now) c.args.work.now.slots c.load.new.slots c.args.work.now.session _ (rw (c.as_bytes.ensures.value, c.as_bytes-in-Load.ensures.value) at c.load.ensures))

pub returns-in-Hex : goal.returns-in-Hex
returns-in-Hex g c = rw c.in-Hex.is (works_on_slots _ (state g.S.Store c.args.store.now) c.args.work.now.slots c.args.work.now.slots c.args.work.now.session _ (rw c.as_bytes-in-Hex.ensures.value at c.show.ensures))

pub returns-in-Dump : goal.returns-in-Dump
returns-in-Dump g c = rw c.in-Dump.is (works_on_slots _ (state g.S.Store c.args.store.now) c.args.work.now.slots c.args.work.now.slots c.args.work.now.session _ (rw c.as_bytes-in-Dump.ensures.value at c.dump.ensures))

pub returns-in-Invert : goal.returns-in-Invert
returns-in-Invert g c = rw c.in-Invert.is (works_on_slots _ (state g.S.Store c.args.store.now) c.args.work.now.slots c.invert.new.slots c.args.work.now.session _ (rw (c.as_bytes-in-Invert.ensures.value, c.as_bytes-in-Invert-2.ensures.value) at c.invert.ensures))

pub returns-in-Concat : goal.returns-in-Concat
returns-in-Concat g c = rw c.in-Concat.is (works_on_slots _ (state g.S.Store c.args.store.now) c.args.work.now.slots c.join.new.slots c.args.work.now.session _ (rw (c.as_bytes-in-Concat.ensures.value, c.as_bytes-in-Concat-2.ensures.value, c.as_bytes-in-Concat-3.ensures.value) at c.join.ensures))

pub returns-in_err-file-in-Apply : goal.returns-in_err-file-in-Apply
returns-in_err-file-in-Apply g c =
    let p = err_from_is_err_and c.from_residual.result c.from_residual.ensures.1 in
    rw (c.in-Apply.is, p.1, p.2, c.in_err-file-in-Apply.ensures.0)
    (on_apply_empty (state g.S.Store c.args.store.now) c.args.work.now.slots c.args.work.now.session _ _ _ _ _ _ (rw c.as_bytes-in-Apply.ensures.value at c.in_err-file-in-Apply.ensures.1))

pub returns-in_ok-file-in-Apply : goal.returns-in_ok-file-in-Apply
returns-in_ok-file-in-Apply g c =
    rw c.in-Apply.is
    (on_apply (state g.S.Store c.args.store.now) (state g.S.Store c.apply_file.new.store) c.args.work.now.slots c.args.work.now.session c.apply_file.new.session _ _ _ _ _ _ _ _ (rw c.as_bytes-in-Apply.ensures.value at c.in_ok-file-in-Apply.ensures) c.apply_file.ensures)

pub returns-in_err-get-in-Revert : goal.returns-in_err-get-in-Revert
returns-in_err-get-in-Revert g c =
    let p = err_from_is_err_and c.from_residual-in_err-get-in-Revert.result c.from_residual-in_err-get-in-Revert.ensures.1 in
    rw (c.in-Revert.is, p.1, p.2, c.in_err-get-in-Revert.ensures.0)
    (on_revert_empty (state g.S.Store c.args.store.now) c.args.work.now.slots c.args.work.now.session _ (rw c.as_bytes-in-Revert.ensures.value at c.in_err-get-in-Revert.ensures.1))

pub returns-in_ok-get-in-Revert : goal.returns-in_ok-get-in-Revert
returns-in_ok-get-in-Revert g c =
    rw c.in-Revert.is
    (on_revert (state g.S.Store c.args.store.now) (state g.S.Store c.revert_file.new.store) c.args.work.now.slots c.args.work.now.session c.revert_file.new.session _ _ _ (rw c.as_bytes-in-Revert.ensures.value at c.in_ok-get-in-Revert.ensures) c.revert_file.ensures)

pub returns-in-SessionOpen : goal.returns-in-SessionOpen
returns-in-SessionOpen g c = rw c.in-SessionOpen.is (on_open (state g.S.Store c.args.store.now) c.args.work.now.slots c.args.work.now.session c.open.new.session _ (λ t. c.open.ensures.here t) (λ t. c.open.ensures.gives t c.args.work.now.slots))

pub returns-in-SessionAttach : goal.returns-in-SessionAttach
returns-in-SessionAttach g c = rw c.in-SessionAttach.is (on_attach (state g.S.Store c.args.store.now) (state g.S.Store c.attach.new.store) _ c.args.work.now.session c.attach.new.session _ _ (rw c.as_str-in-SessionAttach.ensures.value at c.attach.ensures))

pub returns-in-SessionChangeset : goal.returns-in-SessionChangeset
returns-in-SessionChangeset g c = rw c.in-SessionChangeset.is (on_changeset (state g.S.Store c.args.store.now) (state g.S.Store c.changeset.new.store) c.args.work.now.slots c.args.work.now.session c.args.work.now.session _ c.changeset.new.slots _ (rw c.as_bytes-in-SessionChangeset.ensures.value at c.changeset.ensures))

pub returns-in-SessionIsEmpty : goal.returns-in-SessionIsEmpty
returns-in-SessionIsEmpty g c = rw c.in-SessionIsEmpty.is (on_is_empty (state g.S.Store c.args.store.now) c.args.work.now.slots c.args.work.now.session _ (λ t. c.is_empty.ensures t c.args.work.now.slots))

pub returns-in-SessionUndo : goal.returns-in-SessionUndo
returns-in-SessionUndo g c = rw c.in-SessionUndo.is (on_undo (state g.S.Store c.args.store.now) (state g.S.Store c.undo.new.store) _ c.args.work.now.session c.args.work.now.session _ c.undo.ensures)

pub returns-in-SessionClose : goal.returns-in-SessionClose
returns-in-SessionClose g c = rw c.in-SessionClose.is (on_close (state g.S.Store c.args.store.now) c.args.work.now.slots c.args.work.now.session c.close.new.session _ (λ t. c.close.ensures.here t) (λ t. c.close.ensures.gives t c.args.work.now.slots))
