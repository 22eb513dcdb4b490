-- `memory::MemRows::remove_row`: the invariant of `self`, what it ensures.
use Rattle.std.proofs.Common.{◌∙◌, sym, subst, refl}
use Rattle.std.specs.FinMap as map
use Rattle.cs_value.specs.State.{IsTable}
use Rattle.cs_value.proofs.StateLemmas.{table_remove}
use Rattle.cs_rows.specs.contracts.memory.MemRows.{the_view}
use Rattle.cs_rows.proofs.MemoryLemmas.{stands, with_rows_absent, rows_replaced, replaced_is_state}
use Rattle.cs_rows.proofs.memory.MemRows.remove_row.Goals as goal
use Rattle.cs_rows.proofs.memory.MemRows.remove_row.Goals.{in-Some, in_default}

pub invariant_of-self : goal.invariant_of-self
invariant_of-self c = elim c.match-get_mut.branch [
  | in-Some w ↦
      let es = c.self.inside.tables.entries in
      let n = c.get_mut.follows.lender w.remove.new.self in
      let old = the_view c.self.inside in
      let table = w.in-Some.table.now in
      let was = (c.self.invariant c.args.name.now table (stands es old c.args.name.now table refl w.in-Some.ensures.value)).is_table in
      rw w.self-inside-is (replaced_is_state es n.entries old c.args.name.now table w.remove.new.self refl w.in-Some.ensures.value (c.get_mut.follows.holds w.remove.new.self).0 c.self.invariant
      (subst IsTable (sym w.remove.ensures) (table_remove table c.args.key.now was)))
  | in_default w ↦ rw (w.self-inside-is, c.get_mut.follows.holds-at-none) c.self.invariant
]

pub returns : goal.returns
returns c = elim c.match-get_mut.branch [
  | in-Some w ↦ rw w.self-inside-is (rows_replaced c.self.inside.tables.entries (c.get_mut.follows.lender w.remove.new.self).entries c.args.self.now c.args.name.now w.in-Some.table.now w.remove.new.self c.self.view_is
      w.in-Some.ensures.value (c.get_mut.follows.holds w.remove.new.self).0 (λ rows. map.remove rows c.args.key.now) w.remove.ensures)
  | in_default w ↦ rw (w.self-inside-is, c.get_mut.follows.holds-at-none) (c.self.view_is ∙ sym (with_rows_absent c.self.inside.tables.entries c.args.self.now c.args.name.now _ c.self.view_is w.in_default.ensures.value))
]
