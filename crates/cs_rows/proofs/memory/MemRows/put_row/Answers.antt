-- `memory::MemRows::put_row`: what `put` asks for, the invariant of `self`, the clauses `ok` and `err`.
use Rattle.std.proofs.Common.{◌∙◌, sym, refl}
use Rattle.std.specs.FinMap as map
use Rattle.cs_value.specs.State.{RowMap}
use Rattle.cs_value.proofs.StateLemmas.{table_insert}
use Rattle.cs_rows.specs.contracts.memory.MemRows.{the_view}
use Rattle.cs_rows.proofs.MemoryLemmas.{stands, with_rows_absent, fits_there, on_ok, on_err, still_table, replaced_is_state}
use Rattle.cs_rows.proofs.memory.MemRows.put_row.Goals as goal
use Rattle.cs_rows.proofs.memory.MemRows.put_row.Goals.{in-Some, in-None}

pub put-requires : goal.put-requires
put-requires c =
    let there = stands c.self.inside.tables.entries c.args.self.now c.args.name.now c.in-Some.table.now c.self.view_is c.in-Some.ensures.value in
    fits_there c.args.self.now c.args.name.now c.args.key c.args.row c.in-Some.table.now c.requires there

pub invariant_of-self : goal.invariant_of-self
invariant_of-self c = elim c.match-get_mut.branch [
  | in-Some w ↦
      let es = c.self.inside.tables.entries in
      let n = c.get_mut.follows.lender w.put.new.self in
      let old = the_view c.self.inside in
      let put = λ (rows : RowMap). map.insert rows c.args.key c.args.row in
      let table = w.in-Some.table.now in
      let was = (c.self.invariant c.args.name.now table (stands es old c.args.name.now table refl w.in-Some.ensures.value)).is_table in
      let fit = fits_there c.args.self.now c.args.name.now c.args.key c.args.row table c.requires (stands es c.args.self.now c.args.name.now table c.self.view_is w.in-Some.ensures.value) in
      let set = (c.get_mut.follows.holds w.put.new.self).0 in
      rw w.self-inside-is (replaced_is_state es n.entries old c.args.name.now table w.put.new.self refl w.in-Some.ensures.value set c.self.invariant
      (still_table es n.entries old c.args.name.now table w.put.new.self refl w.in-Some.ensures.value set w.put.result put was (table_insert table c.args.key c.args.row was fit) w.put.ensures.ok w.put.ensures.err))
  | in-None w ↦ rw (w.self-inside-is, c.get_mut.follows.holds-at-none) c.self.invariant
]

pub returns-clause-ok : goal.returns-clause-ok
returns-clause-ok c = elim c.match-get_mut.branch [
  | in-Some w ↦ rw (w.result-is, w.self-inside-is) (on_ok c.self.inside.tables.entries (c.get_mut.follows.lender w.put.new.self).entries c.args.self.now c.args.name.now w.in-Some.table.now w.put.new.self c.self.view_is
      w.in-Some.ensures.value (c.get_mut.follows.holds w.put.new.self).0 w.put.result (λ rows. map.insert rows c.args.key c.args.row) w.put.ensures.ok)
  | in-None w ↦ rw (w.result-is, w.self-inside-is, c.get_mut.follows.holds-at-none) (c.self.view_is ∙ sym (with_rows_absent c.self.inside.tables.entries c.args.self.now c.args.name.now _ c.self.view_is w.in-None.ensures.value))
]

pub returns-clause-err : goal.returns-clause-err
returns-clause-err c = elim c.match-get_mut.branch [
  | in-Some w ↦ rw (w.result-is, w.self-inside-is) (on_err c.self.inside.tables.entries (c.get_mut.follows.lender w.put.new.self).entries c.args.self.now c.args.name.now w.in-Some.table.now w.put.new.self c.self.view_is
      w.in-Some.ensures.value (c.get_mut.follows.holds w.put.new.self).0 w.put.result (λ rows. map.insert rows c.args.key c.args.row) w.put.ensures.err)
  | in-None w ↦ rw w.result-is tt
]
