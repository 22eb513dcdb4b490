-- `change::pass_change`: the next change of the open table.
use Rattle.std.proofs.Common.{rules, ◌≡◌, Bool, true, false, List, ℕ, pos, cond, w32, to_z, of_z, refl, sym, ap, subst, ◌∙◌, arith}
use Rattle.std.proofs.lemmas.Int.{to_z-of_z}
use Rattle.std.proofs.lemmas.Result.{err_from_is_err_and}
use mir.Val.{bool_byte}
use Rattle.cs_wire_entries.specs.Entry.{IsEntry}
use Rattle.cs_wire_entries.proofs.EntryLemmas.{entry_bytes_some}
use Rattle.cs_wire_entries.proofs.ReadingLemmas.{Stands-moves}
use Rattle.cs_file_iterator.proofs.CheckedLemmas.{fault_is}
use Rattle.cs_file_iterator.proofs.StepLemmas.{entry_ends, entry_next, records_stand, stepped}
use Rattle.cs_file_iterator.proofs.change.pass_change.Goals as goal

pub returns-in_err-entry-clause-no_fault : goal.returns-in_err-entry-clause-no_fault
returns-in_err-entry-clause-no_fault c = λ all left is_file so.
    let next = entry_next c.args.file.now all left c.args.place c.args.last.now is_file so c.requires in
    let same = c.in_ok-flags.ensures.flags so.header.flags so.table.flags so.table.name_ends in
    absurd (c.in_err-entry.ensures.only next.0 _ (subst (λ (fs : List ℕ). IsEntry fs next.0) (sym same) next.3) next.4)

pub overflow_sub-change : goal.overflow_sub-change
overflow_sub-change c = entry_ends c.args.file.now c.args.place c.in_ok-entry.end c.in_ok-entry.entry.entry c.in_ok-entry.ensures.found (omega (arith, c.requires.within))

byte_is : (b : Bool) → pos (bool_byte b) ≡ cond b (pos 1) (pos 0)
byte_is true = refl
byte_is false = refl

pub returns-clause-next : goal.returns-clause-next
returns-clause-next c = λ all left is_file so.
    let same = c.in_ok-flags.ensures.flags so.header.flags so.table.flags so.table.name_ends in
    stepped c.args.file.now all left c.args.place c.args.last.now is_file so c.requires c.in_ok-entry.entry.entry c.in_ok-entry.end (to_z w32 (of_z w32 c.from.result)) (to_z w32 (of_z w32 c.from-2.result))
    c.in_ok-entry.ensures.found
    (λ e rest is spelled. c.in_ok-entry.ensures.only e rest (subst (λ (fs : List ℕ). IsEntry fs e) (sym same) is) spelled)
    (to_z-of_z w32 c.from.result (search rules) ∙ c.from.ensures ∙ ap pos c.op.ensures)
    (to_z-of_z w32 c.from-2.result (search rules) ∙ c.from-2.ensures ∙ byte_is c.indirect.result ∙ ap (λ (b : Bool). cond b (pos 1) (pos 0)) c.indirect.ensures.indirect)

pub returns-clause-within : goal.returns-clause-within
returns-clause-within c = record {
  name = record { within = c.in_ok-flags.ensures.name.within; zero = c.in_ok-flags.ensures.name.zero };
  flags = c.in_ok-flags.ensures.within;
  records = (records_stand c.args.file.now c.args.place c.in_ok-entry.end c.in_ok-entry.entry.entry c.in_ok-entry.ensures.found (omega (arith, c.requires.within))).within;
}

pub returns-clause-ends : goal.returns-clause-ends
returns-clause-ends c = omega (arith, entry_ends c.args.file.now c.args.place c.in_ok-entry.end c.in_ok-entry.entry.entry c.in_ok-entry.ensures.found (omega (arith, c.requires.within)))

pub returns-clause-forward : goal.returns-clause-forward
returns-clause-forward c = (
  Stands-moves c.args.file.now c.args.place c.in_ok-entry.end _ c.in_ok-entry.ensures.found (entry_bytes_some c.in_ok-entry.entry.entry) c.requires.within,
  c.in_ok-entry.ensures.found.within,
)

pub returns-in_err-flags-clause-stops : goal.returns-in_err-flags-clause-stops
returns-in_err-flags-clause-stops c = λ header table. absurd (c.in_err-flags.ensures.flags header.flags table.flags table.name_ends)

pub returns-in_err-flags-clause-checked : goal.returns-in_err-flags-clause-checked
returns-in_err-flags-clause-checked c = λ header entries fault table start unreadable. absurd (c.in_err-flags.ensures.flags header.flags table.flags table.name_ends)

pub returns-in_err-entry-clause-stops : goal.returns-in_err-entry-clause-stops
returns-in_err-entry-clause-stops c = λ header table.
    let p = err_from_is_err_and c.from_residual-in_err-entry.result c.from_residual-in_err-entry.ensures.1 in
    let same = c.in_ok-flags.ensures.flags header.flags table.flags table.name_ends in
    rw p.1 (λ entry rest is spelled. absurd (c.in_err-entry.ensures.only entry rest (subst (λ (fs : List ℕ). IsEntry fs entry) (sym same) is) spelled))

pub returns-in_err-entry-clause-checked : goal.returns-in_err-entry-clause-checked
returns-in_err-entry-clause-checked c = λ header entries fault table start unreadable.
    let p = err_from_is_err_and c.from_residual-in_err-entry.result c.from_residual-in_err-entry.ensures.1 in
    let same = c.in_ok-flags.ensures.flags header.flags table.flags table.name_ends in
    rw (p.1, p.2) (fault_is c.args.file.now fault unreadable c.in_err-entry.field-0.0 (c.in_err-entry.ensures.fault header entries same start))

pub returns-clause-reads : goal.returns-clause-reads
returns-clause-reads c = λ header table.
    let same = c.in_ok-flags.ensures.flags header.flags table.flags table.name_ends in
    let entry = c.in_ok-entry.entry.entry in record {
      entry = entry;
      stands = c.in_ok-entry.ensures.found;
      shows = record {
        is_entry = subst (λ (fs : List ℕ). IsEntry fs entry) same c.in_ok-entry.ensures.well_formed;
        table = record { name = table.name; name_ends = record { within = table.name_ends.within; zero = table.name_ends.zero }; flags = table.flags };
        operation = to_z-of_z w32 c.from.result (search rules) ∙ c.from.ensures ∙ ap pos c.op.ensures;
        indirect = to_z-of_z w32 c.from-2.result (search rules) ∙ c.from-2.ensures ∙ byte_is c.indirect.result ∙ ap (λ (b : Bool). cond b (pos 1) (pos 0)) c.indirect.ensures.indirect;
        records = records_stand c.args.file.now c.args.place c.in_ok-entry.end entry c.in_ok-entry.ensures.found (omega (arith, c.requires.within));
      };
    }
