-- `check::check_row_of`: what `of_row` asks for, the clause `refused`.
use Rattle.std.proofs.Common.{bytes_eq, ◌≡◌, refl, inl, sym, ap, ◌∙◌, length, List, ℕ, true≢false}
use Rattle.cs_value.specs.declared.value.OwnedValue.{OwnedValue}
use Rattle.cs_value.specs.Key.{row_key}
use Rattle.cs_value.proofs.KeyedRows.{length-IsKeyedRow}
use Rattle.cs_value.proofs.Spellings.{row_bytes_same}
use Rattle.cs_store_sql.proofs.RowLemmas.{same_itself}
use Rattle.cs_store_encoding.proofs.check.check_row_of.Goals as goal

pub of_row-requires : goal.of_row-requires
of_row-requires c = ap (λ (fs : List ℕ). length fs) c.flags.ensures.same ∙ length-IsKeyedRow c.args.schema.now.flags c.in_ok-row.row c.in_ok-row.ensures.found.0.keyed

pub returns-clause-refused : goal.returns-clause-refused
returns-clause-refused c = inl (
  refl,
  λ is.
      let flags = c.args.schema.now.flags in
      let read = c.in_ok-row.ensures.found in
      let wide = sym (length-IsKeyedRow flags c.in_ok-row.row read.0.keyed) ∙ length-IsKeyedRow flags is.row is.fits.keyed in
      let same : c.in_ok-row.row ≡ is.row = row_bytes_same c.in_ok-row.row is.row read.0.values is.fits.values wide (sym read.1 ∙ is.spelled) in
      let own = c.bytes.ensures ∙ c.in_ok-own.ensures ∙ ap (λ (fs : List ℕ). row_key fs c.in_ok-row.row) c.flags.ensures.same ∙ ap (λ (r : List OwnedValue). row_key flags r) same ∙ sym is.fits.own in
      true≢false (sym (same_itself c.args.key.now) ∙ ap (λ (k : List ℕ). bytes_eq k c.args.key.now) (sym own) ∙ sym c.if-eq.ensures),
)
