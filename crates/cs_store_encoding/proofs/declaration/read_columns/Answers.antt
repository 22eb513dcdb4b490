-- `declaration::read_columns`: the clause `refused`, what it ensures.
use Rattle.std.proofs.Common.{◌≡◌, [], List, ℕ, ◌==◌, length, true≢false, map, string_bytes, refl, sym, ap, ◌∙◌, inl, inr, arith}
use Rattle.std.proofs.lemmas.Result.{err_from_is_err_and}
use Rattle.std.proofs.lemmas.List.{map-append}
use Rattle.std.proofs.lemmas.Str.{IsUtf8-string_bytes}
use Rattle.cs_store_encoding.proofs.DeclarationLemmas.{ColumnsSoFar-more, has_column, no_rest}
use Rattle.cs_store_encoding.proofs.declaration.read_columns.Goals as goal

pub returns-in_err-code-clause-refused : goal.returns-in_err-code-clause-refused
returns-in_err-code-clause-refused c =
    let p = err_from_is_err_and c.from_residual.result c.from_residual.ensures.1 in
    rw (p.1, p.2) (elim c.in_err-code.ensures.refused [
      | inl h ↦ inl (h.0, λ d are e. h.1 (has_column c.args.bytes.now c.columns.counter c.columns.codes.items (map string_bytes c.columns.columns.items) c.columns.rest.now c.columns.invariant c.args.count d c.columns-test.true are e))
      | inr h ↦ inr h
    ])

pub columns-preserved : goal.columns-preserved
columns-preserved c =
    let found = c.in_ok-code.ensures.found in
    rw (c.in_ok-push-2.ensures.items, c.in_ok-push.ensures.items, map-append)
    (ColumnsSoFar-more c.args.bytes.now c.columns.counter c.columns.codes.items (map string_bytes c.columns.columns.items) c.columns.rest.now c.columns.invariant c.in_ok-code.code (string_bytes c.in_ok-code.name) c.in_ok-code.behind.now (IsUtf8-string_bytes c.in_ok-code.name) found.0 found.1)

pub returns-then-not-is_empty-clause-refused : goal.returns-then-not-is_empty-clause-refused
returns-then-not-is_empty-clause-refused c =
    inl (
      refl,
      λ d are e.
          let none : c.columns.rest.now ≡ [] = no_rest c.args.bytes.now c.columns.counter c.columns.codes.items (map string_bytes c.columns.columns.items) c.columns.rest.now c.columns.invariant c.args.count d (omega arith) are e in
          true≢false (sym (c.if-not-is_empty.ensures ∙ ap (λ (l : List ℕ). length l == 0) none)),
    )
