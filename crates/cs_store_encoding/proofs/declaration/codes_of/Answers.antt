-- `declaration::codes_of`: the invariant of the loop at `column`, what it ensures.
use Rattle.std.proofs.Common.{◌≡◌, ◌<◌, ◌++◌, ◌∷◌, [], List, ℕ, length, false, get_or, sym, ap, ◌∙◌, arith}
use Rattle.std.proofs.lemmas.List.{take_more, take_all}
use Rattle.cs_store_encoding.specs.Declaration.{column_code, column_codes}
use Rattle.cs_store_encoding.proofs.CodeLemmas.{codes_length, codes_at}
use Rattle.cs_rows.proofs.RuleLemmas.{rules_length}
use Rattle.cs_store_encoding.proofs.declaration.codes_of.Goals as goal

pub loop-column-preserved : goal.loop-column-preserved
loop-column-preserved c =
    let flags = c.args.schema.now.flags in
    let refuses = c.args.schema.now.refuses in
    let i = c.loop-column.column in
    let same = c.flags-flag-items.ensures.same in
    let as_many = rules_length flags refuses c.flags-flag-items.ensures.well_formed.rules in
    let within : i < length flags = omega (arith, c.loop-column-test.true, ap (λ (l : List ℕ). length l) same) in
    let mark : c.refuses_at.result ≡ get_or refuses i false = c.refuses_at.ensures in
    let code : c.code_of.result ≡ get_or (column_codes flags refuses) i 0 = c.code_of.ensures ∙ ap (λ (l : List ℕ). column_code (get_or l i 0) c.refuses_at.result) same
    ∙ ap (λ m. column_code (get_or flags i 0) m) mark ∙ sym (codes_at flags refuses i as_many within) in
    rw (c.in_ok-push.ensures.items, code, take_more (column_codes flags refuses) i 0 (omega (arith, codes_length flags refuses as_many)))
    (ap (λ (l : List ℕ). l ++ get_or (column_codes flags refuses) i 0 ∷ []) c.loop-column.invariant)

pub returns : goal.returns
returns c =
    let flags = c.args.schema.now.flags in
    let refuses = c.args.schema.now.refuses in
    let as_many = rules_length flags refuses c.flags-flag-items.ensures.well_formed.rules in
    c.loop-column.invariant
    ∙ take_all c.loop-column.column (column_codes flags refuses) (omega (arith, codes_length flags refuses as_many, c.loop-column-test.false, ap (λ (l : List ℕ). length l) c.flags-flag-items.ensures.same))
