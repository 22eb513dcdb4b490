-- The pair of an iteration is the next byte with the next name.
use Rattle.std.proofs.Common.{◌≡◌, ◌<◌, ◌++◌, ◌∷◌, List, [], ℕ, length, get_or, map, take, string_bytes, sym, ap, subst, ◌∙◌, append_assoc, arith}
use Rattle.std.proofs.lemmas.List.{get_or-map, length-map, length_push, take_all}
use Rattle.std.proofs.lemmas.Slice.Zip.{zip_turn, zip_end}
use Rattle.cs_value.specs.State.{IsColumnName}
use Rattle.cs_value.specs.Spelling.{counted}
use Rattle.cs_store_encoding.specs.Declaration.{columns_bytes}
use Rattle.cs_rows.proofs.SchemaLemmas.{name_all}
use Rattle.cs_store_encoding.proofs.DeclarationLemmas.{columns_bytes-more}
use Rattle.cs_store_encoding.proofs.declaration.write_columns.Goals as goal

pub write_column-requires : goal.write_column-requires
write_column-requires c =
    let columns = c.args.columns.now in
    let turn = zip_turn c.args.codes.now columns c.loop-code.yielded _ _ c.next.new.self _ (cc) (cc) c.loop-code.yielded_by _ c.in-Some.is c.next.ensures.steps in
    let i = length c.loop-code.yielded in
    let within : i < length (map string_bytes columns) = omega (arith, turn.1, length-map columns string_bytes) in
    let here : get_or (map string_bytes columns) i [] ≡ c.as_str.result.now =
    get_or-map string_bytes columns i c.in-Some.column.now [] turn.1 ∙ ap string_bytes (sym (turn.3 c.in-Some.column.now)) ∙ sym c.as_str.ensures.value in
    (subst IsColumnName here (name_all IsColumnName (map string_bytes columns) i [] within c.requires.named)).short

pub loop-code-preserved : goal.loop-code-preserved
loop-code-preserved c =
    let columns = c.args.columns.now in
    let names = map string_bytes columns in
    let codes = c.args.codes.now in
    let turn = zip_turn codes columns c.loop-code.yielded _ _ c.next.new.self _ (cc) (cc) c.loop-code.yielded_by _ c.in-Some.is c.next.ensures.steps in
    let i = length c.loop-code.yielded in
    let code = c.in-Some.code.now in
    let name = c.as_str.result.now in
    let within : i < length names = omega (arith, turn.1, length-map columns string_bytes) in
    let here : get_or names i [] ≡ name =
    get_or-map string_bytes columns i c.in-Some.column.now [] turn.1 ∙ ap string_bytes (sym (turn.3 c.in-Some.column.now)) ∙ sym c.as_str.ensures.value in
    let before = columns_bytes (take i codes) (take i names) in
    rw (length_push c.loop-code.yielded (c.in-Some.code, c.in-Some.column)) (
    c.in_ok-write_column.ensures ∙ ap (λ (l : List ℕ). l ++ code ∷ counted name) c.loop-code.invariant ∙ append_assoc c.args.out.now.items before (code ∷ counted name)
    ∙ ap (λ (l : List ℕ). c.args.out.now.items ++ l) (sym (columns_bytes-more codes names i code name turn.0 within (turn.2 0) here)))

pub returns : goal.returns
returns c =
    let columns = c.args.columns.now in
    let names = map string_bytes columns in
    let codes = c.args.codes.now in
    let end = zip_end codes columns c.loop-code.yielded _ _ c.next.new.self _ (cc) (cc) c.loop-code.yielded_by c.in-None.is c.next.ensures.steps in
    let i = length c.loop-code.yielded in
    let all_codes : take i codes ≡ codes = take_all i codes (omega (arith, end, c.requires.as_many)) in
    let all_names : take i names ≡ names = take_all i names (omega (arith, end, c.requires.as_many, length-map columns string_bytes)) in
    c.loop-code.invariant ∙ ap (λ (l : List ℕ). c.args.out.now.items ++ columns_bytes l (take i names)) all_codes ∙ ap (λ (l : List (List ℕ)). c.args.out.now.items ++ columns_bytes codes l) all_names
