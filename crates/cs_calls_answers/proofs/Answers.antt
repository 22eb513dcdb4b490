-- What is read of an answer is spelled so, and what is spelled so is read again.
use Rattle.std.proofs.Common.{◌≡◌, ℕ, zero, suc, ◌+◌, ◌<◌, cond, List, [], ◌∷◌, ◌++◌, length, Option, Some, None, Ok, Err, refl, sym, ap, subst, ◌∙◌, append_assoc, arith}
use Rattle.std.specs.Prelude.{IfSome, ◌==◌, ◌≤◌}
use Rattle.std.proofs.lemmas.Bool.{eqb-true, ne_eqb}
use Rattle.std.proofs.lemmas.List.{append-nil, nil_from_length}
use Rattle.std.specs.List.{AllByRecursion}
use Rattle.std.proofs.lemmas.List.Elements.{All-from_recursion}
use Rattle.cs_value.specs.declared.TheConstants.{MAX_CONTENT_LEN}
use Rattle.cs_value.proofs.ListLemmas.{AllByRecursion-weaker}
use Rattle.cs_value.specs.declared.value.OwnedValue.{OwnedValue}
use Rattle.cs_value.specs.Value.{AreBytes}
use Rattle.cs_value.specs.Spelling.{counted}
use Rattle.cs_apply_conflict_kinds.specs.declared.conflict.Choice.{Choice}
use Rattle.cs_apply_conflict_kinds.specs.declared.conflict.Kind.{Kind}
use Rattle.cs_calls_parts.specs.declared.fault.CallFaultKind.TheVariants.{UnknownAnswer, ExtraBytes}
use Rattle.cs_calls_parts.specs.Spelling.{FoundCounts, IsFound, IsRowList, IsWide, found_bytes, IsText, IsFile, IsList, IsColumn, list_bytes, row_bytes, option_bytes, wide_bytes, flag_bytes, kind_bytes, choice_bytes, column_bytes}
use Rattle.cs_calls_parts.specs.Reading.{◌>>=◌, misread, counted_of, text_of, list_of, row_of, option_of, wide_of, flag_of, kind_of, choice_of, column_of, found_of}
use Rattle.cs_calls_parts.proofs.Steps.{done, given, Takes, Takes-then, not_value, bind_ok, wanted_ok}
use Rattle.cs_calls_parts.proofs.ConflictCodecs.{codec_found, codec_row_option, few_option, found_counts, regrouped4, regrouped5}
use Rattle.cs_calls_parts.proofs.Codecs.{IsCodec, Always, step, codec_counted, codec_text, codec_list, codec_row, codec_option, codec_wide, codec_flag, codec_kind, codec_choice, codec_column}
use Rattle.cs_calls_answers.specs.declared.answer.Answer.{Answer}
use Rattle.cs_calls_answers.specs.declared.answer.Answer.TheVariants as answer
use Rattle.cs_calls_answers.specs.declared.answer.Reported.{Reported}
use Rattle.cs_calls_answers.specs.declared.answer.Refused.{Refused}
use Rattle.cs_calls_answers.specs.declared.conflicts.MetConflict.{MetConflict}
use Rattle.cs_calls_parts.specs.declared.conflicts.FoundConflict.{FoundConflict}
use Rattle.cs_calls_answers.specs.Laws.{AnswerBytes}
use Rattle.cs_calls_answers.specs.Spelling.{HasCounts, MetCounts, IsMet, IsReport, IsRefused, IsAnswer, met_bytes, report_bytes, refused_bytes, number_of, parts_of, answer_bytes}
use Rattle.cs_calls_answers.specs.Reading.{met_of, report_of, refused_of, names_of, schema_of, found_row_of, rows_of, count_of, reported_of, conflicts_of, changeset_of, said_of, limits_of, refusal_of, unread_of, answer_by, answer_at, whole_answer}

-- ---- conflicts

abbrev met_with : Kind → Choice → List ℕ → List OwnedValue → MetConflict
met_with kind choice table key = record { kind = kind; choice = choice; table = table; key = key }

met_takes : (bytes : List ℕ) (met : MetConflict) (rest : List ℕ) → AreBytes bytes → met_of bytes ≡ Ok (met, rest) → Takes bytes (met_bytes met) rest × IsMet met
unfolding met_of met_bytes
met_takes bytes met rest fits e =
    let a = step Always kind_bytes kind_of codec_kind (λ a. choice_of a.1 >>= λ b. text_of b.1 >>= λ c. row_of c.1 >>= λ d. Ok (met_with a.0 b.0 c.0 d.0, d.1)) bytes (met, rest) fits e in
    let b = step Always choice_bytes choice_of codec_choice (λ b. text_of b.1 >>= λ c. row_of c.1 >>= λ d. Ok (met_with a.value b.0 c.0 d.0, d.1)) a.rest (met, rest) a.takes.are_bytes a.goes_on in
    let c = step IsText counted text_of codec_text (λ c. row_of c.1 >>= λ d. Ok (met_with a.value b.value c.0 d.0, d.1)) b.rest (met, rest) b.takes.are_bytes b.goes_on in
    let d = step IsRowList row_bytes row_of codec_row (λ d. Ok (met_with a.value b.value c.value d.0, d.1)) c.rest (met, rest) c.takes.are_bytes c.goes_on in
    let ab = Takes-then bytes (kind_bytes a.value) a.rest (choice_bytes b.value) b.rest a.takes b.takes in
    let abc = Takes-then bytes (kind_bytes a.value ++ choice_bytes b.value) b.rest (counted c.value) c.rest ab c.takes in
    let abcd = Takes-then bytes (kind_bytes a.value ++ choice_bytes b.value ++ counted c.value) c.rest (row_bytes d.value) d.rest abc d.takes in
    given (λ (p : MetConflict × List ℕ). Takes bytes (met_bytes p.0) p.1 × IsMet p.0) (met_with a.value b.value c.value d.value, d.rest) (met, rest) d.goes_on (abcd, record { table = c.is; key = d.is })

met_again : (met : MetConflict) (rest : List ℕ) → IsMet met → met_of (met_bytes met ++ rest) ≡ Ok (met, rest)
unfolding met_of met_bytes
met_again met rest is =
    let a = kind_bytes met.kind in
    let b = choice_bytes met.choice in
    let c = counted met.table in
    let d = row_bytes met.key in
    ap met_of (regrouped4 a b c d rest) ∙ rw (codec_kind.again met.kind (b ++ (c ++ (d ++ rest))) tt, codec_choice.again met.choice (c ++ (d ++ rest)) tt, codec_text.again met.table (d ++ rest) is.table, codec_row.again met.key rest is.key) refl

codec_met : IsCodec IsMet met_bytes met_of
codec_met = record { takes = met_takes; again = met_again }

-- ---- reports and refusals

codec_names : IsCodec (IsList IsText) (list_bytes counted) (list_of text_of)
codec_names = codec_list IsText counted text_of codec_text

codec_mets : IsCodec (IsList IsMet) (list_bytes met_bytes) (list_of met_of)
codec_mets = codec_list IsMet met_bytes met_of codec_met

abbrev report_with : ℕ → ℕ → List (List ℕ) → List MetConflict → Reported
report_with written ignored skipped conflicts = record { written = written; ignored = ignored; skipped = skipped; conflicts = conflicts }

report_takes : (bytes : List ℕ) (report : Reported) (rest : List ℕ) → AreBytes bytes → report_of bytes ≡ Ok (report, rest) → Takes bytes (report_bytes report) rest × IsReport report
unfolding report_of report_bytes
report_takes bytes report rest fits e =
    let a = step IsWide wide_bytes wide_of codec_wide (λ a. wide_of a.1 >>= λ b. list_of text_of b.1 >>= λ c. list_of met_of c.1 >>= λ d. Ok (report_with a.0 b.0 c.0 d.0, d.1)) bytes (report, rest) fits e in
    let b = step IsWide wide_bytes wide_of codec_wide (λ b. list_of text_of b.1 >>= λ c. list_of met_of c.1 >>= λ d. Ok (report_with a.value b.0 c.0 d.0, d.1)) a.rest (report, rest) a.takes.are_bytes a.goes_on in
    let c = step (IsList IsText) (list_bytes counted) (list_of text_of) codec_names (λ c. list_of met_of c.1 >>= λ d. Ok (report_with a.value b.value c.0 d.0, d.1)) b.rest (report, rest) b.takes.are_bytes b.goes_on in
    let d = step (IsList IsMet) (list_bytes met_bytes) (list_of met_of) codec_mets (λ d. Ok (report_with a.value b.value c.value d.0, d.1)) c.rest (report, rest) c.takes.are_bytes c.goes_on in
    let ab = Takes-then bytes (wide_bytes a.value) a.rest (wide_bytes b.value) b.rest a.takes b.takes in
    let abc = Takes-then bytes (wide_bytes a.value ++ wide_bytes b.value) b.rest (list_bytes counted c.value) c.rest ab c.takes in
    let abcd = Takes-then bytes (wide_bytes a.value ++ wide_bytes b.value ++ list_bytes counted c.value) c.rest (list_bytes met_bytes d.value) d.rest abc d.takes in
    given (λ (p : Reported × List ℕ). Takes bytes (report_bytes p.0) p.1 × IsReport p.0) (report_with a.value b.value c.value d.value, d.rest) (report, rest) d.goes_on (abcd, record { written = a.is; ignored = b.is; skipped = c.is; conflicts = d.is })

report_again : (report : Reported) (rest : List ℕ) → IsReport report → report_of (report_bytes report ++ rest) ≡ Ok (report, rest)
unfolding report_of report_bytes
report_again report rest is =
    let a = wide_bytes report.written in
    let b = wide_bytes report.ignored in
    let c = list_bytes counted report.skipped in
    let d = list_bytes met_bytes report.conflicts in
    ap report_of (regrouped4 a b c d rest) ∙ rw (codec_wide.again report.written (b ++ (c ++ (d ++ rest))) is.written, codec_wide.again report.ignored (c ++ (d ++ rest)) is.ignored, codec_names.again report.skipped (d ++ rest) is.skipped, codec_mets.again report.conflicts rest is.conflicts) refl

codec_text_option : IsCodec (λ o. IfSome o IsText) (option_bytes counted) (option_of text_of)
codec_text_option = codec_option IsText counted text_of codec_text

codec_wide_option : IsCodec (λ o. IfSome o IsWide) (option_bytes wide_bytes) (option_of wide_of)
codec_wide_option = codec_option IsWide wide_bytes wide_of codec_wide

abbrev refused_with : ℕ → Option (List ℕ) → Option (List ℕ) → Option (List OwnedValue) → Option ℕ → Refused
refused_with code table column key detail = record { code = code; table = table; column = column; key = key; detail = detail }

refused_takes : (bytes : List ℕ) (refused : Refused) (rest : List ℕ) → AreBytes bytes → refused_of bytes ≡ Ok (refused, rest) → Takes bytes (refused_bytes refused) rest × IsRefused refused
unfolding refused_of refused_bytes
refused_takes bytes refused rest fits e =
    let a = step IsWide wide_bytes wide_of codec_wide (λ a. option_of text_of a.1 >>= λ b. option_of text_of b.1 >>= λ c. option_of row_of c.1 >>= λ d. option_of wide_of d.1 >>= λ f. Ok (refused_with a.0 b.0 c.0 d.0 f.0, f.1)) bytes (refused, rest) fits e in
    let b = step (λ o. IfSome o IsText) (option_bytes counted) (option_of text_of) codec_text_option (λ b. option_of text_of b.1 >>= λ c. option_of row_of c.1 >>= λ d. option_of wide_of d.1 >>= λ f. Ok (refused_with a.value b.0 c.0 d.0 f.0, f.1)) a.rest (refused, rest) a.takes.are_bytes a.goes_on in
    let c = step (λ o. IfSome o IsText) (option_bytes counted) (option_of text_of) codec_text_option (λ c. option_of row_of c.1 >>= λ d. option_of wide_of d.1 >>= λ f. Ok (refused_with a.value b.value c.0 d.0 f.0, f.1)) b.rest (refused, rest) b.takes.are_bytes b.goes_on in
    let d = step (λ o. IfSome o IsRowList) (option_bytes row_bytes) (option_of row_of) codec_row_option (λ d. option_of wide_of d.1 >>= λ f. Ok (refused_with a.value b.value c.value d.0 f.0, f.1)) c.rest (refused, rest) c.takes.are_bytes c.goes_on in
    let f = step (λ o. IfSome o IsWide) (option_bytes wide_bytes) (option_of wide_of) codec_wide_option (λ f. Ok (refused_with a.value b.value c.value d.value f.0, f.1)) d.rest (refused, rest) d.takes.are_bytes d.goes_on in
    let ab = Takes-then bytes (wide_bytes a.value) a.rest (option_bytes counted b.value) b.rest a.takes b.takes in
    let abc = Takes-then bytes (wide_bytes a.value ++ option_bytes counted b.value) b.rest (option_bytes counted c.value) c.rest ab c.takes in
    let abcd = Takes-then bytes (wide_bytes a.value ++ option_bytes counted b.value ++ option_bytes counted c.value) c.rest (option_bytes row_bytes d.value) d.rest abc d.takes in
    let whole = Takes-then bytes (wide_bytes a.value ++ option_bytes counted b.value ++ option_bytes counted c.value ++ option_bytes row_bytes d.value) d.rest (option_bytes wide_bytes f.value) f.rest abcd f.takes in
    given (λ (p : Refused × List ℕ). Takes bytes (refused_bytes p.0) p.1 × IsRefused p.0) (refused_with a.value b.value c.value d.value f.value, f.rest) (refused, rest) f.goes_on (whole, record { code = a.is; table = b.is; column = c.is; key = d.is; detail = f.is })

refused_again : (refused : Refused) (rest : List ℕ) → IsRefused refused → refused_of (refused_bytes refused ++ rest) ≡ Ok (refused, rest)
unfolding refused_of refused_bytes
refused_again refused rest is =
    let a = wide_bytes refused.code in
    let b = option_bytes counted refused.table in
    let c = option_bytes counted refused.column in
    let d = option_bytes row_bytes refused.key in
    let f = option_bytes wide_bytes refused.detail in
    ap refused_of (regrouped5 a b c d f rest) ∙ rw (codec_wide.again refused.code (b ++ (c ++ (d ++ (f ++ rest)))) is.code, codec_text_option.again refused.table (c ++ (d ++ (f ++ rest))) is.table, codec_text_option.again refused.column (d ++ (f ++ rest)) is.column, codec_row_option.again refused.key (f ++ rest) is.key, codec_wide_option.again refused.detail rest is.detail) refl

-- ---- what is read of an answer is spelled so

-- the parts of an answer with a number were taken
record TakesAnswer (number : ℕ) (bytes : List ℕ) (a : Answer) (rest : List ℕ) : Type 0 where
  takes : Takes bytes (parts_of a) rest
  is : IsAnswer a
  numbered : number_of a ≡ number

-- the answer that is read is the one that was made
taken : (number : ℕ) (bytes : List ℕ) (made : Answer) (behind : List ℕ) (a : Answer) (rest : List ℕ) → TakesAnswer number bytes made behind → done {A = Answer × List ℕ} (made, behind) ≡ done (a, rest) → TakesAnswer number bytes a rest
taken number bytes made behind a rest t e = given (λ (p : Answer × List ℕ). TakesAnswer number bytes p.0 p.1) (made, behind) (a, rest) e t

names_take : (bytes : List ℕ) (a : Answer) (rest : List ℕ) → AreBytes bytes → names_of bytes ≡ Ok (a, rest) → TakesAnswer 1 bytes a rest
unfolding names_of parts_of IsAnswer number_of
names_take bytes a rest fits e =
    let s = step (IsList IsText) (list_bytes counted) (list_of text_of) codec_names (λ x. Ok (answer.Names x.0, x.1)) bytes (a, rest) fits e in
    taken 1 bytes (answer.Names s.value) s.rest a rest (record { takes = s.takes; is = s.is; numbered = refl {a = 1} }) s.goes_on

codec_columns : IsCodec (IsList IsColumn) (list_bytes column_bytes) (list_of column_of)
codec_columns = codec_list IsColumn column_bytes column_of codec_column

schema_takes : (bytes : List ℕ) (a : Answer) (rest : List ℕ) → AreBytes bytes → schema_of bytes ≡ Ok (a, rest) → TakesAnswer 2 bytes a rest
unfolding schema_of parts_of IsAnswer number_of
schema_takes bytes a rest fits e =
    let s = step (IsList IsColumn) (list_bytes column_bytes) (list_of column_of) codec_columns (λ x. Ok (answer.Schema x.0, x.1)) bytes (a, rest) fits e in
    taken 2 bytes (answer.Schema s.value) s.rest a rest (record { takes = s.takes; is = s.is; numbered = refl {a = 2} }) s.goes_on

found_row_takes : (bytes : List ℕ) (a : Answer) (rest : List ℕ) → AreBytes bytes → found_row_of bytes ≡ Ok (a, rest) → TakesAnswer 3 bytes a rest
unfolding found_row_of parts_of IsAnswer number_of
found_row_takes bytes a rest fits e =
    let s = step (λ o. IfSome o IsRowList) (option_bytes row_bytes) (option_of row_of) codec_row_option (λ x. Ok (answer.Row x.0, x.1)) bytes (a, rest) fits e in
    taken 3 bytes (answer.Row s.value) s.rest a rest (record { takes = s.takes; is = s.is; numbered = refl {a = 3} }) s.goes_on

codec_rows : IsCodec (IsList IsRowList) (list_bytes row_bytes) (list_of row_of)
codec_rows = codec_list IsRowList row_bytes row_of codec_row

rows_take : (bytes : List ℕ) (a : Answer) (rest : List ℕ) → AreBytes bytes → rows_of bytes ≡ Ok (a, rest) → TakesAnswer 4 bytes a rest
unfolding rows_of parts_of IsAnswer number_of
rows_take bytes a rest fits e =
    let s = step (IsList IsRowList) (list_bytes row_bytes) (list_of row_of) codec_rows (λ x. flag_of x.1 >>= λ y. Ok (answer.Rows x.0 y.0, y.1)) bytes (a, rest) fits e in
    let t = step Always flag_bytes flag_of codec_flag (λ y. Ok (answer.Rows s.value y.0, y.1)) s.rest (a, rest) s.takes.are_bytes s.goes_on in
    taken 4 bytes (answer.Rows s.value t.value) t.rest a rest (record { takes = Takes-then bytes (list_bytes row_bytes s.value) s.rest (flag_bytes t.value) t.rest s.takes t.takes; is = s.is; numbered = refl {a = 4} }) t.goes_on

count_takes : (bytes : List ℕ) (a : Answer) (rest : List ℕ) → AreBytes bytes → count_of bytes ≡ Ok (a, rest) → TakesAnswer 5 bytes a rest
unfolding count_of parts_of IsAnswer number_of
count_takes bytes a rest fits e =
    let s = step IsWide wide_bytes wide_of codec_wide (λ x. Ok (answer.Number x.0, x.1)) bytes (a, rest) fits e in
    taken 5 bytes (answer.Number s.value) s.rest a rest (record { takes = s.takes; is = s.is; numbered = refl {a = 5} }) s.goes_on

codec_report : IsCodec IsReport report_bytes report_of
codec_report = record { takes = report_takes; again = report_again }

reported_takes : (bytes : List ℕ) (a : Answer) (rest : List ℕ) → AreBytes bytes → reported_of bytes ≡ Ok (a, rest) → TakesAnswer 6 bytes a rest
unfolding reported_of parts_of IsAnswer number_of
reported_takes bytes a rest fits e =
    let s = step IsReport report_bytes report_of codec_report (λ x. Ok (answer.Report x.0, x.1)) bytes (a, rest) fits e in
    taken 6 bytes (answer.Report s.value) s.rest a rest (record { takes = s.takes; is = s.is; numbered = refl {a = 6} }) s.goes_on

codec_founds : IsCodec (IsList IsFound) (list_bytes found_bytes) (list_of found_of)
codec_founds = codec_list IsFound found_bytes found_of codec_found

conflicts_take : (bytes : List ℕ) (a : Answer) (rest : List ℕ) → AreBytes bytes → conflicts_of bytes ≡ Ok (a, rest) → TakesAnswer 7 bytes a rest
unfolding conflicts_of parts_of IsAnswer number_of
conflicts_take bytes a rest fits e =
    let s = step (IsList IsFound) (list_bytes found_bytes) (list_of found_of) codec_founds (λ x. Ok (answer.Conflicts x.0, x.1)) bytes (a, rest) fits e in
    taken 7 bytes (answer.Conflicts s.value) s.rest a rest (record { takes = s.takes; is = s.is; numbered = refl {a = 7} }) s.goes_on

changeset_takes : (bytes : List ℕ) (a : Answer) (rest : List ℕ) → AreBytes bytes → changeset_of bytes ≡ Ok (a, rest) → TakesAnswer 8 bytes a rest
unfolding changeset_of parts_of IsAnswer number_of
changeset_takes bytes a rest fits e =
    let s = step IsFile counted counted_of codec_counted (λ x. Ok (answer.Changeset x.0, x.1)) bytes (a, rest) fits e in
    taken 8 bytes (answer.Changeset s.value) s.rest a rest (record { takes = s.takes; is = s.is; numbered = refl {a = 8} }) s.goes_on

said_takes : (bytes : List ℕ) (a : Answer) (rest : List ℕ) → AreBytes bytes → said_of bytes ≡ Ok (a, rest) → TakesAnswer 9 bytes a rest
unfolding said_of parts_of IsAnswer number_of
said_takes bytes a rest fits e =
    let s = step Always flag_bytes flag_of codec_flag (λ x. Ok (answer.Flag x.0, x.1)) bytes (a, rest) fits e in
    taken 9 bytes (answer.Flag s.value) s.rest a rest (record { takes = s.takes; is = tt; numbered = refl {a = 9} }) s.goes_on

limits_take : (bytes : List ℕ) (a : Answer) (rest : List ℕ) → AreBytes bytes → limits_of bytes ≡ Ok (a, rest) → TakesAnswer 10 bytes a rest
unfolding limits_of parts_of IsAnswer number_of
limits_take bytes a rest fits e =
    let s = step IsWide wide_bytes wide_of codec_wide (λ x. wide_of x.1 >>= λ y. Ok (answer.Limits x.0 y.0, y.1)) bytes (a, rest) fits e in
    let t = step IsWide wide_bytes wide_of codec_wide (λ y. Ok (answer.Limits s.value y.0, y.1)) s.rest (a, rest) s.takes.are_bytes s.goes_on in
    taken 10 bytes (answer.Limits s.value t.value) t.rest a rest (record { takes = Takes-then bytes (wide_bytes s.value) s.rest (wide_bytes t.value) t.rest s.takes t.takes; is = (s.is, t.is); numbered = refl {a = 10} }) t.goes_on

codec_refused : IsCodec IsRefused refused_bytes refused_of
codec_refused = record { takes = refused_takes; again = refused_again }

refusal_takes : (bytes : List ℕ) (a : Answer) (rest : List ℕ) → AreBytes bytes → refusal_of bytes ≡ Ok (a, rest) → TakesAnswer 11 bytes a rest
unfolding refusal_of parts_of IsAnswer number_of
refusal_takes bytes a rest fits e =
    let s = step IsRefused refused_bytes refused_of codec_refused (λ x. Ok (answer.Refused x.0, x.1)) bytes (a, rest) fits e in
    taken 11 bytes (answer.Refused s.value) s.rest a rest (record { takes = s.takes; is = s.is; numbered = refl {a = 11} }) s.goes_on

unread_takes : (bytes : List ℕ) (a : Answer) (rest : List ℕ) → AreBytes bytes → unread_of bytes ≡ Ok (a, rest) → TakesAnswer 12 bytes a rest
unfolding unread_of parts_of IsAnswer number_of
unread_takes bytes a rest fits e =
    let s = step IsWide wide_bytes wide_of codec_wide (λ x. wide_of x.1 >>= λ y. Ok (answer.Unread x.0 y.0, y.1)) bytes (a, rest) fits e in
    let t = step IsWide wide_bytes wide_of codec_wide (λ y. Ok (answer.Unread s.value y.0, y.1)) s.rest (a, rest) s.takes.are_bytes s.goes_on in
    taken 12 bytes (answer.Unread s.value t.value) t.rest a rest (record { takes = Takes-then bytes (wide_bytes s.value) s.rest (wide_bytes t.value) t.rest s.takes t.takes; is = (s.is, t.is); numbered = refl {a = 12} }) t.goes_on

done_takes : (bytes : List ℕ) (a : Answer) (rest : List ℕ) → AreBytes bytes → done {A = Answer × List ℕ} (answer.Done, bytes) ≡ done (a, rest) → TakesAnswer 0 bytes a rest
unfolding parts_of IsAnswer number_of
done_takes bytes a rest fits e = taken 0 bytes answer.Done bytes a rest (record { takes = record { parts = refl; are_bytes = fits }; is = tt; numbered = refl {a = 0} }) e

-- no answer has a number above 12
answer_by-other : (number : ℕ) (bytes : List ℕ) → 12 < number → answer_by number bytes ≡ Err (misread UnknownAnswer (1 + length bytes))
unfolding answer_by
answer_by-other number bytes lt =
    rw (
      ne_eqb number 0 (λ e. omega arith),
      ne_eqb number 1 (λ e. omega arith),
      ne_eqb number 2 (λ e. omega arith),
      ne_eqb number 3 (λ e. omega arith),
      ne_eqb number 4 (λ e. omega arith),
      ne_eqb number 5 (λ e. omega arith),
      ne_eqb number 6 (λ e. omega arith),
      ne_eqb number 7 (λ e. omega arith),
      ne_eqb number 8 (λ e. omega arith),
      ne_eqb number 9 (λ e. omega arith),
      ne_eqb number 10 (λ e. omega arith),
      ne_eqb number 11 (λ e. omega arith),
      ne_eqb number 12 (λ e. omega arith),
    ) refl

numbered_takes : (number : ℕ) (bytes : List ℕ) (a : Answer) (rest : List ℕ) → AreBytes bytes → answer_by number bytes ≡ Ok (a, rest) → TakesAnswer number bytes a rest
unfolding answer_by
numbered_takes zero bytes a rest fits e = done_takes bytes a rest fits e
numbered_takes (suc zero) bytes a rest fits e = names_take bytes a rest fits e
numbered_takes (suc (suc zero)) bytes a rest fits e = schema_takes bytes a rest fits e
numbered_takes (suc (suc (suc zero))) bytes a rest fits e = found_row_takes bytes a rest fits e
numbered_takes (suc (suc (suc (suc zero)))) bytes a rest fits e = rows_take bytes a rest fits e
numbered_takes (suc (suc (suc (suc (suc zero))))) bytes a rest fits e = count_takes bytes a rest fits e
numbered_takes (suc (suc (suc (suc (suc (suc zero)))))) bytes a rest fits e = reported_takes bytes a rest fits e
numbered_takes (suc (suc (suc (suc (suc (suc (suc zero))))))) bytes a rest fits e = conflicts_take bytes a rest fits e
numbered_takes (suc (suc (suc (suc (suc (suc (suc (suc zero)))))))) bytes a rest fits e = changeset_takes bytes a rest fits e
numbered_takes (suc (suc (suc (suc (suc (suc (suc (suc (suc zero))))))))) bytes a rest fits e = said_takes bytes a rest fits e
numbered_takes (suc (suc (suc (suc (suc (suc (suc (suc (suc (suc zero)))))))))) bytes a rest fits e = limits_take bytes a rest fits e
numbered_takes (suc (suc (suc (suc (suc (suc (suc (suc (suc (suc (suc zero))))))))))) bytes a rest fits e = refusal_takes bytes a rest fits e
numbered_takes (suc (suc (suc (suc (suc (suc (suc (suc (suc (suc (suc (suc zero)))))))))))) bytes a rest fits e = unread_takes bytes a rest fits e
numbered_takes (suc (suc (suc (suc (suc (suc (suc (suc (suc (suc (suc (suc (suc number))))))))))))) bytes a rest fits e =
    absurd (not_value (a, rest) (misread UnknownAnswer (1 + length bytes)) (sym (answer_by-other (suc (suc (suc (suc (suc (suc (suc (suc (suc (suc (suc (suc (suc number))))))))))))) bytes (omega arith)) ∙ e))

-- the answer at the front is one, and is spelled so
front_takes : (bytes : List ℕ) (a : Answer) (rest : List ℕ) → AreBytes bytes → answer_at bytes ≡ Ok (a, rest) → IsAnswer a × (bytes ≡ answer_bytes a ++ rest)
unfolding answer_at
front_takes [] a rest fits e = absurd (not_value _ _ e)
front_takes (number ∷ bytes) a rest fits e =
    let t = numbered_takes number bytes a rest fits.1 e in
    (t.is, ap (λ (n : ℕ). n ∷ bytes) (sym t.numbered) ∙ ap (λ (b : List ℕ). number_of a ∷ b) t.takes.parts)

pub whole_takes : (bytes : List ℕ) (a : Answer) → AreBytes bytes → whole_answer bytes ≡ Ok a → IsAnswer a × (bytes ≡ answer_bytes a)
unfolding whole_answer
whole_takes bytes a fits e =
    let b = bind_ok (answer_at bytes) (λ front. cond (length front.1 == 0) (Ok front.0) (Err (misread ExtraBytes (length front.1)))) a e in
    let g = wanted_ok (length b.0.1 == 0) (misread ExtraBytes (length b.0.1)) b.0.0 a b.2 in
    let t = front_takes bytes b.0.0 b.0.1 fits b.1 in
    let none : b.0.1 ≡ [] = nil_from_length b.0.1 (eqb-true (length b.0.1) 0 g.0) in
    subst (λ (d : Answer). IsAnswer d × (bytes ≡ answer_bytes d)) g.1 (t.0, t.1 ∙ rw none (append-nil (answer_bytes b.0.0)))

-- ---- what is spelled so is read

answer_again : (a : Answer) (rest : List ℕ) → IsAnswer a → answer_at (answer_bytes a ++ rest) ≡ Ok (a, rest)
unfolding answer_at answer_by number_of parts_of IsAnswer names_of schema_of found_row_of rows_of count_of reported_of conflicts_of changeset_of said_of limits_of refusal_of unread_of
answer_again answer.Done rest is = refl
answer_again (answer.Names names) rest is = rw (codec_names.again names rest is) refl
answer_again (answer.Schema columns) rest is = rw (codec_columns.again columns rest is) refl
answer_again (answer.Row row) rest is = rw (codec_row_option.again row rest is) refl
answer_again (answer.Rows rows more) rest is = rw (append_assoc (list_bytes row_bytes rows) (flag_bytes more) rest, codec_rows.again rows (flag_bytes more ++ rest) is, codec_flag.again more rest tt) refl
answer_again (answer.Number number) rest is = rw (codec_wide.again number rest is) refl
answer_again (answer.Report report) rest is = rw (report_again report rest is) refl
answer_again (answer.Conflicts conflicts) rest is = rw (codec_founds.again conflicts rest is) refl
answer_again (answer.Changeset file) rest is = rw (codec_counted.again file rest is) refl
answer_again (answer.Flag flag) rest is = rw (codec_flag.again flag rest tt) refl
answer_again (answer.Limits version most) rest is = rw (append_assoc (wide_bytes version) (wide_bytes most) rest, codec_wide.again version (wide_bytes most ++ rest) is.0, codec_wide.again most rest is.1) refl
answer_again (answer.Refused refused) rest is = rw (refused_again refused rest is) refl
answer_again (answer.Unread code offset) rest is = rw (append_assoc (wide_bytes code) (wide_bytes offset) rest, codec_wide.again code (wide_bytes offset ++ rest) is.0, codec_wide.again offset rest is.1) refl

pub whole_again : (a : Answer) → IsAnswer a → whole_answer (answer_bytes a) ≡ Ok a
unfolding whole_answer
whole_again a is = ap whole_answer (sym (append-nil (answer_bytes a))) ∙ rw (answer_again a [] is) refl

-- the bytes of an answer are read as it
pub answer_bytes_again : AnswerBytes
answer_bytes_again a is = rw (whole_again a is) refl

-- ---- counts

few : (values : List OwnedValue) → IsRowList values → length values ≤ MAX_CONTENT_LEN
few values is = is.few

all_few : (rows : List (List OwnedValue)) → AllByRecursion IsRowList rows → AllByRecursion (λ row. length row ≤ MAX_CONTENT_LEN) rows
all_few rows are = AllByRecursion-weaker IsRowList (λ row. length row ≤ MAX_CONTENT_LEN) few rows are

met_counts : (met : MetConflict) → IsMet met → MetCounts met
met_counts met is = is.key.few

-- the lists of an answer have counts
pub answer_counts : (a : Answer) → IsAnswer a → HasCounts a
unfolding IsAnswer HasCounts
answer_counts answer.Done is = tt
answer_counts (answer.Names names) is = is.few
answer_counts (answer.Schema columns) is = is.few
answer_counts (answer.Row row) is = few_option row is
answer_counts (answer.Rows rows more) is = (is.few, All-from_recursion (λ row. length row ≤ MAX_CONTENT_LEN) rows (all_few rows is.are_parts))
answer_counts (answer.Number number) is = tt
answer_counts (answer.Report report) is =
    record { skipped = is.skipped.few; conflicts = is.conflicts.few; mets = All-from_recursion MetCounts report.conflicts (AllByRecursion-weaker IsMet MetCounts met_counts report.conflicts is.conflicts.are_parts) }
answer_counts (answer.Conflicts conflicts) is = (is.few, All-from_recursion FoundCounts conflicts (AllByRecursion-weaker IsFound FoundCounts found_counts conflicts is.are_parts))
answer_counts (answer.Changeset file) is = tt
answer_counts (answer.Flag flag) is = tt
answer_counts (answer.Limits version most) is = tt
answer_counts (answer.Refused refused) is = few_option refused.key is.key
answer_counts (answer.Unread code offset) is = tt
