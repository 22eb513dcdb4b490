-- `texts::dump::add_entry`: what it ensures.
use Rattle.std.proofs.Common.{codes, refl, ap, ◌∙◌, append_assoc}
use Rattle.cs_file_texts.specs.Texts.{flag_text}
use Rattle.cs_file_texts.proofs.GatherLemmas.{Gathered-nil, Gathered-more, Gathers-stopped, Gathers-then}
use Rattle.cs_file_texts.proofs.TextLemmas.{entry_parts}
use Rattle.cs_file_texts.proofs.texts.dump.add_entry.Goals as goal

pub returns-in_err-add_all : goal.returns-in_err-add_all
returns-in_err-add_all g c =
    let entry = c.args.entry.now.entry in
    let flag = c.flag_bytes-flag.ensures ∙ ap flag_text c.indirect.ensures.indirect in
    Gathers-stopped _ _ _ _ c.from_residual.ensures.0 (entry_parts entry.indirect entry.change _ _ _ _ c.change_bytes.ensures flag refl refl) (Gathered-nil _ _) c.in_err-add_all.ensures

pub returns-in_err-add_record : goal.returns-in_err-add_record
returns-in_err-add_record g c =
    let entry = c.args.entry.now.entry in
    let flag = c.flag_bytes-flag.ensures ∙ ap flag_text c.indirect.ensures.indirect in
    Gathers-stopped _ _ _ _ c.from_residual-in_err-add_record.ensures.0 (entry_parts entry.indirect entry.change _ _ _ _ c.change_bytes.ensures flag c.old_fields.ensures.fields refl) c.in_ok-add_all.ensures.gathered c.in_err-add_record.ensures

pub returns-in_err-add_record-2 : goal.returns-in_err-add_record-2
returns-in_err-add_record-2 g c =
    let entry = c.args.entry.now.entry in
    let flag = c.flag_bytes-flag.ensures ∙ ap flag_text c.indirect.ensures.indirect in
    let parts = entry_parts entry.indirect entry.change _ _ _ _ c.change_bytes.ensures flag c.old_fields.ensures.fields c.new_fields.ensures.fields in
    Gathers-stopped _ _ _ (codes "\n") c.from_residual-in_err-add_record-2.ensures.0 (parts ∙ simp append_assoc)
    (Gathered-more _ refl c.in_ok-add_all.ensures.gathered c.in_ok-add_record.ensures.gathered) c.in_err-add_record-2.ensures

pub returns : goal.returns
returns g c =
    let entry = c.args.entry.now.entry in
    let flag = c.flag_bytes-flag.ensures ∙ ap flag_text c.indirect.ensures.indirect in
    let parts = entry_parts entry.indirect entry.change _ _ _ _ c.change_bytes.ensures flag c.old_fields.ensures.fields c.new_fields.ensures.fields in
    Gathers-then _ (parts ∙ simp append_assoc)
    (Gathered-more _ refl (Gathered-more _ refl c.in_ok-add_all.ensures.gathered c.in_ok-add_record.ensures.gathered) c.in_ok-add_record-2.ensures.gathered) c.add.ensures
