-- `texts::literal::add_doubled`: the invariant of the loop at `byte`, what it ensures.
use Rattle.std.proofs.Common.{ap, ◌∷◌, [], sym, ◌∙◌, arith}
use Rattle.std.specs.List.{flat_map}
use Rattle.std.proofs.lemmas.List.{take_all}
use Rattle.cs_value.proofs.ListLemmas.{flat_map_take_more, flat_map_split}
use Rattle.cs_value.specs.Quoting.{doubled}
use Rattle.cs_file_texts.proofs.GatherLemmas.{Gathered-more, Gathers-stopped, Gathers-done}
use Rattle.cs_file_texts.proofs.TextLemmas.{doubled_bytes}
use Rattle.cs_file_texts.proofs.texts.literal.add_doubled.Goals as goal

pub loop-byte-preserved : goal.loop-byte-preserved
loop-byte-preserved g c =
    Gathered-more _ (flat_map_take_more c.args.text.now c.loop-byte.byte-index _ (omega arith) (λ byte. doubled c.args.quote (byte ∷ []))) c.loop-byte.invariant c.in_ok-add_quotable.ensures.gathered

pub returns-in_err-add_quotable : goal.returns-in_err-add_quotable
returns-in_err-add_quotable g c =
    Gathers-stopped _ _ _ _ c.from_residual.ensures.0 (doubled_bytes c.args.quote c.args.text.now ∙ flat_map_split c.args.text.now c.loop-byte.byte-index _ (omega arith) _) c.loop-byte.invariant c.in_err-add_quotable.ensures

pub returns : goal.returns
returns g c =
    Gathers-done _ (doubled_bytes c.args.quote c.args.text.now ∙ sym (ap (flat_map (λ byte. doubled c.args.quote (byte ∷ []))) (take_all c.loop-byte.byte-index c.args.text.now (omega arith)))) c.loop-byte.invariant
