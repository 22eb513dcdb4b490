-- `words::slot`: the word is tested.
use Rattle.std.proofs.Common.{sym, ap, ◌∙◌}
use Rattle.cs_shell_tokens.specs.Words.{is_slot, slot_in}
use Rattle.cs_shell_tokens.proofs.SlotLemmas.{slot_tested}
use Rattle.cs_shell_tokens.proofs.words.slot.Goals as goal

pub returns-then-is_slot : goal.returns-then-is_slot
unfolding slot_in
returns-then-is_slot c = rw (c.in_ok-name.ensures, ap is_slot (sym c.as_bytes.ensures.value) ∙ slot_tested _ _ c.is_slot.ensures ∙ c.if-is_slot.true)

pub returns : goal.returns
unfolding slot_in
returns c = rw (c.in_ok-name.ensures, ap is_slot (sym c.as_bytes.ensures.value) ∙ slot_tested _ _ c.is_slot.ensures ∙ c.if-is_slot.false)
