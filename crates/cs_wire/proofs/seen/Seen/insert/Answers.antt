-- `seen::Seen::insert`: its invariant and the clauses `is_new` and `added`.
use Rattle.std.proofs.Common.{◌≢◌, ◌∙◌, ◌↔◌, ℕ, List, All, IsTrue, map, ap, subst}
use Rattle.std.specs.Cow.{cow_slice_items}
use Rattle.std.proofs.lemmas.List.Elements.{All-same}
use Rattle.std.proofs.lemmas.Map.Views.{All-insert_key}
use Rattle.cs_wire.specs.Seen.{word_of}
use Rattle.cs_wire.specs.declared.seen.Text.{Text}
use Rattle.cs_wire.proofs.SeenLemmas.{text_cmp, HasWord, bytes_added, is_new}
use Rattle.cs_wire.proofs.seen.Seen.insert.Goals as goal

abbrev word : Text → ℕ
word t = t.word

abbrev bytes : Text → List ℕ
bytes t = cow_slice_items t.bytes

pub invariant_of-self-2 : goal.invariant_of-self-2
invariant_of-self-2 c =
    All-same (HasWord word bytes word_of) _ _ c.in_ok-is_new.ensures.keys (All-insert_key (text_cmp word bytes) _ (HasWord word bytes word_of) c.self.inside.texts.keys c.self.invariant (c.word_of-word.ensures ∙ ap word_of c.as_slice.ensures.value))

pub returns-clause-is_new : goal.returns-clause-is_new
returns-clause-is_new c =
    subst (λ (texts : List (List ℕ)). IsTrue c.in_ok-is_new.is_new ↔ All (λ t. t ≢ cow_slice_items c.args.text) texts) c.self.view_is
    (is_new word bytes word_of (record { word = c.word_of-word.result; bytes = c.args.text }) c.self.inside.texts.keys c.in_ok-is_new.is_new (c.word_of-word.ensures ∙ ap word_of c.as_slice.ensures.value) c.self.invariant c.in_ok-is_new.ensures.added)

pub returns-clause-added : goal.returns-clause-added
returns-clause-added c t =
    subst (λ (texts : List (List ℕ)). All (λ s. s ≢ t) (map bytes c.insert.new.self.keys) ↔ ((cow_slice_items c.args.text ≢ t) × All (λ s. s ≢ t) texts)) c.self.view_is
    (bytes_added word bytes c.self.inside.texts.keys c.insert.new.self.keys (record { word = c.word_of-word.result; bytes = c.args.text }) t c.in_ok-is_new.ensures.keys)
