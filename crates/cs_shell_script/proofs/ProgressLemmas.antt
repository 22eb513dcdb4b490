-- Lemmas on a script that is run line by line.
use Rattle.std.proofs.Common.{◌≡◌, ◌≢◌, inl, inr, ℕ, ◌+◌, ◌<◌, ◌≤◌, ◌||◌, Bool, true, false, List, [], ◌∷◌, ◌++◌, length, take, drop, get_or, Option, Result, Ok, Err, OnOk, OnErr, refl, sym, ap, subst, ◌∙◌, append_assoc, append-nil, arith, length-append}
use Rattle.std.specs.List.{flat_map, list_any}
use Rattle.std.proofs.lemmas.Bool.{both_ways}
use Rattle.std.proofs.lemmas.List.{take_more, take_all, take-append-drop, flat_map_more}
use Rattle.std.proofs.lemmas.List.Recursion.{or_push}
use Rattle.std.specs.Io.KnownBytes.{Appends}
use Rattle.std.proofs.KnownBytes.{Appends-nil, Appends-trans}
use Rattle.cs_value.proofs.ListLemmas.{AllByRecursion-push}
use Rattle.cs_shell_script.specs.declared.reader.LineReader.{LineReader}
use Rattle.cs_shell_script.specs.declared.script.RunningScript.{RunningScript}
use Rattle.cs_file_texts.specs.declared.told.Told.{Told}
use Rattle.cs_files.specs.Told.{known}
use Rattle.cs_files.specs.Calls.{AppendsFront}
use Rattle.cs_shell_replies.specs.Replies.{Reply, reply_text, replies_text, is_refused}
use Rattle.cs_shell_script.specs.Runs.{Splits, HasNoFeed, ended, unended, LinesGive, AnswersAll}
use Rattle.cs_shell_script.specs.Progress.{Holds, HasBegun, IsFresh, Adds, Running, running, EndsLine, Progress, Advances, Broken, Breaks, Finishes, Unfinished}

list_any-push : {X : Type 0} (p : X → Bool) (xs : List X) (x : X) → list_any p (xs ++ x ∷ []) ≡ (list_any p xs || p x)
list_any-push p xs x = or_push (list_any p) p refl (λ y ys. refl) xs x

-- the text is no line more, and a byte longer
pub Splits-byte : (text : List ℕ) (lines : List (List ℕ)) (last : List ℕ) (b : ℕ) → b ≢ 10 → Splits text lines last → Splits (text ++ b ∷ []) lines (last ++ b ∷ [])
Splits-byte text lines last b apart s = record {
  spelled = ap (λ l. l ++ b ∷ []) s.spelled ∙ append_assoc (flat_map ended lines) last (b ∷ []);
  no_feed = s.no_feed;
  no_feed_last = AllByRecursion-push (λ c. c ≢ 10) last b s.no_feed_last apart;
}

-- the text is a line more
pub Splits-feed : (text : List ℕ) (lines : List (List ℕ)) (last : List ℕ) → Splits text lines last → Splits (text ++ 10 ∷ []) (lines ++ last ∷ []) []
Splits-feed text lines last s = record {
  spelled =
      ap (λ l. l ++ 10 ∷ []) s.spelled ∙ append_assoc (flat_map ended lines) last (10 ∷ []) ∙ flat_map_more ended [] lines last
      ∙ sym (append-nil (flat_map ended (lines ++ last ∷ [])));
  no_feed = AllByRecursion-push HasNoFeed lines last s.no_feed s.no_feed_last;
  no_feed_last = tt;
}

-- a line more is answered
pub LinesGive-push : {M : Type 0} (gives : M → List ℕ → Reply → M → Type 0) (old mid new : M) (lines : List (List ℕ)) (replies : List Reply) (line : List ℕ) (reply : Reply) → LinesGive gives old lines replies mid
    → gives mid line reply new → LinesGive gives old (lines ++ line ∷ []) (replies ++ reply ∷ []) new
LinesGive-push gives old mid new [] [] line reply h given = (new, subst (λ m. gives m line reply new) h given, refl)
LinesGive-push gives old mid new (l ∷ lines) (r ∷ replies) line reply h given = (h.0, h.1, LinesGive-push gives h.0 mid new lines replies line reply h.2 given)
LinesGive-push gives old mid new [] (r ∷ replies) line reply h given = absurd h
LinesGive-push gives old mid new (l ∷ lines) [] line reply h given = absurd h

push_nonempty : (bytes : List ℕ) (b : ℕ) → bytes ++ b ∷ [] ≢ []
push_nonempty bytes b is = absurd (omega (arith, ap length is, length-append bytes (b ∷ [])))

-- what was run, where nothing is read
pub Progress-start : {M : Type 0} (gives : M → List ℕ → Reply → M → Type 0) (interpreter : M) (script : RunningScript) (out : Option (List ℕ)) → IsFresh script → Progress gives interpreter [] out out (running interpreter script)
Progress-start gives interpreter script out fresh = record {
  lines = [];
  last = [];
  replies = [];
  splits = record { spelled = refl; no_feed = tt; no_feed_last = tt };
  given = refl;
  written = Appends-nil out;
  has_refused = sym fresh.1;
  holds = λ _. fresh.0.0;
  lost = λ lost. absurd (both_ways script.line.is_lost fresh.0.1 lost);
}

pub Advances-nil : {M W : Type 0} (contents : W → Option (List ℕ)) (gives : M → List ℕ → Reply → M → Type 0) (script : Running M) (out : Told W) → Advances contents gives script script out out []
Advances-nil contents gives script out = record {
  progress = λ start front first p. subst (λ l. Progress gives start l first (known contents out) script) (sym (append-nil front)) p;
}

pub Advances-trans : {M W : Type 0} (contents : W → Option (List ℕ)) (gives : M → List ℕ → Reply → M → Type 0) (a b c : Running M) (x y z : Told W) (bytes more : List ℕ) → Advances contents gives a b x y bytes
    → Advances contents gives b c y z more → Advances contents gives a c x z (bytes ++ more)
Advances-trans contents gives a b c x y z bytes more p q = record {
  progress = λ start front first h.
      subst (λ l. Progress gives start l first (known contents z) c) (append_assoc front bytes more) (q.progress start (front ++ bytes) first (p.progress start front first h));
}

-- bytes of a list, one more
pub Advances-more : {M W : Type 0} (contents : W → Option (List ℕ)) (gives : M → List ℕ → Reply → M → Type 0) (a b c : Running M) (x y z : Told W) (bytes : List ℕ) (i : ℕ) → i < length bytes
    → Advances contents gives a b x y (take i bytes) → Advances contents gives b c y z (get_or bytes i 0 ∷ []) → Advances contents gives a c x z (take (i + 1) bytes)
Advances-more contents gives a b c x y z bytes i within p q =
    subst (Advances contents gives a c x z) (sym (take_more bytes i 0 within)) (Advances-trans contents gives a b c x y z _ _ p q)

-- bytes of a list, which are all
pub Advances-all : {M W : Type 0} (contents : W → Option (List ℕ)) (gives : M → List ℕ → Reply → M → Type 0) (a b : Running M) (x y : Told W) (bytes : List ℕ) (i : ℕ) → length bytes ≤ i
    → Advances contents gives a b x y (take i bytes) → Advances contents gives a b x y bytes
Advances-all contents gives a b x y bytes i past p = subst (Advances contents gives a b x y) (take_all i bytes past) p

-- a byte that ends no line
pub Advances-byte : {M W : Type 0} (contents : W → Option (List ℕ)) (gives : M → List ℕ → Reply → M → Type 0) (old new : Running M) (out : Told W) (b : ℕ) → b ≢ 10 → new.interpreter ≡ old.interpreter → new.has_refused ≡ old.has_refused
    → Adds old.line new.line b → Advances contents gives old new out out (b ∷ [])
Advances-byte contents gives old new out b apart same refused adds = record {
  progress = λ start front first p. record {
    lines = p.lines;
    last = p.last ++ b ∷ [];
    replies = p.replies;
    splits = Splits-byte front p.lines p.last b apart p.splits;
    given = subst (λ m. LinesGive gives start p.lines p.replies m) (sym same) p.given;
    written = p.written;
    has_refused = p.has_refused ∙ sym refused;
    holds = λ held. (adds held).1 ∙ ap (λ l. l ++ b ∷ []) (p.holds (adds held).0);
    lost = λ _. push_nonempty p.last b;
  };
}

-- the replies with one more, where a line is ended
replies_text-push : (replies : List Reply) (reply : Reply) → replies_text (replies ++ reply ∷ []) ≡ replies_text replies ++ reply_text reply
replies_text-push replies reply = sym (flat_map_more reply_text [] replies reply)

written_more : (first before after : Option (List ℕ)) (replies : List Reply) (reply : Reply) → Appends first before (replies_text replies) → Appends before after (reply_text reply)
    → Appends first after (replies_text (replies ++ reply ∷ []))
written_more first before after replies reply p q =
    subst (λ text. Appends first after text) (sym (replies_text-push replies reply)) (Appends-trans first before after _ _ p q)

-- a prefix of a text after another
pub AppendsFront-behind : (first before after : Option (List ℕ)) (text more : List ℕ) → Appends first before text → AppendsFront before after more → AppendsFront first after (text ++ more)
AppendsFront-behind first before after text more p q =
    (text ++ q.0, q.1, ap (λ l. text ++ l) q.2 ∙ sym (append_assoc text q.0 q.1), Appends-trans first before after text q.0 p q.3)

front_more : (first before after : Option (List ℕ)) (replies : List Reply) (reply : Reply) → Appends first before (replies_text replies) → AppendsFront before after (reply_text reply)
    → AppendsFront first after (replies_text (replies ++ reply ∷ []))
front_more first before after replies reply p q =
    subst (λ text. AppendsFront first after text) (sym (replies_text-push replies reply)) (AppendsFront-behind first before after _ _ p q)

refused_more : (replies : List Reply) (reply : Reply) (b c : Bool) → list_any is_refused replies ≡ b → c ≡ (b || is_refused reply) → list_any is_refused (replies ++ reply ∷ []) ≡ c
refused_more replies reply b c p q = list_any-push is_refused replies reply ∙ ap (λ t. t || is_refused reply) p ∙ sym q

-- a line feed
pub Advances-feed : {M W X E : Type 0} (contents : W → Option (List ℕ)) (gives : M → List ℕ → Reply → M → Type 0) (old new : Running M) (result : Result X E) (before after : Told W)
    → EndsLine contents gives old new result before after → OnOk result (Advances contents gives old new before after (10 ∷ []))
Advances-feed contents gives old new (Ok x) before after e = record {
  progress = λ start front first p. record {
    lines = p.lines ++ p.last ∷ [];
    last = [];
    replies = p.replies ++ e.reply ∷ [];
    splits = Splits-feed front p.lines p.last p.splits;
    given = LinesGive-push gives start old.interpreter new.interpreter p.lines p.replies p.last e.reply p.given (e.given p.last p.holds);
    written = written_more first (known contents before) (known contents after) p.replies e.reply p.written e.writes.wrote;
    has_refused = refused_more p.replies e.reply old.has_refused new.has_refused p.has_refused e.has_refused;
    holds = λ _. e.at_start.0;
    lost = λ lost. absurd (both_ways new.line.is_lost e.at_start.1 lost);
  };
}
Advances-feed contents gives old new (Err x) before after e = tt

-- a line feed, where a write fails
pub Breaks-feed : {M W X E : Type 0} (contents : W → Option (List ℕ)) (gives : M → List ℕ → Reply → M → Type 0) (old new : Running M) (result : Result X E) (before after : Told W)
    → EndsLine contents gives old new result before after → OnErr result (Breaks contents gives old new before after (10 ∷ []))
Breaks-feed contents gives old new (Ok x) before after e = tt
Breaks-feed contents gives old new (Err x) before after e = record {
  broken = λ start front first p. record {
    front = front ++ 10 ∷ [];
    rest = [];
    whole = sym (append-nil (front ++ 10 ∷ []));
    replies = p.replies ++ e.reply ∷ [];
    answers = record {
      lines = p.lines ++ p.last ∷ [];
      last = [];
      splits = Splits-feed front p.lines p.last p.splits;
      given = LinesGive-push gives start old.interpreter new.interpreter p.lines p.replies p.last e.reply p.given (e.given p.last p.holds);
    };
    written = front_more first (known contents before) (known contents after) p.replies e.reply p.written e.writes.wrote;
  };
}

-- more text, not answered yet
pub Broken-longer : {M : Type 0} (gives : M → List ℕ → Reply → M → Type 0) (start : M) (text more : List ℕ) (before after : Option (List ℕ)) (final : M) → Broken gives start text before after final
    → Broken gives start (text ++ more) before after final
Broken-longer gives start text more before after final b = record {
  front = b.front;
  rest = b.rest ++ more;
  whole = ap (λ l. l ++ more) b.whole ∙ append_assoc b.front b.rest more;
  replies = b.replies;
  answers = b.answers;
  written = b.written;
}

-- bytes of a list, where the write of one fails
pub Breaks-more : {M W : Type 0} (contents : W → Option (List ℕ)) (gives : M → List ℕ → Reply → M → Type 0) (a b c : Running M) (x y z : Told W) (bytes : List ℕ) (i : ℕ) → i < length bytes
    → Advances contents gives a b x y (take i bytes) → Breaks contents gives b c y z (get_or bytes i 0 ∷ []) → Breaks contents gives a c x z bytes
Breaks-more contents gives a b c x y z bytes i within p q = record {
  broken = λ start front first h.
      let text : (front ++ take i bytes) ++ get_or bytes i 0 ∷ [] ≡ front ++ take (i + 1) bytes =
      append_assoc front (take i bytes) (get_or bytes i 0 ∷ []) ∙ ap (λ l. front ++ l) (sym (take_more bytes i 0 within)) in
      let whole : (front ++ take (i + 1) bytes) ++ drop (i + 1) bytes ≡ front ++ bytes =
      append_assoc front (take (i + 1) bytes) (drop (i + 1) bytes) ∙ ap (λ l. front ++ l) (take-append-drop (i + 1) bytes) in
      subst (λ l. Broken gives start l first (known contents z) c.interpreter) (ap (λ l. l ++ drop (i + 1) bytes) text ∙ whole)
      (Broken-longer gives start _ (drop (i + 1) bytes) first (known contents z) c.interpreter (q.broken start (front ++ take i bytes) first (p.progress start front first h)));
}

-- a last line that has a byte
unended_some : (last : List ℕ) → last ≢ [] → unended last ≡ last ∷ []
unended_some [] some = absurd (some refl)
unended_some (b ∷ bytes) some = refl

-- the line that is read has a byte
last_some : (reader : LineReader) (last : List ℕ) → HasBegun reader → Holds reader last → (reader.is_lost ≡ true → last ≢ []) → last ≢ []
last_some reader last begun holds lost none =
    elim reader.is_lost as (λ b. reader.is_lost ≡ b → ⊥) [
      | true ↦ λ is. lost is none
      | false ↦ λ is. some_byte is begun (holds is)
    ] refl
  where
    some_byte : reader.is_lost ≡ false → HasBegun reader → reader.bytes.items ≡ last → ⊥
    some_byte held (inl is) same = both_ways reader.is_lost held is
    some_byte held (inr some) same = some (same ∙ none)

-- the last line was answered, and the text with it
last_answered : {M W X E : Type 0} (contents : W → Option (List ℕ)) (gives : M → List ℕ → Reply → M → Type 0) (old new : Running M) (result : Result X E) (before after : Told W)
    → EndsLine contents gives old new result before after → HasBegun old.line → (start : M) (text : List ℕ) (first : Option (List ℕ)) → (p : Progress gives start text first (known contents before) old)
    → (e : Reply) → ((line : List ℕ) → Holds old.line line → gives old.interpreter line e new.interpreter) → AnswersAll gives start text (p.replies ++ e ∷ []) new.interpreter
last_answered contents gives old new result before after ends begun start text first p e given = record {
  lines = p.lines;
  last = p.last;
  splits = p.splits;
  given = subst (λ ls. LinesGive gives start (p.lines ++ ls) (p.replies ++ e ∷ []) new.interpreter)
      (sym (unended_some p.last (last_some old.line p.last begun p.holds p.lost)))
      (LinesGive-push gives start old.interpreter new.interpreter p.lines p.replies p.last e p.given (given p.last p.holds));
}

pub Finishes-ended : {M W X E : Type 0} (contents : W → Option (List ℕ)) (gives : M → List ℕ → Reply → M → Type 0) (old new : Running M) (result : Result X E) (before after : Told W)
    → EndsLine contents gives old new result before after → HasBegun old.line → OnOk result (Finishes contents gives old new before after)
Finishes-ended contents gives old new (Ok x) before after e begun = record {
  answered = λ start text first p. (
    p.replies ++ e.reply ∷ [],
    last_answered contents gives old new (Ok x) before after e begun start text first p e.reply e.given,
    written_more first (known contents before) (known contents after) p.replies e.reply p.written e.writes.wrote,
    refused_more p.replies e.reply old.has_refused new.has_refused p.has_refused e.has_refused,
  );
}
Finishes-ended contents gives old new (Err x) before after e begun = tt

pub Unfinished-ended : {M W X E : Type 0} (contents : W → Option (List ℕ)) (gives : M → List ℕ → Reply → M → Type 0) (old new : Running M) (result : Result X E) (before after : Told W)
    → EndsLine contents gives old new result before after → HasBegun old.line → OnErr result (Unfinished contents gives old new before after)
Unfinished-ended contents gives old new (Ok x) before after e begun = tt
Unfinished-ended contents gives old new (Err x) before after e begun = record {
  answered = λ start text first p. (
    p.replies ++ e.reply ∷ [],
    last_answered contents gives old new (Err x) before after e begun start text first p e.reply e.given,
    front_more first (known contents before) (known contents after) p.replies e.reply p.written e.writes.wrote,
  );
}

-- there is no last line
no_line : (reader : LineReader) (last : List ℕ) → (HasBegun reader → ⊥) → Holds reader last → last ≡ []
no_line reader [] none holds = refl
no_line reader (b ∷ bytes) none holds =
    elim reader.is_lost as (λ l. reader.is_lost ≡ l → b ∷ bytes ≡ []) [
      | true ↦ λ is. absurd (none (inl is))
      | false ↦ λ is. absurd (none (inr (λ empty. cons_nil (sym (holds is) ∙ empty))))
    ] refl
  where
    cons_nil : b ∷ bytes ≡ [] → ⊥
    cons_nil same = absurd (omega (arith, ap length same))

pub Finishes-at_once : {M W : Type 0} (contents : W → Option (List ℕ)) (gives : M → List ℕ → Reply → M → Type 0) (script : Running M) (out : Told W) → (HasBegun script.line → ⊥)
    → Finishes contents gives script script out out
Finishes-at_once contents gives script out none = record {
  answered = λ start text first p. (
    p.replies,
    record {
      lines = p.lines;
      last = p.last;
      splits = p.splits;
      given = subst (λ ls. LinesGive gives start ls p.replies script.interpreter)
          (sym (ap (λ l. p.lines ++ unended l) (no_line script.line p.last none p.holds) ∙ append-nil p.lines)) p.given;
    },
    p.written,
    p.has_refused,
  );
}
