-- Lemmas on an input that is read and run piece by piece.
use Rattle.std.proofs.Common.{◌≡◌, ℕ, ◌+◌, ◌-◌, ◌≤◌, ◌<◌, Bool, true, false, List, [], ◌∷◌, ◌++◌, length, take, drop, Option, None, Some, refl, sym, ap, subst, ◌∙◌, arith, length-append, append-nil}
use Rattle.std.specs.Prelude.{if◌then◌else◌, IsTrue}
use Rattle.std.specs.Io.KnownBytes.{Appends, Consumes, Keeps, IsAtEnd}
use Rattle.std.proofs.KnownBytes.{Appends-trans, Consumes-trans}
use Rattle.std.proofs.lemmas.List.{append_assoc, length-drop, length-take-le, take-append-drop}
use Rattle.cs_shell_replies.specs.declared.refusal.Refusal.TheVariants.{ScriptTooLong}
use Rattle.cs_shell_script.specs.declared.script.RunningScript.{RunningScript}
use Rattle.cs_shell_script.specs.declared.script.Status.{Status}
use Rattle.cs_shell_script.specs.declared.script.Status.TheVariants.{Done, LinesRefused, TooLong, InputFault, OutputFault}
use Rattle.cs_file_texts.specs.declared.told.Told.{Told}
use Rattle.cs_files.specs.Told.{has_failed, known}
use Rattle.cs_files.specs.Calls.{AppendsFront}
use Rattle.cs_shell_replies.specs.ErrorLines.{refusal_text}
use Rattle.cs_shell_replies.specs.Replies.{Reply, replies_text}
use Rattle.cs_shell_script.specs.Runs.{SCRIPT_LIMIT, unended, LinesGive, EndsText, EndsFront, EndsOverrun, Overruns, Ends, Runs, EndsUnwritten, at_line, at_last_line, at_overrun}
use Rattle.cs_shell_script.specs.Progress.{IsFresh, Running, running, Progress, Advances, Breaks, Finishes, Unfinished, HasRead, ReadsText}
use Rattle.cs_shell_script.proofs.ProgressLemmas.{Progress-start, AppendsFront-behind}

Consumes-nothing : (bytes : Option (List ℕ)) → Consumes bytes bytes []
Consumes-nothing None = tt
Consumes-nothing (Some text) = refl

-- nothing is read yet
pub HasRead-start : {M R W : Type 0} (remaining : R → Option (List ℕ)) (contents : W → Option (List ℕ)) (gives : M → List ℕ → Reply → M → Type 0) (interpreter : M) (script : RunningScript) (input : Told R) (out : Told W) → IsFresh script
    → HasRead remaining contents gives (running interpreter script) (running interpreter script) input input out out 0
HasRead-start remaining contents gives interpreter script input out fresh = record {
  text = [];
  consumed = Consumes-nothing (known remaining input);
  counted = refl;
  within = omega arith;
  progress = Progress-start gives interpreter script (known contents out) fresh;
}

-- a piece more is read and run
pub HasRead-more : {M R W : Type 0} (remaining : R → Option (List ℕ)) (contents : W → Option (List ℕ)) (gives : M → List ℕ → Reply → M → Type 0) (old mid new : Running M) (a b c : Told R) (x y z : Told W) (count : ℕ)
    (piece : List ℕ) → HasRead remaining contents gives old mid a b x y count → Consumes (known remaining b) (known remaining c) piece → Advances contents gives mid new y z piece
    → length piece ≤ SCRIPT_LIMIT - count → HasRead remaining contents gives old new a c x z (count + length piece)
HasRead-more remaining contents gives old mid new a b c x y z count piece r consumed advances room =
    let counted = r.counted in
    let within = r.within in record {
      text = r.text ++ piece;
      consumed = Consumes-trans (known remaining a) (known remaining b) (known remaining c) r.text piece r.consumed consumed;
      counted = length-append r.text piece ∙ ap (λ n. n + length piece) counted;
      within = omega arith;
      progress = advances.progress old.interpreter r.text (known contents x) r.progress;
    }

-- the input is at its end
pub HasRead-end : {M R W : Type 0} (remaining : R → Option (List ℕ)) (contents : W → Option (List ℕ)) (gives : M → List ℕ → Reply → M → Type 0) (old new : Running M) (a b c : Told R) (x y : Told W) (count : ℕ)
    (piece : List ℕ) → HasRead remaining contents gives old new a b x y count → Consumes (known remaining b) (known remaining c) piece → length piece ≡ 0 → IsAtEnd (known remaining c)
    → ReadsText remaining contents gives old new a c x y
HasRead-end remaining contents gives old new a b c x y count piece r consumed none at_end = record {
  count = count;
  read = record {
    text = r.text;
    consumed = subst (λ l. Consumes (known remaining a) (known remaining c) l) (ap (λ l. r.text ++ l) (nothing piece none) ∙ append-nil r.text)
        (Consumes-trans (known remaining a) (known remaining b) (known remaining c) r.text piece r.consumed consumed);
    counted = r.counted;
    within = r.within;
    progress = r.progress;
  };
  at_end = at_end;
}
  where
    nothing : (l : List ℕ) → length l ≡ 0 → l ≡ []
    nothing [] is = refl
    nothing (b ∷ bytes) is = absurd (omega (arith, is))

Consumes-kept : (a b c : Option (List ℕ)) (text : List ℕ) → Consumes a b text → Keeps b c → Consumes a c text
Consumes-kept None b c text p q = tt
Consumes-kept (Some l) None c text p q = absurd p
Consumes-kept (Some l) (Some m) None text p q = absurd q
Consumes-kept (Some l) (Some m) (Some n) text p q = p ∙ ap (λ k. text ++ k) (sym q)

-- a read fails
pub Runs-input : {M R W : Type 0} (remaining : R → Option (List ℕ)) (contents : W → Option (List ℕ)) (gives : M → List ℕ → Reply → M → Type 0) (old new : Running M) (a b c : Told R) (x y : Told W) (count : ℕ)
    → HasRead remaining contents gives old new a b x y count → Keeps (known remaining b) (known remaining c) → IsTrue (has_failed c)
    → Runs remaining contents gives InputFault old.interpreter new.interpreter a c x y
Runs-input remaining contents gives old new a b c x y count r kept failed =
    let counted = r.counted in
    let within = r.within in record {
      text = r.text;
      consumed = Consumes-kept (known remaining a) (known remaining b) (known remaining c) r.text r.consumed kept;
      bounded = omega arith;
      at_end = tt;
      ended = record {
        short = omega arith;
        replies = r.progress.replies;
        answers = record { lines = r.progress.lines; last = r.progress.last; splits = r.progress.splits; given = r.progress.given };
        written = r.progress.written;
      };
      flagged = failed;
    }

-- a write fails for a line of a piece that was read
pub Runs-broken : {M R W : Type 0} (remaining : R → Option (List ℕ)) (contents : W → Option (List ℕ)) (gives : M → List ℕ → Reply → M → Type 0) (old mid new : Running M) (a b c : Told R) (x y z : Told W) (count : ℕ)
    (piece bytes more : List ℕ) → HasRead remaining contents gives old mid a b x y count → Consumes (known remaining b) (known remaining c) piece → length piece ≤ SCRIPT_LIMIT - count + 1 → piece ≡ bytes ++ more → length bytes ≤ SCRIPT_LIMIT - count
    → Breaks contents gives mid new y z bytes → IsTrue (has_failed z) → Runs remaining contents gives OutputFault old.interpreter new.interpreter a c x z
Runs-broken remaining contents gives old mid new a b c x y z count piece bytes more r consumed room whole within_limit breaks failed =
    let counted = r.counted in
    let within = r.within in
    let broken = breaks.broken old.interpreter r.text (known contents x) r.progress in
    let parts = sym (length-append r.text bytes) ∙ ap length broken.whole ∙ length-append broken.front broken.rest in record {
      text = r.text ++ piece;
      consumed = Consumes-trans (known remaining a) (known remaining b) (known remaining c) r.text piece r.consumed consumed;
      bounded = omega (arith, length-append r.text piece);
      at_end = tt;
      ended = subst (EndsUnwritten contents gives old.interpreter new.interpreter x z (known remaining c))
          (sym (ap (λ l. r.text ++ l) whole ∙ sym (append_assoc r.text bytes more) ∙ ap (λ l. l ++ more) broken.whole ∙ append_assoc broken.front broken.rest more))
          (at_line broken.front (broken.rest ++ more) broken.replies (omega arith) broken.answers broken.written);
      flagged = failed;
    }

-- what a byte too many says of the text
overruns : {M W : Type 0} (contents : W → Option (List ℕ)) (gives : M → List ℕ → Reply → M → Type 0) (start : M) (new : Running M) (first after : Option (List ℕ)) (text piece : List ℕ) (left : ℕ)
    → (p : Progress gives start (text ++ take left piece) first after new) → length text + left ≡ SCRIPT_LIMIT → left < length piece → Overruns gives start new.interpreter (text ++ piece) p.replies
overruns contents gives start new first after text piece left p full over =
    let taken = length-take-le left piece (omega arith) in
    let passed = length-drop left piece in record {
      front = text ++ take left piece;
      rest = drop left piece;
      whole = ap (λ l. text ++ l) (sym (take-append-drop left piece)) ∙ sym (append_assoc text (take left piece) (drop left piece));
      full = length-append text (take left piece) ∙ omega arith;
      more = λ none. let count_is = ap length none in absurd (omega arith);
      answers = record { lines = p.lines; last = p.last; splits = p.splits; given = p.given };
    }

-- a byte too many is read: the bytes in front of it are run, and the error line is written
pub Runs-overrun : {M R W : Type 0} (remaining : R → Option (List ℕ)) (contents : W → Option (List ℕ)) (gives : M → List ℕ → Reply → M → Type 0) (old mid new : Running M) (a b c : Told R) (x y z w : Told W) (count : ℕ)
    (piece : List ℕ) → HasRead remaining contents gives old mid a b x y count → Consumes (known remaining b) (known remaining c) piece → length piece ≤ SCRIPT_LIMIT - count + 1
    → SCRIPT_LIMIT - count < length piece → Advances contents gives mid new y z (take (SCRIPT_LIMIT - count) piece) → Appends (known contents z) (known contents w) (refusal_text ScriptTooLong)
    → Runs remaining contents gives TooLong old.interpreter new.interpreter a c x w
Runs-overrun remaining contents gives old mid new a b c x y z w count piece r consumed room over advances written =
    let counted = r.counted in
    let within = r.within in
    let p = advances.progress old.interpreter r.text (known contents x) r.progress in record {
      text = r.text ++ piece;
      consumed = Consumes-trans (known remaining a) (known remaining b) (known remaining c) r.text piece r.consumed consumed;
      bounded = omega (arith, length-append r.text piece);
      at_end = tt;
      ended = record {
        replies = p.replies;
        overruns = overruns contents gives old.interpreter new (known contents x) (known contents z) r.text piece (SCRIPT_LIMIT - count) p (omega arith) over;
        written = Appends-trans (known contents x) (known contents z) (known contents w) (replies_text p.replies) (refusal_text ScriptTooLong) p.written written;
      };
      flagged = tt;
    }

-- and the error line is not
pub Runs-overrun-broken : {M R W : Type 0} (remaining : R → Option (List ℕ)) (contents : W → Option (List ℕ)) (gives : M → List ℕ → Reply → M → Type 0) (old mid new : Running M) (a b c : Told R) (x y z w : Told W)
    (count : ℕ) (piece : List ℕ) → HasRead remaining contents gives old mid a b x y count → Consumes (known remaining b) (known remaining c) piece → length piece ≤ SCRIPT_LIMIT - count + 1
    → SCRIPT_LIMIT - count < length piece → Advances contents gives mid new y z (take (SCRIPT_LIMIT - count) piece) → AppendsFront (known contents z) (known contents w) (refusal_text ScriptTooLong)
    → IsTrue (has_failed w) → Runs remaining contents gives OutputFault old.interpreter new.interpreter a c x w
Runs-overrun-broken remaining contents gives old mid new a b c x y z w count piece r consumed room over advances written failed =
    let counted = r.counted in
    let within = r.within in
    let p = advances.progress old.interpreter r.text (known contents x) r.progress in record {
      text = r.text ++ piece;
      consumed = Consumes-trans (known remaining a) (known remaining b) (known remaining c) r.text piece r.consumed consumed;
      bounded = omega (arith, length-append r.text piece);
      at_end = tt;
      ended = at_overrun (r.text ++ piece) p.replies (overruns contents gives old.interpreter new (known contents x) (known contents z) r.text piece (SCRIPT_LIMIT - count) p (omega arith) over)
          (AppendsFront-behind (known contents x) (known contents z) (known contents w) (replies_text p.replies) (refusal_text ScriptTooLong) p.written written);
      flagged = failed;
    }

-- a text that is read and run, and whose last line is run
pub Runs-finished : {M R W : Type 0} (remaining : R → Option (List ℕ)) (contents : W → Option (List ℕ)) (gives : M → List ℕ → Reply → M → Type 0) (old mid new : Running M) (a b : Told R) (x y z : Told W)
    → ReadsText remaining contents gives old mid a b x y → Finishes contents gives mid new y z
    → Runs remaining contents gives (if new.has_refused then LinesRefused else Done) old.interpreter new.interpreter a b x z
Runs-finished remaining contents gives old mid new a b x y z r finishes =
    let counted = r.read.counted in
    let within = r.read.within in
    let ended = finishes.answered old.interpreter r.read.text (known contents x) r.read.progress in
    elim new.has_refused as (λ h. new.has_refused ≡ h → Runs remaining contents gives (if h then LinesRefused else Done) old.interpreter new.interpreter a b x z) [
      | true ↦ λ is. record {
        text = r.read.text;
        consumed = r.read.consumed;
        bounded = omega arith;
        at_end = r.at_end;
        ended = record { short = omega arith; replies = ended.0; answers = ended.1; written = ended.2; refused = ended.3 ∙ is };
        flagged = tt;
      }
      | false ↦ λ is. record {
        text = r.read.text;
        consumed = r.read.consumed;
        bounded = omega arith;
        at_end = r.at_end;
        ended = record { short = omega arith; replies = ended.0; answers = ended.1; written = ended.2; refused = ended.3 ∙ is };
        flagged = tt;
      }
    ] refl

-- and a write fails for its last line
pub Runs-unfinished : {M R W : Type 0} (remaining : R → Option (List ℕ)) (contents : W → Option (List ℕ)) (gives : M → List ℕ → Reply → M → Type 0) (old mid new : Running M) (a b : Told R) (x y z : Told W)
    → ReadsText remaining contents gives old mid a b x y → Unfinished contents gives mid new y z → IsTrue (has_failed z) → Runs remaining contents gives OutputFault old.interpreter new.interpreter a b x z
Runs-unfinished remaining contents gives old mid new a b x y z r unfinished failed =
    let counted = r.read.counted in
    let within = r.read.within in
    let ended = unfinished.answered old.interpreter r.read.text (known contents x) r.read.progress in record {
      text = r.read.text;
      consumed = r.read.consumed;
      bounded = omega arith;
      at_end = tt;
      ended = at_last_line r.read.text ended.0 (omega arith) r.at_end ended.1 ended.2;
      flagged = failed;
    }

-- the same run, with a status that is reported otherwise
pub Runs-told : {R W S : Type 0} (remaining : R → Option (List ℕ)) (contents : W → Option (List ℕ)) (gives : S → List ℕ → Reply → S → Type 0) (one status : Status) (start final : S) (a b : Told R) (x y : Told W)
    → one ≡ status → Runs remaining contents gives one start final a b x y → Runs remaining contents gives status start final a b x y
Runs-told remaining contents gives one status start final a b x y same runs =
    subst (λ s. Runs remaining contents gives s start final a b x y) same runs

-- ---- states that are seen otherwise

-- what was answered from the one state to the other, and what holds of any two states between which the same is
-- answered
pub record Answered {S T : Type 0} (gives : S → List ℕ → Reply → S → Type 0) (shows : T → List ℕ → Reply → T → Type 0) (start final : S) (Holds : T → T → Type 0) : Type 0 where
  pub lines : List (List ℕ)
  pub replies : List Reply
  pub given : LinesGive gives start lines replies final
  pub seen : (first last : T) → LinesGive shows first lines replies last → Holds first last

module _ {W S T : Type 0} (contents : W → Option (List ℕ)) (gives : S → List ℕ → Reply → S → Type 0) (shows : T → List ℕ → Reply → T → Type 0) (start final : S) (x y : Told W) where
  EndsText-answered : (text : List ℕ) (some_refused : Bool) → EndsText contents gives start final x y text some_refused
      → Answered gives shows start final (λ first last. EndsText contents shows first last x y text some_refused)
  EndsText-answered text some_refused e = record {
    lines = e.answers.lines ++ unended e.answers.last;
    replies = e.replies;
    given = e.answers.given;
    seen = λ first last given. record {
      short = e.short;
      replies = e.replies;
      answers = record { lines = e.answers.lines; last = e.answers.last; splits = e.answers.splits; given = given };
      written = e.written;
      refused = e.refused;
    };
  }

  EndsFront-answered : (text : List ℕ) → EndsFront contents gives start final x y text → Answered gives shows start final (λ first last. EndsFront contents shows first last x y text)
  EndsFront-answered text e = record {
    lines = e.answers.lines;
    replies = e.replies;
    given = e.answers.given;
    seen = λ first last given. record {
      short = e.short;
      replies = e.replies;
      answers = record { lines = e.answers.lines; last = e.answers.last; splits = e.answers.splits; given = given };
      written = e.written;
    };
  }

  overrun_seen : (text : List ℕ) (replies : List Reply) (o : Overruns gives start final text replies) (first last : T) → LinesGive shows first o.answers.lines replies last → Overruns shows first last text replies
  overrun_seen text replies o first last given = record {
    front = o.front;
    rest = o.rest;
    whole = o.whole;
    full = o.full;
    more = o.more;
    answers = record { lines = o.answers.lines; last = o.answers.last; splits = o.answers.splits; given = given };
  }

  EndsOverrun-answered : (text : List ℕ) → EndsOverrun contents gives start final x y text → Answered gives shows start final (λ first last. EndsOverrun contents shows first last x y text)
  EndsOverrun-answered text e = record {
    lines = e.overruns.answers.lines;
    replies = e.replies;
    given = e.overruns.answers.given;
    seen = λ first last given. record { replies = e.replies; overruns = overrun_seen text e.replies e.overruns first last given; written = e.written };
  }

  EndsUnwritten-answered : (left : Option (List ℕ)) (text : List ℕ) → EndsUnwritten contents gives start final x y left text
      → Answered gives shows start final (λ first last. EndsUnwritten contents shows first last x y left text)
  EndsUnwritten-answered left text (at_line front rest replies short answers written) = record {
    lines = answers.lines;
    replies = replies;
    given = answers.given;
    seen = λ first last given. at_line front rest replies short (record { lines = answers.lines; last = answers.last; splits = answers.splits; given = given }) written;
  }
  EndsUnwritten-answered left text (at_last_line whole replies short at_end answers written) = record {
    lines = answers.lines ++ unended answers.last;
    replies = replies;
    given = answers.given;
    seen = λ first last given. at_last_line whole replies short at_end (record { lines = answers.lines; last = answers.last; splits = answers.splits; given = given }) written;
  }
  EndsUnwritten-answered left text (at_overrun whole replies over written) = record {
    lines = over.answers.lines;
    replies = replies;
    given = over.answers.given;
    seen = λ first last given. at_overrun whole replies (overrun_seen whole replies over first last given) written;
  }

  Ends-answered : (status : Status) (left : Option (List ℕ)) (text : List ℕ) → Ends contents gives status start final x y left text
      → Answered gives shows start final (λ first last. Ends contents shows status first last x y left text)
  Ends-answered Done left text e = EndsText-answered text false e
  Ends-answered LinesRefused left text e = EndsText-answered text true e
  Ends-answered TooLong left text e = EndsOverrun-answered text e
  Ends-answered InputFault left text e = EndsFront-answered text e
  Ends-answered OutputFault left text e = EndsUnwritten-answered left text e

-- the lines that a run answered, and the same run of what is seen of its states
pub Runs-answered : {R W S T : Type 0} (remaining : R → Option (List ℕ)) (contents : W → Option (List ℕ)) (gives : S → List ℕ → Reply → S → Type 0) (shows : T → List ℕ → Reply → T → Type 0) (status : Status) (start final : S)
    (a b : Told R) (x y : Told W) → Runs remaining contents gives status start final a b x y → Answered gives shows start final (λ first last. Runs remaining contents shows status first last a b x y)
Runs-answered remaining contents gives shows status start final a b x y runs =
    let ends = Ends-answered contents gives shows start final x y status (known remaining b) runs.text runs.ended in
    record {
      lines = ends.lines;
      replies = ends.replies;
      given = ends.given;
      seen = λ first last given. record {
        text = runs.text;
        consumed = runs.consumed;
        bounded = runs.bounded;
        at_end = runs.at_end;
        ended = ends.seen first last given;
        flagged = runs.flagged;
      };
    }
