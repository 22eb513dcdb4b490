-- Lemmas on calls that are answered one after another.
use Rattle.std.proofs.Common.{◌≡◌, ◌≢◌, ℕ, ◌+◌, ◌<◌, ◌≤◌, ltb, List, [], ◌∷◌, ◌++◌, length, take, Option, inl, inr, refl, sym, ap, subst, ◌∙◌, append_assoc, append-nil, arith, length-append}
use Rattle.std.specs.Prelude.{IsTrue}
use Rattle.std.specs.Int.{w32, to_be_bytes, from_be_bytes}
use Rattle.std.proofs.lemmas.List.Concat.{flat_map-append}
use Rattle.std.proofs.lemmas.Bool.{cond-true, cond-false, le-ltb, lt-ltb}
use Rattle.std.proofs.lemmas.Nat.{from_be_bytes-to_be_bytes_4}
use Rattle.std.specs.Io.KnownBytes.{Appends, Consumes}
use Rattle.std.proofs.KnownBytes.{Appends-nil, Appends-trans, Consumes-nil, Consumes-trans}
use Rattle.cs_file_texts.specs.declared.told.Told.{Told}
use Rattle.cs_file_texts.specs.Told.{has_failed, known}
use Rattle.cs_file_texts.specs.Calls.{AppendsFront}
use Rattle.cs_calls_parts.specs.Spelling.{option_bytes}
use Rattle.cs_calls_answers.specs.Spelling.{number_of, parts_of, refused_bytes}
use Rattle.cs_calls_server.specs.declared.frames.Ending.{Ending}
use Rattle.cs_calls_server.specs.declared.frames.Ending.TheVariants.{Done, Torn, InputFault, OutputFault, Full}
use Rattle.cs_calls_server.specs.Frames.{FRAME_LIMIT, Breaks, Stopped, Stops, frame_bytes, frames_of}
use Rattle.cs_calls_server.specs.Serving.{no_memory, too_long, sent_for, FrameGives, FramesGive, Exchanges, AreWritten, AreCut, Ends, Serves, Served}

-- the refusal for memory is sent as it is
pub sent_no_memory : sent_for no_memory ≡ no_memory
unfolding number_of parts_of refused_bytes option_bytes
sent_no_memory = refl

pub sent_fits : (answer : List ℕ) → length answer ≤ FRAME_LIMIT → sent_for answer ≡ answer
sent_fits answer fits = cond-false (ltb FRAME_LIMIT (length answer)) too_long answer (le-ltb FRAME_LIMIT (length answer) fits)

pub sent_long : (answer : List ℕ) → FRAME_LIMIT < length answer → sent_for answer ≡ too_long
sent_long answer long = cond-true (ltb FRAME_LIMIT (length answer)) too_long answer (lt-ltb FRAME_LIMIT (length answer) long)

FramesGive-append : {S : Type 0} (gives : S → List ℕ → List ℕ → S → Type 0) (a b c : S) (calls more answers others : List (List ℕ)) → FramesGive gives a calls answers b → FramesGive gives b more others c
    → FramesGive gives a (calls ++ more) (answers ++ others) c
FramesGive-append gives a b c [] more [] others p q = subst (λ s. FramesGive gives s more others c) p q
FramesGive-append gives a b c (call ∷ calls) more (answer ∷ answers) others p q = (p.0, p.1, FramesGive-append gives p.0 b c calls more answers others p.2 q)
FramesGive-append gives a b c [] more (answer ∷ answers) others p q = absurd p
FramesGive-append gives a b c (call ∷ calls) more [] others p q = absurd p

frames_more : (calls more : List (List ℕ)) → frames_of calls ++ frames_of more ≡ frames_of (calls ++ more)
frames_more calls more = sym (flat_map-append frame_bytes calls more)

joined : (calls more : List (List ℕ)) (last : List ℕ) → (frames_of calls ++ []) ++ (frames_of more ++ last) ≡ frames_of (calls ++ more) ++ last
joined calls more last =
    ap (λ l. l ++ (frames_of more ++ last)) (append-nil (frames_of calls)) ∙ sym (append_assoc (frames_of calls) (frames_of more) last) ∙ ap (λ l. l ++ last) (frames_more calls more)

Exchanges-then : {S R : Type 0} (remaining : R → Option (List ℕ)) (gives : S → List ℕ → List ℕ → S → Type 0) (a b c : S) (x y z : Told R) (calls answers more others : List (List ℕ)) (last : List ℕ)
    → Exchanges remaining gives a b x y calls answers [] → Exchanges remaining gives b c y z more others last → Exchanges remaining gives a c x z (calls ++ more) (answers ++ others) last
Exchanges-then remaining gives a b c x y z calls answers more others last p q = record {
  given = FramesGive-append gives a b c calls more answers others p.given q.given;
  consumed = subst (Consumes (known remaining x) (known remaining z)) (joined calls more last)
      (Consumes-trans (known remaining x) (known remaining y) (known remaining z) _ _ p.consumed q.consumed);
}

-- nothing was read
pub Served-start : {S R W : Type 0} (remaining : R → Option (List ℕ)) (contents : W → Option (List ℕ)) (gives : S → List ℕ → List ℕ → S → Type 0) (start : S) (input : Told R) (out : Told W)
    → Served remaining contents gives start start input input out out 0
Served-start remaining contents gives start input out = record {
  calls = [];
  answers = [];
  exchanges = record { given = refl; consumed = Consumes-nil (known remaining input) };
  written = Appends-nil (known contents out);
  counted = refl;
}

-- the answers before are written, and then others
AreWritten-then : {W : Type 0} (contents : W → Option (List ℕ)) (u v w : Told W) (answers others : List (List ℕ)) → AreWritten contents u v answers → AreWritten contents v w others → AreWritten contents u w (answers ++ others)
AreWritten-then contents u v w answers others p q =
    subst (Appends (known contents u) (known contents w)) (frames_more answers others) (Appends-trans (known contents u) (known contents v) (known contents w) _ _ p q)

-- a call more was answered
pub Served-more : {S R W : Type 0} (remaining : R → Option (List ℕ)) (contents : W → Option (List ℕ)) (gives : S → List ℕ → List ℕ → S → Type 0) (a b c : S) (x y z : Told R) (u v w : Told W) (count : ℕ)
    → Served remaining contents gives a b x y u v count → Served remaining contents gives b c y z v w 1 → Served remaining contents gives a c x z u w (count + 1)
Served-more remaining contents gives a b c x y z u v w count p q =
    let one = p.counted in
    let two = q.counted in record {
      calls = p.calls ++ q.calls;
      answers = p.answers ++ q.answers;
      exchanges = Exchanges-then remaining gives a b c x y z p.calls p.answers q.calls q.answers [] p.exchanges q.exchanges;
      written = AreWritten-then contents u v w p.answers q.answers p.written q.written;
      counted = omega (arith, length-append p.calls q.calls);
    }

AreCut-behind : {W : Type 0} (contents : W → Option (List ℕ)) (u v w : Told W) (answers others : List (List ℕ)) → AreWritten contents u v answers → AreCut contents v w others → AreCut contents u w (answers ++ others)
AreCut-behind contents u v w answers others p c = record {
  earlier = answers ++ c.earlier;
  cut = c.cut;
  all = ap (λ l. answers ++ l) c.all ∙ sym (append_assoc answers c.earlier (c.cut ∷ []));
  front = c.front;
  rest = c.rest;
  parts = c.parts;
  written = subst (Appends (known contents u) (known contents w)) (sym (append_assoc (frames_of answers) (frames_of c.earlier) c.front) ∙ ap (λ l. l ++ c.front) (frames_more answers c.earlier))
      (Appends-trans (known contents u) (known contents v) (known contents w) _ _ p c.written);
  failed = c.failed;
}

Ends-behind : {R W : Type 0} (remaining : R → Option (List ℕ)) (contents : W → Option (List ℕ)) (ending : Ending) (input : Told R) (u v w : Told W) (answers others : List (List ℕ)) (last : List ℕ) (count all : ℕ) → ending ≢ Full
    → AreWritten contents u v answers → Ends remaining contents ending input v w others last count → Ends remaining contents ending input u w (answers ++ others) last all
Ends-behind remaining contents Done input u v w answers others last count all other p e = (e.0, e.1, AreWritten-then contents u v w answers others p e.2)
Ends-behind remaining contents Torn input u v w answers others last count all other p e = (e.0, e.1, e.2, AreWritten-then contents u v w answers others p e.3)
Ends-behind remaining contents InputFault input u v w answers others last count all other p e = (e.0, e.1, AreWritten-then contents u v w answers others p e.2)
Ends-behind remaining contents OutputFault input u v w answers others last count all other p e = (e.0, AreCut-behind contents u v w answers others p e.1)
Ends-behind remaining contents Full input u v w answers others last count all other p e = absurd (other refl)

-- it ended at the next call
pub Serves-behind : {S R W : Type 0} (remaining : R → Option (List ℕ)) (contents : W → Option (List ℕ)) (gives : S → List ℕ → List ℕ → S → Type 0) (ending : Ending) (a b c : S) (x y z : Told R) (u v w : Told W) (count : ℕ) → ending ≢ Full
    → Served remaining contents gives a b x y u v count → Serves remaining contents gives ending b c y z v w → Serves remaining contents gives ending a c x z u w
Serves-behind remaining contents gives ending a b c x y z u v w count other p s = record {
  calls = p.calls ++ s.calls;
  answers = p.answers ++ s.answers;
  last = s.last;
  exchanges = Exchanges-then remaining gives a b c x y z p.calls p.answers s.calls s.answers s.last p.exchanges s.exchanges;
  ends = Ends-behind remaining contents ending z u v w p.answers s.answers s.last (length s.calls) (length (p.calls ++ s.calls)) other p.written s.ends;
}

-- it ended after so many calls
pub Serves-full : {S R W : Type 0} (remaining : R → Option (List ℕ)) (contents : W → Option (List ℕ)) (gives : S → List ℕ → List ℕ → S → Type 0) (a b : S) (x y : Told R) (u v : Told W) (count : ℕ) → count ≡ 18446744073709551615
    → Served remaining contents gives a b x y u v count → Serves remaining contents gives Full a b x y u v
Serves-full remaining contents gives a b x y u v count all p = record {
  calls = p.calls;
  answers = p.answers;
  last = [];
  exchanges = p.exchanges;
  ends = (refl, p.counted ∙ all, p.written);
}

-- ---- one frame

one_frame : (call : List ℕ) → to_be_bytes w32 (length call) ++ call ≡ frames_of (call ∷ []) ++ []
one_frame call = sym (append-nil (frame_bytes call)) ∙ sym (append-nil (frame_bytes call ++ []))

Exchanges-one : {S R : Type 0} (remaining : R → Option (List ℕ)) (gives : S → List ℕ → List ℕ → S → Type 0) (old new : S) (x y z : Told R) (call answer : List ℕ) (count : ℕ) → length call ≡ count
    → Consumes (known remaining x) (known remaining y) (to_be_bytes w32 count) → Consumes (known remaining y) (known remaining z) call → FrameGives gives old call answer new
    → Exchanges remaining gives old new x z (call ∷ []) (answer ∷ []) []
Exchanges-one remaining gives old new x y z call answer count counted head body given = record {
  given = (new, given, refl);
  consumed = subst (Consumes (known remaining x) (known remaining z)) (ap (λ n. to_be_bytes w32 n ++ call) (sym counted) ∙ one_frame call)
      (Consumes-trans (known remaining x) (known remaining y) (known remaining z) _ _ head body);
}

-- a call is answered, and its answer written
pub Served-one : {S R W : Type 0} (remaining : R → Option (List ℕ)) (contents : W → Option (List ℕ)) (gives : S → List ℕ → List ℕ → S → Type 0) (old new : S) (x y z : Told R) (u v : Told W) (call answer : List ℕ) (count : ℕ) → length call ≡ count
    → Consumes (known remaining x) (known remaining y) (to_be_bytes w32 count) → Consumes (known remaining y) (known remaining z) call → FrameGives gives old call answer new
    → Appends (known contents u) (known contents v) (frame_bytes answer) → Served remaining contents gives old new x z u v 1
Served-one remaining contents gives old new x y z u v call answer count counted head body given written = record {
  calls = call ∷ [];
  answers = answer ∷ [];
  exchanges = Exchanges-one remaining gives old new x y z call answer count counted head body given;
  written = subst (Appends (known contents u) (known contents v)) (sym (append-nil (frame_bytes answer))) written;
  counted = refl;
}

-- a call is answered, and its answer not written whole
pub Serves-unwritten : {S R W : Type 0} (remaining : R → Option (List ℕ)) (contents : W → Option (List ℕ)) (gives : S → List ℕ → List ℕ → S → Type 0) (old new : S) (x y z : Told R) (u v : Told W) (call answer : List ℕ) (count : ℕ) → length call ≡ count
    → Consumes (known remaining x) (known remaining y) (to_be_bytes w32 count) → Consumes (known remaining y) (known remaining z) call → FrameGives gives old call answer new
    → AppendsFront (known contents u) (known contents v) (frame_bytes answer) → IsTrue (has_failed v) → Serves remaining contents gives OutputFault old new x z u v
Serves-unwritten remaining contents gives old new x y z u v call answer count counted head body given front failed = record {
  calls = call ∷ [];
  answers = answer ∷ [];
  last = [];
  exchanges = Exchanges-one remaining gives old new x y z call answer count counted head body given;
  ends = (
    refl,
    record {
      earlier = [];
      cut = answer;
      all = refl;
      front = front.0;
      rest = front.1;
      parts = front.2;
      written = front.3;
      failed = failed;
    },
  );
}

-- ---- no frame

Serves-none : {S R W : Type 0} (remaining : R → Option (List ℕ)) (contents : W → Option (List ℕ)) (gives : S → List ℕ → List ℕ → S → Type 0) (ending : Ending) (state : S) (x y : Told R) (out : Told W) (last : List ℕ)
    → Consumes (known remaining x) (known remaining y) last → Ends remaining contents ending y out out [] last 0 → Serves remaining contents gives ending state state x y out out
Serves-none remaining contents gives ending state x y out last consumed ends = record {
  calls = [];
  answers = [];
  last = last;
  exchanges = record { given = refl; consumed = consumed };
  ends = ends;
}

-- the length of a frame is not read whole
pub Serves-short : {S R W : Type 0} (remaining : R → Option (List ℕ)) (contents : W → Option (List ℕ)) (gives : S → List ℕ → List ℕ → S → Type 0) (ending : Ending) (state : S) (x y : Told R) (out : Told W) (last : List ℕ) → length last < 4
    → Stops remaining ending x y last → Serves remaining contents gives ending state state x y out out
Serves-short remaining contents gives ending state x y out last short stops = Serves-none remaining contents gives ending state x y out last stops.consumed (at ending stops.stopped stops.none stops.some)
  where
    at : (e : Ending) → Stopped remaining e y → (e ≡ Done → last ≡ []) → (e ≡ Torn → last ≢ []) → Ends remaining contents e y out out [] last 0
    at Done stopped none some = (none refl, stopped, Appends-nil (known contents out))
    at Torn stopped none some = (inl short, some refl, stopped, Appends-nil (known contents out))
    at InputFault stopped none some = (inl short, stopped, Appends-nil (known contents out))
    at OutputFault stopped none some = absurd stopped
    at Full stopped none some = absurd stopped

-- four bytes of a length, and the front of the bytes after them
cut : (count : ℕ) (bytes : List ℕ) → count ≤ FRAME_LIMIT → length bytes < count → length (to_be_bytes w32 count ++ bytes) < 4 + from_be_bytes w32 (take 4 (to_be_bytes w32 count ++ bytes))
cut count bytes fits short =
    let front : take 4 (to_be_bytes w32 count ++ bytes) ≡ to_be_bytes w32 count = refl in
    let value : from_be_bytes w32 (take 4 (to_be_bytes w32 count ++ bytes)) ≡ count = ap (from_be_bytes w32) front ∙ from_be_bytes-to_be_bytes_4 count (omega arith) in
    let all = length-append (to_be_bytes w32 count) bytes in omega (arith, value, all)

-- the bytes of a call are not read whole
pub Serves-cut : {S R W : Type 0} (remaining : R → Option (List ℕ)) (contents : W → Option (List ℕ)) (gives : S → List ℕ → List ℕ → S → Type 0) (ending : Ending) (state : S) (x y z : Told R) (out : Told W) (count : ℕ) (bytes : List ℕ) → count ≤ FRAME_LIMIT
    → length bytes < count → Consumes (known remaining x) (known remaining y) (to_be_bytes w32 count) → Consumes (known remaining y) (known remaining z) bytes → Breaks remaining ending z
    → Serves remaining contents gives ending state state x z out out
Serves-cut remaining contents gives ending state x y z out count bytes fits short head body breaks =
    Serves-none remaining contents gives ending state x z out (to_be_bytes w32 count ++ bytes) (Consumes-trans (known remaining x) (known remaining y) (known remaining z) _ _ head body) (at ending breaks.0 breaks.1)
  where
    some : to_be_bytes w32 count ++ bytes ≢ []
    some is = absurd (omega (arith, ap length is, length-append (to_be_bytes w32 count) bytes))

    at : (e : Ending) → e ≢ Done → Stopped remaining e z → Ends remaining contents e z out out [] (to_be_bytes w32 count ++ bytes) 0
    at Done other stopped = absurd (other refl)
    at Torn other stopped = (inr (cut count bytes fits short), some, stopped, Appends-nil (known contents out))
    at InputFault other stopped = (inr (cut count bytes fits short), stopped, Appends-nil (known contents out))
    at OutputFault other stopped = absurd stopped
    at Full other stopped = absurd stopped
