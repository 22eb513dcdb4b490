-- What the settings of `.apply` set, and the words that set it.
use Rattle.std.proofs.Common.{◌≡◌, ◌≢◌, ◌⊎◌, inl, inr, ℕ, zero, suc, List, [], ◌∷◌, map, Contains, Option, Some, None, option_map, Bool, true, false, refl, sym, ap, subst, ◌∙◌, true≢false, arith}
use Rattle.std.specs.Prelude.{AllPairs, if◌then◌else◌, unwrap_or}
use Rattle.std.specs.List.{AllByRecursion}
use Rattle.std.specs.Str.{bytes_eq}
use Rattle.std.proofs.lemmas.Slice.Eq.{bytes_eq-Decides}
use Rattle.cs_value.proofs.ListLemmas.{PairsByRecursion, recursion_from_AllPairs, AllByRecursion-weaker}
use Rattle.cs_apply_conflict_kinds.specs.declared.conflict.Kind.{Kind}
use Rattle.cs_apply_conflict_kinds.specs.declared.conflict.Kind.TheVariants as kind
use Rattle.cs_apply_conflict_kinds.specs.declared.conflict.Choice.{Choice}
use Rattle.cs_apply_conflict_kinds.specs.declared.conflict.Choice.TheVariants as choice
use Rattle.cs_apply_conflict_kinds.specs.declared.conflict.Noop.{Noop}
use Rattle.cs_apply_conflict_kinds.specs.declared.conflict.Noop.TheVariants.{Report, Ignore}
use Rattle.cs_shell_grammar.specs.declared.dot.Settings.{Settings}
use Rattle.cs_shell_grammar.specs.Commands.{Apply, Setting, ForKind, ForNoop, option_of, setting_text, IsChosen}
use Rattle.cs_shell_tokens.specs.Faults.{and_then}
use Rattle.cs_shell_tokens.specs.Words.{Words, slot_in}
use Rattle.cs_shell_grammar.specs.DotReading.{chosen_in, noop_in, when_none, or_else, setting_in, settings_in, no_settings, apply_in}
use Rattle.cs_shell_grammar.proofs.StatementLaws.{then_some}

-- ---- one option

pub same_bytes : (xs ys : List ℕ) → bytes_eq xs ys ≡ true → xs ≡ ys
same_bytes xs ys h = (bytes_eq-Decides xs ys).0 h

other_bytes : (xs ys : List ℕ) → bytes_eq xs ys ≡ false → xs ≢ ys
other_bytes xs ys h e = true≢false (sym ((bytes_eq-Decides xs ys).1 e) ∙ h)

-- what the option of a setting is set to so far, and with one more setting
abbrev pub at : Settings → Setting → Option Setting
at s (ForKind kind.Data c) = option_map (ForKind kind.Data) s.on_data
at s (ForKind kind.NotFound c) = option_map (ForKind kind.NotFound) s.on_notfound
at s (ForKind kind.Conflict c) = option_map (ForKind kind.Conflict) s.on_conflict
at s (ForKind kind.Constraint c) = option_map (ForKind kind.Constraint) s.on_constraint
at s (ForNoop n) = option_map ForNoop s.noop

abbrev pub put : Settings → Setting → Settings
put s (ForKind kind.Data c) = record s { on_data = Some c }
put s (ForKind kind.NotFound c) = record s { on_notfound = Some c }
put s (ForKind kind.Conflict c) = record s { on_conflict = Some c }
put s (ForKind kind.Constraint c) = record s { on_constraint = Some c }
put s (ForNoop n) = record s { noop = Some n }

none_at : (y : Setting) → at no_settings y ≡ None
none_at (ForKind kind.Data c) = refl
none_at (ForKind kind.NotFound c) = refl
none_at (ForKind kind.Conflict c) = refl
none_at (ForKind kind.Constraint c) = refl
none_at (ForNoop n) = refl

-- a setting is of the same option, and is what that is set to, or it changes nothing there
abbrev Changes : Settings → Setting → Setting → Type 0
Changes s x y = ((option_of x ≡ option_of y) × (at (put s x) y ≡ Some x)) ⊎ ((option_of x ≢ option_of y) × (at (put s x) y ≡ at s y))

changes : (s : Settings) (x y : Setting) → Changes s x y
changes s (ForKind kind.Data c) (ForKind kind.Data d) = inl (refl, refl)
changes s (ForKind kind.NotFound c) (ForKind kind.NotFound d) = inl (refl, refl)
changes s (ForKind kind.Conflict c) (ForKind kind.Conflict d) = inl (refl, refl)
changes s (ForKind kind.Constraint c) (ForKind kind.Constraint d) = inl (refl, refl)
changes s (ForNoop n) (ForNoop m) = inl (refl, refl)
changes s (ForNoop n) (ForKind kind.Data d) = inr (other_bytes _ _ refl, refl)
changes s _ _ = inr (other_bytes _ _ refl, refl)

put_same : (s : Settings) (x : Setting) → at (put s x) x ≡ Some x
put_same s x = go (changes s x x)
  where
    go : Changes s x x → at (put s x) x ≡ Some x
    go (inl e) = e.1
    go (inr e) = absurd (e.0 refl)

put_other : (s : Settings) (x y : Setting) → option_of x ≢ option_of y → at (put s x) y ≡ at s y
put_other s x y other = go (changes s x y)
  where
    go : Changes s x y → at (put s x) y ≡ at s y
    go (inl e) = absurd (other e.0)
    go (inr e) = e.1

-- ---- one word

pub none_some : {X : Type 0} (x : X) → None ≡ Some x → ⊥
none_some x h = cc

pub some_same : {X : Type 0} (x y : X) → Some x ≡ Some y → x ≡ y
some_same x y h = cc

when_unset : {X : Type 0} (o : X → Setting) (t : Settings) (q : Option X) → option_map o q ≡ None → when_none q t ≡ Some t
when_unset o t None none = refl
when_unset o t (Some x) none = absurd (none_some (o x) (sym none))

-- a setting is read, where its option is not set
word_read : (s : Settings) (x : Setting) → at s x ≡ None → setting_in s (setting_text x) ≡ Some (put s x)
unfolding setting_in
word_read s (ForKind kind.Data choice.Omit) none = when_unset (ForKind kind.Data) _ s.on_data none
word_read s (ForKind kind.Data choice.Replace) none = when_unset (ForKind kind.Data) _ s.on_data none
word_read s (ForKind kind.Data choice.Abort) none = when_unset (ForKind kind.Data) _ s.on_data none
word_read s (ForKind kind.NotFound choice.Omit) none = when_unset (ForKind kind.NotFound) _ s.on_notfound none
word_read s (ForKind kind.NotFound choice.Replace) none = when_unset (ForKind kind.NotFound) _ s.on_notfound none
word_read s (ForKind kind.NotFound choice.Abort) none = when_unset (ForKind kind.NotFound) _ s.on_notfound none
word_read s (ForKind kind.Conflict choice.Omit) none = when_unset (ForKind kind.Conflict) _ s.on_conflict none
word_read s (ForKind kind.Constraint choice.Omit) none = when_unset (ForKind kind.Constraint) _ s.on_constraint none
word_read s (ForKind kind.Conflict choice.Replace) none = when_unset (ForKind kind.Conflict) _ s.on_conflict none
word_read s (ForKind kind.Constraint choice.Replace) none = when_unset (ForKind kind.Constraint) _ s.on_constraint none
word_read s (ForKind kind.Conflict choice.Abort) none = when_unset (ForKind kind.Conflict) _ s.on_conflict none
word_read s (ForKind kind.Constraint choice.Abort) none = when_unset (ForKind kind.Constraint) _ s.on_constraint none
word_read s (ForNoop Report) none = when_unset ForNoop _ s.noop none
word_read s (ForNoop Ignore) none = when_unset ForNoop _ s.noop none

-- the word that a choice is read from
chosen_word : (k : Kind) (w : List ℕ) (c : Choice) → chosen_in k w ≡ Some c → w ≡ setting_text (ForKind k c)
chosen_word k w c h = go _ _ _ (same_bytes w (text choice.Omit)) (same_bytes w (text choice.Replace)) (same_bytes w (text choice.Abort)) h
  where
    text : Choice → List ℕ
    text c = setting_text (ForKind k c)

    go : (p q r : Bool) → (p ≡ true → w ≡ text choice.Omit) → (q ≡ true → w ≡ text choice.Replace) → (r ≡ true → w ≡ text choice.Abort)
        → (if p then Some choice.Omit else if q then Some choice.Replace else if r then Some choice.Abort else None) ≡ Some c → w ≡ text c
    go true q r o p a h = o refl ∙ ap text (some_same choice.Omit c h)
    go false true r o p a h = p refl ∙ ap text (some_same choice.Replace c h)
    go false false true o p a h = a refl ∙ ap text (some_same choice.Abort c h)
    go false false false o p a h = absurd (none_some c h)

noop_word : (w : List ℕ) (n : Noop) → noop_in w ≡ Some n → w ≡ setting_text (ForNoop n)
noop_word w n h = go _ _ (same_bytes w (setting_text (ForNoop Report))) (same_bytes w (setting_text (ForNoop Ignore))) h
  where
    go : (p q : Bool) → (p ≡ true → w ≡ setting_text (ForNoop Report)) → (q ≡ true → w ≡ setting_text (ForNoop Ignore))
        → (if p then Some Report else if q then Some Ignore else None) ≡ Some n → w ≡ setting_text (ForNoop n)
    go true q r i h = r refl ∙ ap (λ n. setting_text (ForNoop n)) (some_same Report n h)
    go false true r i h = i refl ∙ ap (λ n. setting_text (ForNoop n)) (some_same Ignore n h)
    go false false r i h = absurd (none_some n h)

-- a word that sets what was not set
record Sets (s t : Settings) (word : List ℕ) : Type 0 where
  setting : Setting
  spelled : word ≡ setting_text setting
  unset : at s setting ≡ None
  after : t ≡ put s setting

sets_by : {X : Type 0} (o : X → Setting) (s t : Settings) (w : List ℕ) (read old : Option X) (new : X → Settings) (other : Option Settings)
    → ((x : X) → read ≡ Some x → w ≡ setting_text (o x)) → ((x : X) → at s (o x) ≡ option_map o old) → ((x : X) → new x ≡ put s (o x)) → (other ≡ Some t → Sets s t w)
    → or_else read (λ x. when_none old (new x)) other ≡ Some t → Sets s t w
sets_by o s t w None old new other spelled is puts next h = next h
sets_by o s t w (Some x) (Some y) new other spelled is puts next h = absurd (none_some t h)
sets_by o s t w (Some x) None new other spelled is puts next h = record {
  setting = o x;
  spelled = spelled x refl;
  unset = is x;
  after = sym (some_same (new x) t h) ∙ puts x;
}

setting_sets : (s t : Settings) (w : List ℕ) → setting_in s w ≡ Some t → Sets s t w
unfolding setting_in
setting_sets s t w h =
    sets_by (ForKind kind.Data) s t w (chosen_in kind.Data w) s.on_data _ _ (chosen_word kind.Data w) (λ c. refl) (λ c. refl)
    (λ h. sets_by (ForKind kind.NotFound) s t w (chosen_in kind.NotFound w) s.on_notfound _ _ (chosen_word kind.NotFound w) (λ c. refl) (λ c. refl)
    (λ h. sets_by (ForKind kind.Conflict) s t w (chosen_in kind.Conflict w) s.on_conflict _ _ (chosen_word kind.Conflict w) (λ c. refl) (λ c. refl)
    (λ h. sets_by (ForKind kind.Constraint) s t w (chosen_in kind.Constraint w) s.on_constraint _ _ (chosen_word kind.Constraint w) (λ c. refl) (λ c. refl)
    (λ h. sets_by ForNoop s t w (noop_in w) s.noop _ _ (noop_word w) (λ n. refl) (λ n. refl)
    (λ h. absurd (none_some t h)) h) h) h) h) h

-- ---- words

abbrev pub put_all : Settings → List Setting → Settings
put_all s [] = s
put_all s (x ∷ xs) = put_all (put s x) xs

-- none of the settings is of an option that is set
abbrev pub AreNew : Settings → List Setting → Type 0
AreNew s xs = AllByRecursion (λ x. at s x ≡ None) xs

-- none of them is of the option
abbrev AreOther : Setting → List Setting → Type 0
AreOther x xs = AllByRecursion (λ y. option_of x ≢ option_of y) xs

-- each option is there at most once
abbrev pub AreApart : List Setting → Type 0
AreApart xs = PairsByRecursion (λ x y. option_of x ≢ option_of y) xs

pub all_new : (xs : List Setting) → AreNew no_settings xs
all_new [] = tt
all_new (x ∷ xs) = (none_at x, all_new xs)

still_new : (s : Settings) (x : Setting) (xs : List Setting) → AreNew s xs → AreOther x xs → AreNew (put s x) xs
still_new s x [] new other = tt
still_new s x (y ∷ xs) new other = (put_other s x y other.0 ∙ new.0, still_new s x xs new.1 other.1)

pub settings_read : (s : Settings) (xs : List Setting) → AreApart xs → AreNew s xs → settings_in s (map setting_text xs) ≡ Some (put_all s xs)
unfolding settings_in
settings_read s [] are new = refl
settings_read s (x ∷ xs) are new =
    ap (λ o. and_then o (λ s. settings_in s (map setting_text xs))) (word_read s x new.0) ∙ settings_read (put s x) xs are.1 (still_new s x xs new.1 are.0)

-- words that are settings, each of an option that is not set before
pub record AreSettings (s t : Settings) (words : Words) : Type 0 where
  pub settings : List Setting
  pub spelled : words ≡ map setting_text settings
  pub unset : AreNew s settings
  pub apart : AreApart settings
  pub after : t ≡ put_all s settings

unset_before : (s : Settings) (x y : Setting) → at (put s x) y ≡ None → (option_of x ≢ option_of y) × (at s y ≡ None)
unset_before s x y none = go (changes s x y)
  where
    go : Changes s x y → (option_of x ≢ option_of y) × (at s y ≡ None)
    go (inl e) = absurd (none_some x (sym none ∙ e.1))
    go (inr e) = (e.0, sym e.1 ∙ none)

one_more : (s t : Settings) (x : Setting) (w : List ℕ) (ws : Words) → w ≡ setting_text x → at s x ≡ None → AreSettings (put s x) t ws → AreSettings s t (w ∷ ws)
one_more s t x w ws is none r = record {
  settings = x ∷ r.settings;
  spelled = ap (λ w. w ∷ ws) is ∙ ap (λ ws. setting_text x ∷ ws) r.spelled;
  unset = (none, AllByRecursion-weaker (λ y. at (put s x) y ≡ None) (λ y. at s y ≡ None) (λ y none. (unset_before s x y none).1) r.settings r.unset);
  apart = (AllByRecursion-weaker (λ y. at (put s x) y ≡ None) (λ y. option_of x ≢ option_of y) (λ y none. (unset_before s x y none).0) r.settings r.unset, r.apart);
  after = r.after;
}

pub settings_taken : (s t : Settings) (ws : Words) → settings_in s ws ≡ Some t → AreSettings s t ws
unfolding settings_in
settings_taken s t [] h = record { settings = []; spelled = refl; unset = tt; apart = tt; after = sym (some_same s t h) }
settings_taken s t (w ∷ ws) h =
    let f = then_some (setting_in s w) _ t h in
    let k = setting_sets s f.0 w f.1 in
    one_more s t k.setting w ws k.spelled k.unset (settings_taken (put s k.setting) t ws (ap (λ s. settings_in s ws) (sym k.after) ∙ f.2))

-- ---- what is chosen

first_or_later : (x : Setting) (xs : List Setting) (y : Setting) → Contains (x ∷ xs) y → (x ≡ y) ⊎ Contains xs y
first_or_later x xs y (zero, lt, is) = inl is
first_or_later x xs y (suc k, lt, is) = inr (k, omega (arith, lt), is)

is_first : (x : Setting) (xs : List Setting) (y : Setting) → x ≡ y → Contains (x ∷ xs) y
is_first x xs y is = (0, omega arith, is)

is_later : (x : Setting) (xs : List Setting) (y : Setting) → Contains xs y → Contains (x ∷ xs) y
is_later x xs y h = let lt = h.1 in (suc h.0, omega (arith, lt), h.2)

-- what an option is set to is one of the settings, or was before
came_from : (s : Settings) (xs : List Setting) (x y : Setting) → at (put_all s xs) x ≡ Some y → Contains xs y ⊎ (at s x ≡ Some y)
came_from s [] x y h = inr h
came_from s (z ∷ xs) x y h = later (came_from (put s z) xs x y h)
  where
    here : at (put s z) x ≡ Some y → Changes s z x → Contains (z ∷ xs) y ⊎ (at s x ≡ Some y)
    here h (inl e) = inl (is_first z xs y (some_same z y (sym e.1 ∙ h)))
    here h (inr e) = inr (sym e.1 ∙ h)

    later : Contains xs y ⊎ (at (put s z) x ≡ Some y) → Contains (z ∷ xs) y ⊎ (at s x ≡ Some y)
    later (inl there) = inl (is_later z xs y there)
    later (inr h) = here h (changes s z x)

untouched : (s : Settings) (x : Setting) (xs : List Setting) → AreOther x xs → at (put_all s xs) x ≡ at s x
untouched s x [] other = refl
untouched s x (y ∷ xs) other = untouched (put s y) x xs other.1 ∙ put_other s y x (λ e. other.0 (sym e))

-- and each of the settings is what its option is set to
stays : (s : Settings) (xs : List Setting) (y : Setting) → AreApart xs → Contains xs y → at (put_all s xs) y ≡ Some y
stays s [] y are there = let lt = there.1 in absurd (omega (arith, lt))
stays s (x ∷ xs) y are there = go (stays (put s x) xs y are.1) (first_or_later x xs y there)
  where
    go : (Contains xs y → at (put_all (put s x) xs) y ≡ Some y) → (x ≡ y) ⊎ Contains xs y → at (put_all (put s x) xs) y ≡ Some y
    go more (inl e) = subst (λ y. at (put_all (put s x) xs) y ≡ Some y) e (untouched (put s x) x xs are.0 ∙ put_same s x)
    go more (inr later) = more later

-- an option of the settings, by its values
module _ {X : Type 0} (option : X → Setting) (default : X) (xs : List Setting) (are : AreApart xs) where
  abbrev IsRead : Option X → Type 0
  IsRead o = (x : X) → at (put_all no_settings xs) (option x) ≡ option_map option o

  -- it is read as what is chosen
  pub chosen_of : (o : Option X) → IsRead o → IsChosen option default xs (unwrap_or o default)
  chosen_of None is = inr (refl, λ x there. none_some (option x) (sym (is x) ∙ stays no_settings xs (option x) are there))
  chosen_of (Some x) is = go (came_from no_settings xs (option x) (option x) (is x))
    where
      go : Contains xs (option x) ⊎ (at no_settings (option x) ≡ Some (option x)) → IsChosen option default xs x
      go (inl there) = inl there
      go (inr before) = absurd (none_some (option x) (sym (none_at (option x)) ∙ before))

  one_chosen : ((x y : X) → option x ≡ option y → x ≡ y) → (o : Option X) → IsRead o → (x : X) → IsChosen option default xs x → unwrap_or o default ≡ x
  one_chosen same None is x (inl there) = absurd (none_some (option x) (sym (is x) ∙ stays no_settings xs (option x) are there))
  one_chosen same None is x (inr none) = sym none.0
  one_chosen same (Some y) is x (inl there) = same y x (some_same (option y) (option x) (sym (is x) ∙ stays no_settings xs (option x) are there))
  one_chosen same (Some y) is x (inr none) = go (chosen_of (Some y) is)
    where
      go : IsChosen option default xs y → y ≡ x
      go (inl there) = absurd (none.1 y there)
      go (inr other) = other.0 ∙ sym none.0

-- ---- the command

-- what `.apply` reads after its slot
pub apply_read : (slot : List ℕ) (xs : List Setting) (d n k r : Choice) (noop : Noop) → slot_in (slot ∷ map setting_text xs) ≡ Some (slot, map setting_text xs) → AllPairs (λ x y. option_of x ≢ option_of y) xs
    → IsChosen (ForKind kind.Data) choice.Abort xs d → IsChosen (ForKind kind.NotFound) choice.Abort xs n → IsChosen (ForKind kind.Conflict) choice.Abort xs k
    → IsChosen (ForKind kind.Constraint) choice.Abort xs r → IsChosen ForNoop Report xs noop
    → apply_in (slot ∷ map setting_text xs) ≡ Some (Apply slot d n k r noop)
unfolding apply_in
apply_read slot xs d n k r noop read pairs data_is notfound_is conflict_is constraint_is noop_is =
    let are = recursion_from_AllPairs (λ x y. option_of x ≢ option_of y) xs pairs in
    let t = put_all no_settings xs in
    rw (
      read,
      settings_read no_settings xs are (all_new xs),
      one_chosen (ForKind kind.Data) choice.Abort xs are (λ x y e. cc) t.on_data (λ c. refl) d data_is,
      one_chosen (ForKind kind.NotFound) choice.Abort xs are (λ x y e. cc) t.on_notfound (λ c. refl) n notfound_is,
      one_chosen (ForKind kind.Conflict) choice.Abort xs are (λ x y e. cc) t.on_conflict (λ c. refl) k conflict_is,
      one_chosen (ForKind kind.Constraint) choice.Abort xs are (λ x y e. cc) t.on_constraint (λ c. refl) r constraint_is,
      one_chosen ForNoop Report xs are (λ x y e. cc) t.noop (λ n. refl) noop noop_is,
    ) refl
