-- The concatenation of many files.
use Rattle.std.proofs.Common.{◌≡◌, ℕ, ◌+◌, ◌<◌, ◌≤◌, List, [], ◌∷◌, ◌++◌, length, length-append, take, drop, get_or, All, refl, sym, ap, subst, ◌∙◌, append_assoc, append-nil, arith}
use Rattle.std.proofs.lemmas.List.{drop-drop, drop_more, drop_all, length-take, length-drop, nil_from_length, take-append-drop}
use Rattle.std.proofs.lemmas.List.Elements.{All-nil}
use Rattle.cs_value.specs.declared.refusal.OrNoMemory.{OrNoMemory}
use Rattle.cs_value.specs.declared.refusal.OrNoMemory.TheVariants.{Fault, NoMemory}
use Rattle.cs_value.specs.Refusals.{Refuses}
use Rattle.cs_wire.specs.Changeset.{GroupData, IsChangeset, IsFileOf, file_bytes}
use Rattle.cs_files.specs.declared.fault.FileFault.{FileFault}
use Rattle.cs_files.specs.declared.fault.FileFault.TheVariants.{First, Second, Schema}
use Rattle.cs_files.proofs.JoiningLemmas.{joins}
use Rattle.cs_group.specs.Joining.{Agrees, AreJoinable, joined}
use Rattle.cs_group.proofs.JoinLemmas.{joined_is_changeset}
use Rattle.cs_changegroup.specs.Adding.{AddFails, HasJoined}
use Rattle.cs_changegroup.specs.Chaining.{AreLengths, ChainFails, Chains, JoinsAll, WhyNot, files_in}
use Rattle.cs_changegroup.specs.Folding.{FoldsFrom, FoldsTo, error_at}
use Rattle.cs_changegroup.specs.Slots.{HasGroups, IsPartOf, TablesView}

-- ---- folds

pub FoldsFrom-more : (start : List GroupData) (before : List (List ℕ)) (groups : List GroupData) (file : List ℕ) (others : List GroupData) → FoldsFrom start before groups → IsFileOf file others → AreJoinable groups others
    → FoldsFrom start (before ++ file ∷ []) (joined groups others)
FoldsFrom-more start [] groups file others so is joinable = (others, is, subst (λ (gs : List GroupData). AreJoinable gs others) (sym so) joinable, ap (λ (gs : List GroupData). joined gs others) so)
FoldsFrom-more start (next ∷ before) groups file others so is joinable = (so.0, so.1, so.2, FoldsFrom-more (joined start so.0) before groups file others so.3 is joinable)

joined_start : (others : List GroupData) → joined [] others ≡ others
joined_start [] = refl
joined_start (group ∷ others) = ap (λ (gs : List GroupData). group ∷ gs) (joined_start others)

folds_joins : (start : List GroupData) (file : List ℕ) (files : List (List ℕ)) (groups : List GroupData) → IsFileOf file start → FoldsFrom start files groups → JoinsAll file files (file_bytes groups)
folds_joins start file [] groups is so = is.1 ∙ ap file_bytes so
folds_joins start file (next ∷ files) groups is so =
    let others = so.0 in
    let step = joins file next (file_bytes (joined start others)) start others is so.1 so.2 refl in (
      file_bytes (joined start others),
      step.0,
      folds_joins (joined start others) (file_bytes (joined start others)) files groups (joined_is_changeset start others is.0 so.1.0 so.2, refl) so.3,
    )

-- the bytes of a fold are those of the files from the first on
pub folds_chain : (files : List (List ℕ)) (groups : List GroupData) → FoldsFrom [] files groups → Chains files (file_bytes groups)
folds_chain [] groups so = ap file_bytes (sym so)
folds_chain (first ∷ files) groups so =
    let others = so.0 in (
      (others, so.1.0, so.1.1),
      folds_joins others first files groups so.1 (subst (λ (gs : List GroupData). FoldsFrom gs files groups) (joined_start others) so.3),
    )

abbrev no_group : GroupData
no_group = record { header = record { name = []; flags = [] }; entries = [] }

pub none_changeset : IsChangeset []
none_changeset = record { each = All-nil _; once = λ i j d lt within. absurd (omega (arith, within)) }

-- no tables have no groups
pub no_groups : (files : List ℕ) (tables : TablesView) → tables.tables ≡ [] → tables.names.numbers ≡ [] → HasGroups files tables []
no_groups files tables none no_names = record {
  kept = [];
  are_tables = record {
    tables = rw none tt;
    numbers = no_names;
    once = λ i j d lt within. absurd (omega (arith, within));
  };
  groups_are = refl;
  is_changeset = none_changeset;
}

-- so many of the files are joined, and these bytes are left
pub record IsFolded (files lengths : List ℕ) (index base : ℕ) (tables : TablesView) (rest : List ℕ) : Type 0 where
  pub groups : List GroupData
  pub before : List (List ℕ)
  pub index_is : index ≡ length before
  pub files_are : files_in files lengths ≡ before ++ files_in rest (drop index lengths)
  pub folds : FoldsFrom [] before groups
  pub has : HasGroups files tables groups
  pub rest_is : rest ≡ drop base files
  pub within : base ≤ length files
  pub fewer : length (file_bytes groups) ≤ base
  pub are_lengths : AreLengths files lengths → AreLengths rest (drop index lengths)
  pub are_whole : AreLengths rest (drop index lengths) → AreLengths files lengths

pub IsFolded-none : (files lengths : List ℕ) (tables : TablesView) → HasGroups files tables [] → IsFolded files lengths 0 0 tables files
IsFolded-none files lengths tables has = record {
  groups = [];
  before = [];
  index_is = refl;
  files_are = refl;
  folds = refl;
  has = has;
  rest_is = refl;
  within = omega arith;
  fewer = omega arith;
  are_lengths = λ are. are;
  are_whole = λ are. are;
}

module _ (files lengths : List ℕ) (index base : ℕ) (tables : TablesView) (rest : List ℕ) (so : IsFolded files lengths index base tables rest) (within : index < length lengths) where
  abbrev pub count : ℕ
  count = get_or lengths index 0

  abbrev pub next_file : List ℕ
  next_file = take (get_or lengths index 0) rest

  length_is : drop index lengths ≡ get_or lengths index 0 ∷ drop (index + 1) lengths
  length_is = drop_more lengths index 0 within

  pub next_files : files_in files lengths ≡ so.before ++ take (get_or lengths index 0) rest ∷ files_in (drop (get_or lengths index 0) rest) (drop (index + 1) lengths)
  next_files = so.files_are ∙ ap (λ (ls : List ℕ). so.before ++ files_in rest ls) length_is

  rest_length : length rest + base ≡ length files
  rest_length = omega (arith, ap length so.rest_is, length-drop base files, so.within)

  -- the next file is a part of the bytes
  pub next_part : get_or lengths index 0 ≤ length rest → IsPartOf files base (take (get_or lengths index 0) rest)
  next_part le = record {
    behind = drop (get_or lengths index 0) rest;
    spelled = sym so.rest_is ∙ sym (take-append-drop (get_or lengths index 0) rest);
    within = omega (arith, le, rest_length, length-take (get_or lengths index 0) rest);
  }

  pub IsFolded-next : (grown : TablesView) → get_or lengths index 0 ≤ length rest → HasJoined files so.groups (take (get_or lengths index 0) rest) grown → IsFolded files lengths (index + 1) (base + get_or lengths index 0) grown (drop (get_or lengths index 0) rest)
  IsFolded-next grown le joined_is = record {
    groups = joined so.groups joined_is.others;
    before = so.before ++ take (get_or lengths index 0) rest ∷ [];
    index_is = omega (arith, so.index_is, length-append so.before (take (get_or lengths index 0) rest ∷ []));
    files_are = next_files ∙ sym (append_assoc so.before (take (get_or lengths index 0) rest ∷ []) (files_in (drop (get_or lengths index 0) rest) (drop (index + 1) lengths)));
    folds = FoldsFrom-more [] so.before so.groups (take (get_or lengths index 0) rest) joined_is.others so.folds joined_is.is_file joined_is.joinable;
    has = joined_is.has;
    rest_is = ap (drop (get_or lengths index 0)) so.rest_is ∙ drop-drop (get_or lengths index 0) base files;
    within = omega (arith, le, rest_length);
    fewer =
        let step = (joins (file_bytes so.groups) (take (get_or lengths index 0) rest) (file_bytes (joined so.groups joined_is.others)) so.groups joined_is.others (so.has.is_changeset, refl) joined_is.is_file joined_is.joinable refl).1 in
        omega (arith, step, so.fewer, le, length-take (get_or lengths index 0) rest);
    are_lengths = λ are. (subst (AreLengths rest) length_is (so.are_lengths are)).1;
    are_whole = λ are. so.are_whole (subst (AreLengths rest) (sym length_is) (le, are));
  }

  -- why the next file is not added
  why_not : (before : List (List ℕ)) → FoldsFrom [] before so.groups → (error : OrNoMemory FileFault) → Refuses (AddFails so.groups next_file) error → Refuses (WhyNot before (file_bytes so.groups) next_file) (error_at (length before) error)
  why_not [] folds NoMemory why = tt
  why_not [] folds (Fault (First fault)) why = why
  why_not [] folds (Fault (Second fault)) why = absurd why
  why_not [] folds (Fault (Schema fault)) why = absurd (why.2.clash no_group (subst (All (Agrees (get_or why.0 fault.place no_group))) folds (All-nil (Agrees (get_or why.0 fault.place no_group)))))
  why_not (first ∷ before) folds NoMemory why = tt
  why_not (first ∷ before) folds (Fault (First fault)) why = ((so.groups, so.has.is_changeset, refl), why)
  why_not (first ∷ before) folds (Fault (Second fault)) why = absurd why
  why_not (first ∷ before) folds (Fault (Schema fault)) why = record {
    changeset = so.groups;
    other = why.0;
    are_files = record { is_changeset = so.has.is_changeset; is_file = refl; other_is_changeset = why.1.0; other_is_file = why.1.1 };
    clash = why.2;
  }

  pub IsFolded-refused : (error : OrNoMemory FileFault) → Refuses (AddFails so.groups (take (get_or lengths index 0) rest)) error → Refuses (ChainFails (files_in files lengths) index) (error_at index error)
  IsFolded-refused error why = by (error_at index error) (subst (λ (i : ℕ). Refuses (WhyNot so.before (file_bytes so.groups) next_file) (error_at i error)) (sym so.index_is) (why_not so.before so.folds error why))
    where
      by : (placed : OrNoMemory FileFault) → Refuses (WhyNot so.before (file_bytes so.groups) next_file) placed → Refuses (ChainFails (files_in files lengths) index) placed
      by NoMemory why = tt
      by (Fault fault) why = record {
        before = so.before;
        file = take (get_or lengths index 0) rest;
        behind = files_in (drop (get_or lengths index 0) rest) (drop (index + 1) lengths);
        files_are = next_files;
        index_is = so.index_is;
        joined = file_bytes so.groups;
        chained = folds_chain so.before so.groups so.folds;
        fails = why;
      }

  -- a length that is too large
  pub IsFolded-short : length rest < get_or lengths index 0 → AreLengths files lengths → ⊥
  IsFolded-short short are =
      let le = (subst (AreLengths rest) length_is (so.are_lengths are)).0 in
      omega (arith, le, short)

-- all files are joined
module _ (files lengths : List ℕ) (index base : ℕ) (tables : TablesView) (rest : List ℕ) (so : IsFolded files lengths index base tables rest) (over : length lengths ≤ index) where
  none_left : drop index lengths ≡ []
  none_left = drop_all index lengths over

  pub IsFolded-all : FoldsTo files lengths tables
  IsFolded-all = record {
    groups = so.groups;
    folds = subst (λ (fs : List (List ℕ)). FoldsFrom [] fs so.groups) (sym (so.files_are ∙ ap (λ (ls : List ℕ). so.before ++ files_in rest ls) none_left ∙ append-nil so.before)) so.folds;
    has = so.has;
    fewer = omega (arith, so.fewer, so.within);
  }

  pub IsFolded-whole : length rest ≤ 0 → AreLengths files lengths
  IsFolded-whole none = so.are_whole (subst (AreLengths rest) (sym none_left) (nil_from_length rest (omega arith)))

  pub IsFolded-over : 0 < length rest → AreLengths files lengths → ⊥
  IsFolded-over some are =
      let none : rest ≡ [] = subst (AreLengths rest) none_left (so.are_lengths are) in
      omega (arith, some, ap length none)

-- a fold of a changeset is one
pub fold_changeset : (start : List GroupData) (files : List (List ℕ)) (groups : List GroupData) → IsChangeset start → FoldsFrom start files groups → IsChangeset groups
fold_changeset start [] groups is so = subst IsChangeset so is
fold_changeset start (file ∷ files) groups is so = fold_changeset (joined start so.0) files groups (joined_is_changeset start so.0 is so.1.0 so.2) so.3
