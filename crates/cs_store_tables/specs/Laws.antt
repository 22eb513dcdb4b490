-- What calls on a store keep, one after another.
use Rattle.std.proofs.Common.{◌≡◌, ◌≤◌, inl, inr, true≢false, refl, sym, subst, IsTrue, Option, IsSome, ℕ, List, ◌∙◌, arith}
use Rattle.std.proofs.lemmas.Bool.{cases_Bool}
use Rattle.sqlite_trees.specs.declared.error.StoreError as disk
use Rattle.sqlite_trees.specs.declared.error.StoreError.TheVariants as cause
use Rattle.sqlite.specs.declared.error.Error.{Error}
use Rattle.sqlite.specs.Effect.{Database}
use Rattle.cs_rows.specs.declared.fault.Cause.{Cause}
use Rattle.sqlite_trees.specs.Tree.{Trees}
use Rattle.sqlite.specs.State.{State, Savepoint, HasCleanDisk, IsUnchanged, KeepsCounts, Survives}
use Rattle.sqlite.proofs.StateLemmas.{survives_then}
use Rattle.cs_value.specs.State as tables
use Rattle.cs_store_sql.specs.Failing.{Statement, LeadsTo, itself, by_each, CannotRead, HasDiskFailed, IsHindered, Refuses}
use Rattle.cs_store_sql.specs.Marks.{IsMarked}
use Rattle.cs_store_sql.specs.Records.{KeepsContent, KeepsCrash, Rests}
use Rattle.cs_store_sql.proofs.ContentLemmas.{crash_itself}
use Rattle.cs_store_tables.specs.Crash.{LeavesOnly}
use Rattle.cs_rows.specs.Rows.{Write}
use Rattle.cs_store_tables.specs.Failing.{BatchFails, CallFails, IsMade, IsRefused, LeadsOn, ReadFails, Writes}
use Rattle.cs_store_tables.specs.Store.{KeepsStore, tables_in}

-- an honest disk was honest before
pub was_clean : {P : Trees → Type 0} (old new : State) → Survives old new P → HasCleanDisk new → HasCleanDisk old
was_clean old new keeps clean = omega (arith, keeps.clean)

-- the content is kept by doing nothing, and by one call after another
pub content_itself : {s : State} → KeepsContent s s
content_itself {s} = record {
  was_open = λ k. k;
  mode = refl;
  inside = λ k is. is;
  now = λ k. refl;
  committed = λ k. refl;
}

pub content_then : {a b c : State} → KeepsContent a b → KeepsContent b c → KeepsContent a c
content_then {a} {b} {c} one two = record {
  was_open = λ k. one.was_open (two.was_open k);
  mode = two.mode ∙ one.mode;
  inside = λ k is. two.inside k (one.inside (subst IsTrue two.mode k) is);
  now = λ k. two.now k ∙ one.now (two.was_open k);
  committed = λ k. two.committed k ∙ one.committed (two.was_open k);
}

-- nothing changes by doing nothing, and by one call after another
pub unchanged_itself : {s : State} → IsTrue s.is_open → IsUnchanged s s
unchanged_itself {s} is_open = (
  record { was_open = is_open; is_open = is_open; now_is = refl; committed_is = refl; mode = refl },
  record { changes = refl; last_rowid = refl },
  refl,
)

counts_then : {a b c : State} → KeepsCounts a b → KeepsCounts b c → KeepsCounts a c
counts_then one two = record { changes = two.changes ∙ one.changes; last_rowid = two.last_rowid ∙ one.last_rowid }

pub unchanged_then : {a b c : State} → IsUnchanged a b → IsUnchanged b c → IsUnchanged a c
unchanged_then one two = (
  record {
    was_open = one.0.was_open;
    is_open = two.0.is_open;
    now_is = two.0.now_is ∙ one.0.now_is;
    committed_is = two.0.committed_is ∙ one.0.committed_is;
    mode = two.0.mode ∙ one.0.mode;
  },
  counts_then one.1 two.1,
  two.2 ∙ one.2,
)

-- or a failure takes the database back to the last commit
pub rests_then : {a b c : State} → Rests a b → Rests b c → Rests a c
rests_then (inl one) (inl two) = inl (unchanged_then one two)
rests_then (inl one) (inr two) = inr (record {
  was_open = λ k. one.0.was_open;
  undone = λ k. ((two.undone k).0 ∙ one.0.committed_is, (two.undone k).1 ∙ one.0.committed_is);
  autocommit = two.autocommit;
  unmarked = two.unmarked;
  counts = counts_then one.1 two.counts;
})
rests_then (inr one) (inl two) = inr (record {
  was_open = λ k. one.was_open two.0.was_open;
  undone = λ k. (two.0.now_is ∙ (one.undone two.0.was_open).0, two.0.committed_is ∙ (one.undone two.0.was_open).1);
  autocommit = two.0.mode ∙ one.autocommit;
  unmarked = two.2 ∙ one.unmarked;
  counts = counts_then one.counts two.1;
})
rests_then (inr one) (inr two) = inr (record {
  was_open = λ k. one.was_open (two.was_open k);
  undone = λ k. ((two.undone k).0 ∙ (one.undone (two.was_open k)).1, (two.undone k).1 ∙ (one.undone (two.was_open k)).1);
  autocommit = two.autocommit;
  unmarked = two.unmarked;
  counts = counts_then one.counts two.counts;
})

-- a store is kept by doing nothing
pub keeps_itself : {s : State} → KeepsStore s s
keeps_itself {s} = record {
  crash = crash_itself;
  commit = λ clean. record { was_open = λ k. k; committed = λ k. refl };
  sound = λ k. k;
  outside = λ clean out settled. content_itself;
  inside = λ clean k. k;
  marks = λ clean k was. refl;
}

-- one call after another
pub keeps_then : {a b c : State} → KeepsStore a b → KeepsStore b c → KeepsStore a c
keeps_then {a} {b} {c} one two = record {
  crash = survives_then a b c _ _ _ (λ clean db none. none) (λ clean db none. none) one.crash two.crash;
  commit = λ clean.
      let first = one.commit (was_clean b c two.crash clean) in
      let second = two.commit clean in
      record {
        was_open = λ k. first.was_open (second.was_open k);
        committed = λ k. second.committed k ∙ first.committed (second.was_open k);
      };
  sound = λ k. two.sound (one.sound k);
  outside = λ clean out settled.
      let first = one.outside (was_clean b c two.crash clean) out settled in
      let still : IsTrue b.is_open → b.now ≡ b.committed =
      λ k. first.now k ∙ settled (first.was_open k) ∙ sym (first.committed k) in
      content_then first (two.outside clean (first.mode ∙ out) still);
  inside = λ clean k. one.inside (was_clean b c two.crash clean) (two.inside clean k);
  marks = λ clean k was.
      let between = two.inside clean k in
      two.marks clean k between ∙ one.marks (was_clean b c two.crash clean) between was;
}

-- the newest mark is still it, if the transaction is still open
pub mark_stays : {a b : State} (before : List Savepoint) (db : Database) → KeepsStore a b → HasCleanDisk b → IsTrue b.in_transaction → IsMarked before db a → IsMarked before db b
mark_stays before db keeps clean inside marked = keeps.marks clean inside (keeps.inside clean inside) ∙ marked

-- and what a crash leaves only is left only
pub leaves_then : {a b : State} {Holds : tables.State → Type 0} → KeepsStore a b → LeavesOnly Holds a → LeavesOnly Holds b
leaves_then {a} {b} keeps leaves clean trees may =
    elim (keeps.crash.crash clean trees may) [
      | inl was ↦ leaves (was_clean a b keeps.crash clean) trees was
      | inr none ↦ absurd none
    ]

-- ---- accepted calls

-- the statements of one call, and then those of another
leads_to_then : {Is : Database → Statement → Type 0} {limit : Option ℕ} {a b c : Database} → LeadsTo Is limit a b → LeadsTo Is limit b c → LeadsTo Is limit a c
leads_to_then one itself = one
leads_to_then one (by_each mid new statement tally two is ends) = by_each mid new statement tally (leads_to_then one two) is ends

leads_to_so : (Is Are : tables.State → Statement → Type 0) {limit : Option ℕ} {a b : Database} → ((held : tables.State) (statement : Statement) → Is held statement → Are held statement)
    → LeadsTo (IsMade Is) limit a b → LeadsTo (IsMade Are) limit a b
leads_to_so Is Are so itself = itself
leads_to_so Is Are so (by_each mid new statement tally leads is ends) =
    by_each mid new statement tally (leads_to_so Is Are so leads) (so (tables_in mid) statement is.0, is.1) ends

pub leads_itself : {Is : tables.State → Statement → Type 0} {s : State} → LeadsOn Is s s
leads_itself = record { inside = λ is. is; leads = itself }

pub leads_on_then : {Is : tables.State → Statement → Type 0} {a b c : State} → KeepsCrash a b → LeadsOn Is a b → LeadsOn Is b c → LeadsOn Is a c
leads_on_then {Is} {a} {b} {c} keeps one two = record {
  inside = λ is. two.inside (one.inside is);
  leads = leads_to_then one.leads (subst (λ limit. LeadsTo (IsMade Is) limit b.now c.now) keeps.limit two.leads);
}

pub leads_so : (Is Are : tables.State → Statement → Type 0) {a b : State} → ((held : tables.State) (statement : Statement) → Is held statement → Are held statement) → LeadsOn Is a b → LeadsOn Are a b
leads_so Is Are so leads = record { inside = leads.inside; leads = leads_to_so Is Are so leads.leads }

-- of the statements that write the records of writes to rows
pub writes_so : (Is Are : tables.State → Write → Type 0) {a b : State} → ((held : tables.State) (write : Write) → Is held write → Are held write) → LeadsOn (Writes Is) a b → LeadsOn (Writes Are) a b
writes_so Is Are so = leads_so (Writes Is) (Writes Are) (λ held statement made. (made.0, made.1, so held made.0 made.2))

-- ---- failures

-- if the disk failed after a call, it failed between the ends of both
hindered_then : (a b c : State) (cause : disk.StoreError) → KeepsCrash a b → HasCleanDisk b → b.faults ≤ c.faults → IsHindered b c cause → IsHindered a c cause
hindered_then a b c cause.Io one clean counts more = omega (arith, one.counts, more)
hindered_then a b c cause.Corrupt one clean counts more = omega (arith, one.counts, more)
hindered_then a b c cause.Full one clean counts more = omega (arith, one.counts, more)
hindered_then a b c cause.Broken one clean counts (inl more) = inl (omega (arith, one.counts, more))
hindered_then a b c cause.Broken one clean counts (inr shut) = elim (cases_Bool a.is_open) [
  | inl is ↦ elim (one.closes clean is) [
    | inl still ↦ absurd (let e = sym still ∙ shut in cc)
    | inr more ↦ inl (omega (arith, counts, more))
  ]
  | inr was ↦ inr was
]
hindered_then a b c cause.OutOfMemory one clean counts none = absurd none
hindered_then a b c cause.Unstorable one clean counts none = absurd none

pub disk_then : (a b c : State) (e : Error) → KeepsCrash a b → HasCleanDisk b → b.faults ≤ c.faults → HasDiskFailed b c e → HasDiskFailed a c e
disk_then a b c e one clean counts failed = (failed.0, failed.1, hindered_then a b c failed.0 one clean counts failed.2)

cannot_then : (a b c : State) (e : Error) → KeepsCrash a b → HasCleanDisk b → KeepsCrash b c → CannotRead b c e → CannotRead a c e
cannot_then a b c e one clean two (inl failed) = inl (disk_then a b c e one clean two.counts failed)
cannot_then a b c e one clean two (inr limited) = inr (limited.0, subst (λ (o : Option ℕ). IsSome o) one.limit limited.1)

pub read_then : (a b c : State) (why : Cause) → KeepsCrash a b → HasCleanDisk b → KeepsCrash b c → ReadFails b c why → ReadFails a c why
read_then a b c why one clean two (e, other, fails, is) = (e, other, cannot_then a b c e one clean two fails, is)

module _ (Is : tables.State → Statement → Type 0) (a b c : State) (one : KeepsCrash a b) (clean : HasCleanDisk b) (two : KeepsCrash b c) (leads : LeadsTo (IsMade Is) a.step_limit a.now b.now) where
  refused_then : (e : Error) → IsRefused Is b.step_limit b.now e → IsRefused Is a.step_limit a.now e
  refused_then e refused = record {
    at = refused.at;
    leads = leads_to_then leads (subst (λ limit. LeadsTo (IsMade Is) limit b.now refused.at) one.limit refused.leads);
    statement = refused.statement;
    is = refused.is;
    apt = refused.apt;
    refused = subst (λ limit. Refuses limit refused.at refused.statement e) one.limit refused.refused;
  }

  pub call_then : (e : Error) → CallFails Is b c e → CallFails Is a c e
  call_then e (inl cannot) = inl (cannot_then a b c e one clean two cannot)
  call_then e (inr refused) = inr (refused_then e refused)

-- a failure after an accepted call of a batch is one between the ends of both
pub batch_then : (Is : tables.State → Statement → Type 0) (a b c : State) (why : Cause) → KeepsCrash a b → HasCleanDisk b → KeepsCrash b c → LeadsOn Is a b → BatchFails Is b c why → BatchFails Is a c why
batch_then Is a b c why one clean two leads (inl (outside, other)) = elim (cases_Bool a.in_transaction) [
  | inl inside ↦ absurd (true≢false (sym (leads.inside inside) ∙ outside))
  | inr out ↦ inl (out, other)
]
batch_then Is a b c why one clean two leads (inr (e, other, fails, is)) = inr (e, other, call_then Is a b c one clean two leads.leads e fails, is)

-- the same, with what calls of a batch's rows keep
pub batch_fails_then : (Is : tables.State → Statement → Type 0) (a b c : State) (why : Cause) → KeepsStore a b → KeepsCrash b c → (HasCleanDisk b → LeadsOn Is a b) → HasCleanDisk c → BatchFails Is b c why
    → BatchFails Is a c why
batch_fails_then Is a b c why one two leads clean failed = let was = was_clean b c two clean in batch_then Is a b c why one.crash was two (leads was) failed

-- a weaker predicate holds, too
batch_so : (Is Are : tables.State → Statement → Type 0) (a b : State) (why : Cause) → ((held : tables.State) (statement : Statement) → Is held statement → Are held statement)
    → BatchFails Is a b why → BatchFails Are a b why
batch_so Is Are a b why so (inl outside) = inl outside
batch_so Is Are a b why so (inr (e, other, inl cannot, is)) = inr (e, other, inl cannot, is)
batch_so Is Are a b why so (inr (e, other, inr refused, is)) = inr (
  e,
  other,
  inr (record {
    at = refused.at;
    leads = leads_to_so Is Are so refused.leads;
    statement = refused.statement;
    is = so (tables_in refused.at) refused.statement refused.is;
    apt = refused.apt;
    refused = refused.refused;
  }),
  is,
)

pub batch_fails_so : (Is Are : tables.State → Write → Type 0) (a b : State) (why : Cause) → ((held : tables.State) (write : Write) → Is held write → Are held write)
    → BatchFails (Writes Is) a b why → BatchFails (Writes Are) a b why
batch_fails_so Is Are a b why so = batch_so (Writes Is) (Writes Are) a b why (λ held statement made. (made.0, made.1, so held made.0 made.2))
