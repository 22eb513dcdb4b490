-- `changegroup::Changegroup::add`: what it ensures.
use Rattle.std.proofs.Common.{◌≡◌, ◌++◌, ◌∷◌, [], List, ℕ, None, Some, length, take, refl, ap, sym, ◌∙◌, subst, arith}
use Rattle.cs_changegroup.specs.Adding.{HasJoined}
use Rattle.cs_changegroup.specs.Folding.{ChangegroupView, Holds}
use Rattle.cs_changegroup.specs.Slots.{HasGroups, TablesView}
use Rattle.cs_changegroup.proofs.GrowthLemmas.{Holds-more, Holds-same, Holds-with, err_then, groups_still, take_front}
use Rattle.cs_changegroup.proofs.SlotLemmas.{ok_then}
use Rattle.cs_changegroup.proofs.changegroup.Changegroup.add.Goals as goal

pub returns-in-Ok-clause-added : goal.returns-in-Ok-clause-added
returns-in-Ok-clause-added c = λ groups old.
    let self = c.reserve.new.self in
    let holds : Holds self groups = rw c.reserve.ensures old in
    let inside = c.self.inside in
    let file = c.args.file.now in
    let files : inside.files.items ≡ self.files = ap (λ (v : ChangegroupView). v.files) c.self.view_is ∙ c.take_tables.ensures.files.0 in
    let lengths : inside.lengths.items ≡ self.lengths = ap (λ (v : ChangegroupView). v.lengths) c.self.view_is ∙ c.take_tables.ensures.files.1 in
    let grown : c.extend_from_slice.new.self.items ≡ self.files ++ file = c.in_ok-extend_from_slice.ensures.items ∙ ap (λ (l : List ℕ). l ++ file) files in
    let whole : c.deref.result.now ≡ self.files ++ file = c.deref.ensures.value ∙ grown in
    let has : HasGroups (self.files ++ file) c.in_ok-tables.tables groups = groups_still self.files file c.in_ok-tables.tables groups (c.in_ok-tables.ensures.taken groups holds) in
    let joined_is : HasJoined (self.files ++ file) groups file c.add_file.new.self = rw whole at (c.in-Ok.ensures.joined groups (rw whole has)) in
    ok_then c.finish.result c.finish.ensures.ok
    (λ fin. record {
      others = joined_is.others;
      is_file = joined_is.is_file;
      joinable = joined_is.joinable;
      holds = Holds-same c.finish.new.self _ _ _ _ (fin.0 ∙ grown) (fin.1 ∙ ap (λ (l : List ℕ). l ++ length file ∷ []) lengths) fin.2 (Holds-more self.files self.lengths self groups file c.add_file.new.self refl refl holds joined_is);
    })

pub returns-in-Ok-clause-same : goal.returns-in-Ok-clause-same
returns-in-Ok-clause-same c = λ groups old.
    let self = c.reserve.new.self in
    let holds : Holds self groups = rw c.reserve.ensures old in
    let inside = c.self.inside in
    let file = c.args.file.now in
    let files : inside.files.items ≡ self.files = ap (λ (v : ChangegroupView). v.files) c.self.view_is ∙ c.take_tables.ensures.files.0 in
    let lengths : inside.lengths.items ≡ self.lengths = ap (λ (v : ChangegroupView). v.lengths) c.self.view_is ∙ c.take_tables.ensures.files.1 in
    let none : inside.tables ≡ None = ap (λ (v : ChangegroupView). v.tables) c.self.view_is ∙ c.take_tables.ensures.none in
    let grown : c.extend_from_slice.new.self.items ≡ self.files ++ file = c.in_ok-extend_from_slice.ensures.items ∙ ap (λ (l : List ℕ). l ++ file) files in
    let base : c.len-base.result ≡ length inside.files.items = omega (arith, c.len-base.ensures) in
    let back : take c.len-base.result c.extend_from_slice.new.self.items ≡ self.files = rw (base, files, grown) (take_front self.files file) in
    err_then c.finish.result c.finish.ensures.err
    (λ fin. Holds-same c.finish.new.self self.files self.lengths None groups (fin.0 ∙ back) (fin.1 ∙ lengths) (fin.2 ∙ none) (Holds-with self self.files self.lengths None groups refl refl holds tt))

pub returns-in-Err-Fault-clause-refused : goal.returns-in-Err-Fault-clause-refused
returns-in-Err-Fault-clause-refused c = λ groups old.
    let self = c.reserve.new.self in
    let holds : Holds self groups = rw c.reserve.ensures old in
    let file = c.args.file.now in
    let files : c.self.inside.files.items ≡ self.files = ap (λ (v : ChangegroupView). v.files) c.self.view_is ∙ c.take_tables.ensures.files.0 in
    let whole : c.deref.result.now ≡ self.files ++ file = c.deref.ensures.value ∙ c.in_ok-extend_from_slice.ensures.items ∙ ap (λ (l : List ℕ). l ++ file) files in
    let has : HasGroups (self.files ++ file) c.in_ok-tables.tables groups = groups_still self.files file c.in_ok-tables.tables groups (c.in_ok-tables.ensures.taken groups holds) in
    rw c.in-Err-Fault.field-0-is at (c.in-Err-Fault.ensures.refused groups (rw whole has))

pub returns-in-Err-Fault-clause-same : goal.returns-in-Err-Fault-clause-same
returns-in-Err-Fault-clause-same c = λ groups old.
    let self = c.reserve.new.self in
    let holds : Holds self groups = rw c.reserve.ensures old in
    let inside = c.self.inside in
    let file = c.args.file.now in
    let files : inside.files.items ≡ self.files = ap (λ (v : ChangegroupView). v.files) c.self.view_is ∙ c.take_tables.ensures.files.0 in
    let lengths : inside.lengths.items ≡ self.lengths = ap (λ (v : ChangegroupView). v.lengths) c.self.view_is ∙ c.take_tables.ensures.files.1 in
    let grown : c.extend_from_slice.new.self.items ≡ self.files ++ file = c.in_ok-extend_from_slice.ensures.items ∙ ap (λ (l : List ℕ). l ++ file) files in
    let base : c.len-base.result ≡ length inside.files.items = omega (arith, c.len-base.ensures) in
    let back : c.truncate.new.self.items ≡ self.files = c.truncate.ensures.items ∙ rw (base, files, grown) (take_front self.files file) in
    let same : c.add_file.new.self ≡ c.in_ok-tables.tables = rw c.in-Err-Fault.field-0-is at c.in-Err-Fault.ensures.same in
    let kept : HasGroups self.files c.add_file.new.self groups = subst (λ (t : TablesView). HasGroups self.files t groups) (sym same) (c.in_ok-tables.ensures.taken groups holds) in
    Holds-with self c.truncate.new.self.items inside.lengths.items (Some c.add_file.new.self) groups back lengths holds kept
