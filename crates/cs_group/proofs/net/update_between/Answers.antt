-- `net::update_between`: the invariant of the loop at `column`.
use Rattle.std.proofs.Common.{◌≡◌, ◌++◌, ◌∷◌, [], ℕ, ◌<◌, length, get_or, arith}
use Rattle.cs_value.specs.declared.value.Field.TheVariants.{Undefined as nothing}
use Rattle.cs_value.specs.declared.value.OwnedField.{OwnedField}
use Rattle.cs_value.specs.declared.value.OwnedField.TheVariants.{Undefined}
use Rattle.cs_value.specs.Value.{field_of}
use Rattle.cs_group.specs.Net.{by_flag, unless_same}
use Rattle.cs_group.proofs.ImageLemmas.{by_column_fields}
use Rattle.cs_group.proofs.net.update_between.Goals as goal

pub loop-column-preserved : goal.loop-column-preserved
loop-column-preserved c =
    let flags = c.args.flags.now in
    let i = c.loop-column.column in
    let flag = get_or flags i 0 in
    let b = field_of (get_or c.args.before.now i nothing) in
    let a = field_of (get_or c.args.after.now i nothing) in
    let old : ℕ → OwnedField → OwnedField → OwnedField = λ flag b a. by_flag flag (unless_same b a b) b in
    let new : ℕ → OwnedField → OwnedField → OwnedField = λ flag b a. by_flag flag (unless_same b a a) Undefined in
    let within : i < length flags = c.loop-column-test.true in
    let before_within : i < length c.args.before.now = omega (arith, c.requires.before) in
    let after_within : i < length c.args.after.now = omega (arith, c.requires.after) in
    let old_is : c.push.new.self.items ≡ c.loop-column.old.items ++ c.in_ok-to_owned.field-0 ∷ [] = c.in_ok-push.ensures.items in
    let new_is : c.push-in-loop-column.new.self.items ≡ c.loop-column.new.items ++ c.in_ok-to_owned-2.field-0 ∷ [] = c.in_ok-push-2.ensures.items in
    let was : field_of c.update_fields.result.0 ≡ old flag b a = c.update_fields.ensures.old in
    let becomes : field_of c.update_fields.result.1 ≡ new flag b a = c.update_fields.ensures.new in (
      cc (old_is, c.in_ok-to_owned.ensures, was, c.loop-column.invariant.0, by_column_fields old flags c.args.before.now c.args.after.now i within before_within after_within),
      cc (new_is, c.in_ok-to_owned-2.ensures, becomes, c.loop-column.invariant.1, by_column_fields new flags c.args.before.now c.args.after.now i within before_within after_within),
    )
