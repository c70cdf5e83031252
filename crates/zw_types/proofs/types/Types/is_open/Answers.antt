-- The form and the fields of an entry tell whether its type is open.
use Rattle.std.proofs.Common.{◌≡◌, ◌<◌, length, Bool, true, false, Option, Some, None, sym, ◌∙◌, ap, subst, arith, refl}
use Rattle.std.specs.Option.{is_some}
use Rattle.std.specs.Prelude.{not}
use Rattle.zw_types.specs.declared.type_form.Shape.{Shape}
use Rattle.zw_types.specs.TypeTrees.{TypeTree}
use Rattle.zw_types.specs.Tables.{TypeTable, IsOpen}
use Rattle.zw_types.specs.Entries.{trees_of}
use Rattle.zw_types.proofs.EntryLemmas.{length-trees_of}
use Rattle.zw_types.proofs.TableLemmas.{open_from_entry, entry_from_open}
use Rattle.zw_types.proofs.types.Types.is_open.Goals as goal

none_from : (o : Option Shape) (b : Bool) → is_some o ≡ not b → b ≡ true → o ≡ None
none_from None b e h = refl
none_from (Some s) true e h = cc
none_from (Some s) false e h = cc

none_told : (o : Option Shape) (b : Bool) → is_some o ≡ not b → o ≡ None → b ≡ true
none_told o true e h = refl
none_told None false e h = cc
none_told (Some s) false e h = cc

pub returns-then-is_container : goal.returns-then-is_container
returns-then-is_container c =
    let es = c.self.inside.entries.items in
    let errors = c.self.inside.errors.items in
    let e = c.index-entry.result.now in
    let same : trees_of es ≡ c.args.self.now.trees = ap (λ (t : TypeTable). t.trees) c.self.view_is in
    let within : c.args.id.0 < length es = omega (arith, length-trees_of es, ap (length {A = TypeTree}) same) in
    let container = c.is_container.ensures (trees_of es) ∙ c.if-is_container.true in (
      λ b. subst (λ (t : TypeTable). IsOpen t c.args.id.0) c.self.view_is
          (open_from_entry es c.args.id.0 e within c.index-entry.ensures errors c.self.invariant.0 container (none_from e.shape c.is_none.result c.is_none.ensures b)),
      λ o. none_told e.shape c.is_none.result c.is_none.ensures
          (entry_from_open es c.args.id.0 e within c.index-entry.ensures errors c.self.invariant.0 (subst (λ (t : TypeTable). IsOpen t c.args.id.0) (sym c.self.view_is) o)).1,
    )

pub returns-else-is_container : goal.returns-else-is_container
returns-else-is_container c =
    let es = c.self.inside.entries.items in
    let errors = c.self.inside.errors.items in
    let e = c.index-entry.result.now in
    let same : trees_of es ≡ c.args.self.now.trees = ap (λ (t : TypeTable). t.trees) c.self.view_is in
    let within : c.args.id.0 < length es = omega (arith, length-trees_of es, ap (length {A = TypeTree}) same) in
    let other = c.is_container.ensures (trees_of es) ∙ c.if-is_container.false in
    let told = c.if-is_container.false in (
      λ b. absurd (apart _ b told),
      λ o. absurd (apart _ (entry_from_open es c.args.id.0 e within c.index-entry.ensures errors c.self.invariant.0 (subst (λ (t : TypeTable). IsOpen t c.args.id.0) (sym c.self.view_is) o)).0 other),
    )
  where
    apart : (b : Bool) → b ≡ true → b ≡ false → ⊥
    apart b h k = cc
