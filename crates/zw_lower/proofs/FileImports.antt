-- What the module of a file imports: each extern function that the file calls, under its number.
use Rattle.std.proofs.Common.{◌≡◌, inl, inr, ℕ, zero, suc, ◌+◌, ◌<◌, List, [], ◌∷◌, length, map, Some, Contains, codes, ap, ◌∙◌, arith}
use Rattle.std.specs.Prelude.{slice_get}
use Rattle.std.specs.Str.{bytes_eq}
use Rattle.std.proofs.lemmas.Bool.{cond-true, cond-false, lt-ltb}
use Rattle.std.proofs.lemmas.Option.{slice_get_within}
use Rattle.zw_names.specs.NameSets.{number_in}
use Rattle.zw_form.specs.Programs.{called_in, import_of, import_named, program_of}
use Rattle.zw_form.specs.Rules.{KeepsRules, name_of, externs_of}
use Rattle.zw_form.specs.Source.{extern_named}
use Rattle.zw_form.specs.Trees.{Tree, Extern, Export, declaration_of}
use Rattle.zw_form.specs.declared.program.Import.{Import}
use Rattle.zw_form.specs.declared.program.Program.{Program}
use Rattle.zw_form.specs.declared.source.ExternFunction.{ExternFunction}
use Rattle.zw_lower.specs.Modules.{imports_from, module_of}
use Rattle.zw_lower.specs.Views.{shown_of, view_of}
use Rattle.zw_lower.proofs.FileNames.{Differ, declared_names_differ, named_apart, extern_is_found}
use Rattle.zw_lower.proofs.ListLemmas.{Contains-cases, slice_get-map_some}
use Rattle.zw_lower.proofs.ModuleTypes.{length-imports_from, type_of_import}
use Rattle.zw_lower.proofs.NameLemmas.{is_name, number_is}
use Rattle.zw_lower.proofs.Running.{IsImported, Imports}
use Rattle.zw_wasm.specs.declared.module.Module.{Module}
use Rattle.zw_wasm.specs.Reduction.{field_of}

-- ---- the module of a program

slice_get-imports_from : (k : ℕ) (imports : List Import) (i : ℕ) (x : Import) → slice_get imports i ≡ Some x → slice_get (imports_from k imports) i ≡ Some (record { «module» = codes "env"; field = x.name; ty = k + i })
slice_get-imports_from k [] i x e = absurd (cc)
slice_get-imports_from k (y ∷ imports) zero x e =
    let same : y ≡ x = cc in
    let count : k ≡ k + 0 = omega arith in
    ap (λ (z : Import). Some (record { «module» = codes "env"; field = z.name; ty = k })) same
    ∙ ap (λ n. Some (record { «module» = codes "env"; field = x.name; ty = n })) count
slice_get-imports_from k (y ∷ imports) (suc i) x e =
    let count : suc k + i ≡ k + suc i = omega arith in
    slice_get-imports_from (suc k) imports i x e ∙ ap (λ n. Some (record { «module» = codes "env"; field = x.name; ty = n })) count

-- ---- the imports of a file

-- an extern function is the one that the trees have under its name
extern_named-is : (trees : List Tree) (f : ExternFunction) → Differ (map name_of (map declaration_of trees)) → Contains (externs_of (map declaration_of trees)) f → extern_named trees f.name ≡ Some f
extern_named-is [] f differ h = absurd (omega (arith, h.1))
extern_named-is (Extern g ∷ trees) f differ h =
    let file = map declaration_of trees in
    elim (Contains-cases g (externs_of file) f h) [
      | inl same ↦ cond-true (bytes_eq g.name f.name) (Some g) (extern_named trees f.name) (is_name g.name f.name (ap (λ (e : ExternFunction). e.name) same)) ∙ ap (λ (e : ExternFunction). Some e) same
      | inr behind ↦ cond-false (bytes_eq g.name f.name) (Some g) (extern_named trees f.name) (named_apart g f file differ.0 behind) ∙ extern_named-is trees f differ.1 behind
    ]
extern_named-is (Export own params body ∷ trees) f differ h = extern_named-is trees f differ.1 h

-- the program and the module of a file
abbrev pub file_program : List Tree → Program
file_program trees = program_of (map declaration_of trees)

abbrev pub file_module : List Tree → Module
file_module trees = module_of (file_program trees)

import_at : (trees : List Tree) (f : ExternFunction) → KeepsRules (map declaration_of trees) → Contains (externs_of (map declaration_of trees)) f → Contains (called_in (map declaration_of trees)) f.name → slice_get (file_program trees).imports (number_in (called_in (map declaration_of trees)) f.name) ≡ Some (import_of f)
import_at trees f rules known called =
    let names = called_in (map declaration_of trees) in
    slice_get-map_some (import_named (externs_of (map declaration_of trees))) names (number_in names f.name) f.name (number_is names f.name called)
    ∙ ap (λ i. Some i) (extern_is_found (map declaration_of trees) f (declared_names_differ (map declaration_of trees) rules) known)

import_is : (trees : List Tree) (f : ExternFunction) → KeepsRules (map declaration_of trees) → Contains (externs_of (map declaration_of trees)) f → Contains (called_in (map declaration_of trees)) f.name → IsImported (file_module trees) (view_of trees (file_module trees)) f (number_in (called_in (map declaration_of trees)) f.name)
import_is trees f rules known called =
    let p = file_program trees in
    let k = number_in (called_in (map declaration_of trees)) f.name in
    let there : slice_get p.imports k ≡ Some (import_of f) = import_at trees f rules known called in
    let within : k < length p.imports = slice_get_within p.imports k (import_of f) there in
    let field : field_of (slice_get (module_of p).imports k) ≡ f.name = ap field_of (slice_get-imports_from 0 p.imports k (import_of f) there) in
    record {
      imported = lt-ltb k (length (imports_from 0 p.imports)) (omega (arith, within, length-imports_from 0 p.imports));
      typed = type_of_import p k (import_of f) there;
      field = field;
      shown = ap (λ name. shown_of (extern_named trees name)) field ∙ ap shown_of (extern_named-is trees f (declared_names_differ (map declaration_of trees) rules) known);
    }

-- The module of a file imports what the file's functions call.
pub imports_hold : (trees : List Tree) → KeepsRules (map declaration_of trees) → Imports (file_module trees) (view_of trees (file_module trees)) (externs_of (map declaration_of trees)) (called_in (map declaration_of trees))
imports_hold trees rules = record { each = λ f known called. import_is trees f rules known called }
