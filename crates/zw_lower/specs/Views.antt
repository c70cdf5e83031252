-- Views: how a host reads the numbers of a module that was built from a file. All are values of `u32`.
use Rattle.std.specs.Prelude.{List, [], length, replicate, Option, Some, None, slice_get}
use Rattle.zw_form.specs.Source.{Exported, export_named, extern_named}
use Rattle.zw_form.specs.Trees.{Tree}
use Rattle.zw_form.specs.declared.source.ExternFunction.{ExternFunction}
use Rattle.zw_wasm.specs.declared.module.Module.{Module}
use Rattle.zw_wasm.specs.Reduction.{field_of}
use Rattle.zw_wasm.specs.Signature.{Signature, View, Shown, Value, Unsigned}

abbrev pub signature_of : Option Exported → Option Signature
signature_of None = None
signature_of (Some f) = Some (record { params = replicate (length f.params) (Unsigned 32); result = Some (Unsigned 32) })

abbrev pub shown_of : Option ExternFunction → List Shown
shown_of None = []
shown_of (Some f) = replicate (length f.params) (Value (Unsigned 32))

-- an exported function is known by its name, and an imported one by the name of its import
abbrev pub view_of : List Tree → Module → View
view_of trees m = record {
  exported = λ name. signature_of (export_named trees name);
  import_params = λ k. shown_of (extern_named trees (field_of (slice_get m.imports k)));
}
