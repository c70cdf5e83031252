-- What a call of a function of the host shows, where all its parameters are values of `u32`.
use Rattle.std.proofs.Common.{◌≡◌, ℕ, zero, suc, Bool, true, pos, List, [], ◌∷◌, length, map, replicate, Option, Some, None, refl, sym, ap, ◌∙◌, subst, Contains}
use Rattle.std.proofs.lemmas.List.{length-map, length-replicate}
use Rattle.std.specs.Prelude.{nat_lt, slice_get, if◌then◌else◌}
use Rattle.zw_names.specs.NameSets.{number_in}
use Rattle.zw_form.specs.Rules.{IsKnown, IsCalled}
use Rattle.zw_form.specs.Source.{event_of}
use Rattle.zw_form.specs.declared.source.ExternFunction.{ExternFunction}
use Rattle.zw_form.specs.declared.source.Callee.{Callee}
use Rattle.zw_form.specs.declared.source.Step.TheVariants.{Call}
use Rattle.zw_lower.proofs.BodySmall.{AreArgs}
use Rattle.zw_lower.proofs.Running.{Imports, IsImported, words}
use Rattle.zw_lower.specs.Modules.{number_type}
use Rattle.zw_session.specs.Sessions.{Scalar, Number, HostEvent}
use Rattle.zw_wasm.proofs.RunsCompose.{host_event}
use Rattle.zw_wasm.specs.declared.module.FuncType.{FuncType}
use Rattle.zw_wasm.specs.declared.module.Module.{Module}
use Rattle.zw_wasm.specs.declared.module.ValType.{ValType}
use Rattle.zw_wasm.specs.declared.module.ValType.TheVariants as ty
use Rattle.zw_wasm.specs.declared.num.Num.{Num}
use Rattle.zw_wasm.specs.declared.num.Num.TheVariants.{I32}
use Rattle.zw_wasm.specs.Functions.{func_type}
use Rattle.zw_wasm.specs.Reduction.{field_of}
use Rattle.zw_wasm.specs.Signature.{View, Value, Unsigned, shown_scalars, shown_ranges}

shown-numbers : (ns : List ℕ) → shown_scalars (replicate (length ns) (Value (Unsigned 32))) (words ns) ≡ map (λ n. Number (pos n)) ns
shown-numbers [] = refl
shown-numbers (n ∷ ns) = ap (λ xs. Number (pos n) ∷ xs) (shown-numbers ns)

no_ranges : (k : ℕ) (args : List Num) (memory : List ℕ) → shown_ranges (replicate k (Value (Unsigned 32))) args memory ≡ Some []
no_ranges zero args memory = refl
no_ranges (suc k) [] memory = refl
no_ranges (suc k) (a ∷ args) memory = no_ranges k args memory

-- the result of a function of the host: an i32, or none
abbrev pub reply_type : Bool → Option ValType
reply_type has_result = if has_result then Some ty.I32 else None

-- Under this number stands a function of the host with this name, which these numbers may be given to, and gives a result or
-- none.
pub record IsHostCall (m : Module) (v : View) (k : ℕ) (name ns : List ℕ) (has_result : Bool) : Type 0 where
  pub type : FuncType
  pub imported : nat_lt k (length m.imports) ≡ true
  pub typed : func_type m k ≡ Some type
  pub count : length (words ns) ≡ length type.params
  pub result : type.result ≡ reply_type has_result
  pub shows : host_event m v k (words ns) [] ≡ event_of name ns
  pub no_bytes : (memory : List ℕ) → shown_ranges (v.import_params k) (words ns) memory ≡ Some []

abbrev record_of : List ℕ → List Scalar → HostEvent
record_of name args = record { name = name; args = args; shown = [] }

shown_event : (name own : List ℕ) (args others : List Scalar) → name ≡ own → args ≡ others → record_of name args ≡ record_of own others
shown_event name own args others e h = cc

shown_args : (v : View) (k count : ℕ) (ns : List ℕ) → v.import_params k ≡ replicate count (Value (Unsigned 32)) → count ≡ length ns → shown_scalars (v.import_params k) (words ns) ≡ map (λ n. Number (pos n)) ns
shown_args v k count ns shown count_is = rw (shown, count_is) (shown-numbers ns)

host_call-of : (m : Module) (v : View) (f : ExternFunction) (k : ℕ) (name ns : List ℕ) (has_result : Bool) → IsImported m v f k → name ≡ f.name → length f.params ≡ length ns → has_result ≡ f.has_result → IsHostCall m v k name ns has_result
host_call-of m v f k name ns has_result h name_is count_is result_is = record {
  type = number_type (length f.params) f.has_result;
  imported = h.imported;
  typed = h.typed;
  count = length-map ns (λ n. I32 n) ∙ sym count_is ∙ sym (length-replicate (length f.params) ty.I32);
  result = ap reply_type (sym result_is);
  shows = shown_event (field_of (slice_get m.imports k)) name (shown_scalars (v.import_params k) (words ns)) (map (λ n. Number (pos n)) ns) (h.field ∙ sym name_is) (shown_args v k (length f.params) ns h.shown count_is);
  no_bytes = λ memory. rw h.shown (no_ranges (length f.params) (words ns) memory);
}

-- what the rules say of a call
pub host_call : (m : Module) (v : View) (externs : List ExternFunction) (imports params : List (List ℕ)) (callee : Callee) (ns : List ℕ) → Imports m v externs imports → IsKnown externs params (Call callee) → Contains imports callee.name → AreArgs callee.args ns → IsHostCall m v (number_in imports callee.name) callee.name ns callee.has_result
host_call m v externs imports params callee ns imported known there are =
    let f = known.0 in
    let called : IsCalled callee f = known.2 in
    let own : IsImported m v f (number_in imports f.name) = imported.each f known.1 (subst (Contains imports) called.name there) in
    host_call-of m v f (number_in imports callee.name) callee.name ns callee.has_result (subst (λ name. IsImported m v f (number_in imports name)) (sym called.name) own) called.name (sym called.args ∙ sym are.count_is) called.has_result
