-- Shows: where bytes are shown.
use Rattle.std.proofs.Common.{◌≡◌, ℕ, suc, ◌+◌, Bool, true, false, List, [], ◌∷◌, Some, refl, sym, ap, ◌∙◌, arith, inl, inr, ◌&&◌, ◌||◌}
use Rattle.std.specs.Prelude.{nat_eq, slice_get}
use Rattle.std.proofs.lemmas.Bool.{and_parts, cases_order, eqb-true, false_from_ne_true}
use Rattle.zw_wasm.specs.declared.module.FuncType.{FuncType}
use Rattle.zw_wasm.specs.declared.module.Module.{Module}
use Rattle.zw_wasm.specs.Functions.{func_type}
use Rattle.zw_wasm.specs.ModuleMachine.{param_types}
use Rattle.zw_wasm_run.specs.declared.machine.Show.{Show}
use Rattle.zw_wasm_run.specs.Calls.{is_shown}
use Rattle.zw_wasm_run.specs.Hosting.{ArePairs}
use Rattle.zw_wasm_run.specs.Machines.{AreShows}
use Rattle.zw_wasm_run.proofs.ShownParts.{NoneBehind}

-- the entry that says that a parameter shows bytes
record ShownAt (shows : List Show) (import param : ℕ) : Type 0 where
  place : ℕ
  show : Show
  there : slice_get shows place ≡ Some show
  of_import : show.import ≡ import
  of_param : show.param ≡ param

shown_head : (b : Bool) (s : Show) (shows : List Show) (import param : ℕ) → (nat_eq s.import import && nat_eq s.param param) ≡ b → (is_shown shows import param ≡ true → ShownAt shows import param) → (b || is_shown shows import param) ≡ true → ShownAt (s ∷ shows) import param
shown_head true s shows import param e rest h =
    let parts = and_parts (nat_eq s.import import) (nat_eq s.param param) e in
    record { place = 0; show = s; there = refl; of_import = eqb-true s.import import parts.0; of_param = eqb-true s.param param parts.1 }
shown_head false s shows import param e rest h =
    let r = rest h in
    record { place = suc r.place; show = r.show; there = r.there; of_import = r.of_import; of_param = r.of_param }

shown_at : (shows : List Show) (import param : ℕ) → is_shown shows import param ≡ true → ShownAt shows import param
shown_at [] import param e = absurd (cc)
shown_at (s ∷ shows) import param e =
    let test = nat_eq s.import import && nat_eq s.param param in
    shown_head test s shows import param refl (shown_at shows import param) e

pub pairs_of : (m : Module) (shows : List Show) (import : ℕ) (t : FuncType) → AreShows m shows → func_type m import ≡ Some t → ArePairs t.params shows import
pairs_of m shows import t are is = λ param e.
    let at = shown_at shows import param e in
    let one = are.each at.place at.show at.there in
    let same : param_types (func_type m at.show.import) ≡ t.params = ap (λ k. param_types (func_type m k)) at.of_import ∙ ap param_types is in
    record {
      pointer = ap (slice_get t.params) (sym at.of_param) ∙ ap (λ ts. slice_get ts at.show.param) (sym same) ∙ one.pointer;
      count = ap (λ k. slice_get t.params (k + 1)) (sym at.of_param) ∙ ap (λ ts. slice_get ts (at.show.param + 1)) (sym same) ∙ one.count;
    }

same_entry : (shows : List Show) (i j : ℕ) (s t : Show) → i ≡ j → slice_get shows i ≡ Some s → slice_get shows j ≡ Some t → s ≡ t
same_entry shows i j s t e f g =
    let h : Some s ≡ Some t = sym f ∙ ap (slice_get shows) e ∙ g in
    cc

-- two entries of parameters beside each other would share one
entries_apart : (m : Module) (shows : List Show) (import param : ℕ) → AreShows m shows → (one : ShownAt shows import param) → (next : ShownAt shows import (suc param)) → ⊥
entries_apart m shows import param are one next =
    elim (cases_order one.place next.place) as (λ _. ⊥) [
      | inl same ↦ let shows_same : one.show ≡ next.show = same_entry shows one.place next.place one.show next.show same one.there next.there in
          omega (arith, one.of_param, next.of_param, ap (λ (s : Show). s.param) shows_same)
      | inr order ↦ elim order as (λ _. ⊥) [
        | inl before ↦ omega (arith, one.of_param, next.of_param, are.apart one.place next.place one.show next.show before one.there next.there (one.of_import ∙ sym next.of_import))
        | inr behind ↦ omega (arith, one.of_param, next.of_param, are.apart next.place one.place next.show one.show behind next.there one.there (next.of_import ∙ sym one.of_import))
      ]
    ]

pub none_behind : (m : Module) (shows : List Show) (import : ℕ) → AreShows m shows → NoneBehind shows import
none_behind m shows import are = λ param e.
    false_from_ne_true (is_shown shows import (suc param)) (λ f. entries_apart m shows import param are (shown_at shows import param e) (shown_at shows import (suc param) f))
