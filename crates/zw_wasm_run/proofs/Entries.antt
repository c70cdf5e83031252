-- Entries: how a call of a function with a body begins.
use Rattle.std.proofs.Common.{◌≡◌, ℕ, ◌+◌, ◌-◌, ◌≤◌, ◌<◌, List, [], ◌∷◌, ◌++◌, Some, length, take, get_or, reverse, refl, sym, ap, subst, ◌∙◌, arith}
use Rattle.std.specs.Prelude.{slice_get}
use Rattle.std.proofs.lemmas.Bool.{le-ltb}
use Rattle.std.proofs.lemmas.List.{take_more}
use Rattle.std.proofs.lemmas.Option.{slice_get-get_or}
use Rattle.zw_wasm.specs.declared.module.CodeBody.{CodeBody}
use Rattle.zw_wasm.specs.declared.module.Module.{Module}
use Rattle.zw_wasm.specs.declared.num.Num.{Num}
use Rattle.zw_wasm.specs.Functions.{func_type}
use Rattle.zw_wasm.specs.ModuleMachine.{idle}
use Rattle.zw_wasm.specs.Reduction.{World, arity_of, entered}
use Rattle.zw_wasm.specs.Structure.{code_of, zeros}
use Rattle.zw_wasm_words.specs.Words.{Hold, Holds, zero_words}
use Rattle.zw_wasm_words.proofs.Holding.{hold_append, hold_length, hold_reverse}
use Rattle.zw_wasm_run.specs.declared.stacks.Stacks.{Stacks}
use Rattle.zw_wasm_run.specs.Invocation.{BeginsCall}
use Rattle.zw_wasm_run.specs.Running.{AllStand, instrs_in}
use Rattle.zw_wasm_run.proofs.AllCalls.{enter_goes, entering, frame_for}
use Rattle.zw_wasm_run.proofs.EnterWords.{zeros_held}
use Rattle.zw_wasm_run.proofs.HostCalls.{stands_as}
use Rattle.zw_wasm_run.proofs.ShownParts.{append_none}

-- one argument more
pub args_more : (words : List ℕ) (given : List Num) (i w : ℕ) (x d : Num) → i < length given → x ≡ get_or given i d → Holds w x → Hold words (take i given) → Hold (words ++ w ∷ []) (take (i + 1) given)
args_more words given i w x d inside is holds so =
    subst (Hold (words ++ w ∷ [])) (sym (take_more given i d inside))
    (hold_append words (w ∷ []) (take i given) (get_or given i d ∷ []) so (subst (Holds w) is holds, tt))

first_stand : (m : Module) (func arity n : ℕ) (given : List Num) (b : CodeBody) (w : World) (words : List ℕ) → slice_get m.codes (func - length m.imports) ≡ Some b → Hold words given → n ≡ length (words ++ zero_words b.locals) → AllStand m (frame_for (func - length m.imports) arity 0 n 0) [] [] (words ++ zero_words b.locals) (entering func arity given b (idle w))
first_stand m func arity n given b w words there held count =
    let all = words ++ zero_words b.locals in
    let locals = given ++ zeros b.locals in
    let whole : Hold all locals = hold_append words (zero_words b.locals) given (zeros b.locals) held (zeros_held b.locals) in
    record {
      running = record {
        frame = record {
          arity = refl;
          code = ap code_of (sym (ap instrs_in there));
          labels = tt;
          locals = record { first = refl; behind = omega (arith, count, hold_length all locals whole) };
        };
        held = subst (Hold (reverse all)) (sym (append_none (reverse locals))) (hold_reverse all locals whole);
      };
      inside = omega arith;
      below = (refl, refl);
    }

pub begins : (m : Module) (func : ℕ) (given : List Num) (b : CodeBody) (words : List ℕ) (held : Stacks) → length m.imports ≤ func → slice_get m.codes (func - length m.imports) ≡ Some b → Hold words given → held.words.items ≡ words ++ zero_words b.locals → held.frames.items ≡ [] → held.labels.items ≡ [] → held.frame ≡ frame_for (func - length m.imports) (arity_of (func_type m func)) 0 (length held.words.items) 0 → BeginsCall m func given held
begins m func given b words held own there hold is frames labels frame = record {
  by = λ w.
      let arity = arity_of (func_type m func) in
      record {
        first = entering func arity given b (idle w);
        goes = enter_goes m func given (idle w) (le-ltb func (length m.imports) own) refl ∙ ap (λ o. entered o func arity given (idle w)) there;
        stand = stands_as m held (frame_for (func - length m.imports) arity 0 (length held.words.items) 0) [] [] (words ++ zero_words b.locals) (entering func arity given b (idle w)) frame (ap reverse frames) labels is
            (first_stand m func arity (length held.words.items) given b w words there hold (ap length is));
        world = refl;
      };
}

-- a body that is read at a place
pub code_at : (codes read : List CodeBody) (n i : ℕ) (b : CodeBody) → read ≡ codes → i ≡ n → n < length codes → b ≡ get_or read i b → slice_get codes n ≡ Some b
code_at codes read n i b same place inside is =
    slice_get-get_or codes n b inside ∙ ap (λ x. Some x) (ap (λ k. get_or codes k b) (sym place) ∙ ap (λ l. get_or l i b) (sym same) ∙ sym is)
