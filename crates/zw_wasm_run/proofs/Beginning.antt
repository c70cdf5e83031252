-- Beginning: a machine is new, or the first segment outside is told.
use Rattle.std.proofs.Common.{◌≡◌, ℕ, suc, ◌+◌, Bool, true, false, List, [], ◌∷◌, ◌++◌, length, Option, Some, None, Err, refl, sym, ap, ◌∙◌, arith}
use Rattle.std.specs.Option.{option_map}
use Rattle.std.proofs.lemmas.List.{length-map}
use Rattle.zw_wasm.specs.declared.module.Element.{Element}
use Rattle.zw_wasm.specs.declared.module.Module.{Module}
use Rattle.zw_wasm.specs.ModuleMachine.{first_sizes, first_store, first_values}
use Rattle.zw_wasm.specs.Reduction.{Store}
use Rattle.zw_wasm.specs.declared.num.Num.{Num}
use Rattle.zw_wasm_words.specs.Segments.{datas_inside, element_fits, elements_inside, first_false}
use Rattle.zw_wasm_run.specs.declared.machine.NewErr.{NewErr}
use Rattle.zw_wasm_run.specs.declared.machine.NewErr.TheVariants as error
use Rattle.zw_wasm_run.specs.declared.machine.Show.{Show}
use Rattle.zw_wasm_run.specs.Machines.{Begins, IsOutOfRange, Remembers, Tabled}

one_more : (k : ℕ) (o : Option ℕ) → option_map (λ n. suc n) (option_map (λ n. k + n) o) ≡ option_map (λ n. suc k + n) o
one_more k None = refl
one_more k (Some n) = ap (λ i. Some i) (omega arith)

none_more : (o : Option ℕ) → o ≡ option_map (λ n. 0 + n) o
none_more None = refl
none_more (Some n) = ap (λ i. Some i) (omega arith)

found_more : (o p : Option ℕ) (n : ℕ) → ((k : ℕ) → o ≡ Some k → p ≡ Some k) → option_map (λ k. suc k) o ≡ Some n → option_map (λ k. suc k) p ≡ Some n
found_more None p n same e = absurd (cc)
found_more (Some k) p n same e = ap (option_map (λ k. suc k)) (same k refl) ∙ e

none_of : (o : Option ℕ) → option_map (λ k. suc k) o ≡ None → o ≡ None
none_of None e = refl
none_of (Some k) e = absurd (cc)

found_before : (xs ys : List Bool) (n : ℕ) → first_false xs ≡ Some n → first_false (xs ++ ys) ≡ Some n
found_before [] ys n e = absurd (cc)
found_before (false ∷ xs) ys n e = e
found_before (true ∷ xs) ys n e = found_more (first_false xs) (first_false (xs ++ ys)) n (λ k o. found_before xs ys k o) e

found_behind : (xs ys : List Bool) → first_false xs ≡ None → first_false (xs ++ ys) ≡ option_map (λ k. length xs + k) (first_false ys)
found_behind [] ys e = none_more (first_false ys)
found_behind (false ∷ xs) ys e = absurd (cc)
found_behind (true ∷ xs) ys e =
    ap (option_map (λ k. suc k)) (found_behind xs ys (none_of (first_false xs) e)) ∙ one_more (length xs) (first_false ys)

pub none_outside : (m : Module) → first_false (elements_inside m) ≡ None → first_false (datas_inside m) ≡ None → first_false (elements_inside m ++ datas_inside m) ≡ None
none_outside m first second =
    found_behind (elements_inside m) (datas_inside m) first ∙ ap (option_map (λ k. length (elements_inside m) + k)) second

pub table_fails : (m : Module) (shows : List Show) (e : NewErr) → Tabled m (Err e) → Begins m shows (Err e)
table_fails m shows (error.OutOfRangeSegment n) h = found_before (elements_inside m) (datas_inside m) n h
table_fails m shows error.Oom h = tt

pub memory_fails : (m : Module) (shows : List Show) (e : NewErr) → first_false (elements_inside m) ≡ None → Remembers m (Err e) → Begins m shows (Err e)
memory_fails m shows (error.OutOfRangeSegment n) first h =
    found_behind (elements_inside m) (datas_inside m) first
    ∙ ap (λ k. option_map (λ i. k + i) (first_false (datas_inside m))) (length-map m.elements (λ (e : Element). element_fits (first_values m) (first_sizes m.tables) e))
    ∙ h
memory_fails m shows error.Oom first h = tt

-- the first segment outside, by its number behind others
pub table_outside : (m : Module) (n : ℕ) (e : NewErr) → Some n ≡ first_false (elements_inside m) → IsOutOfRange (0 + n) e → Tabled m (Err e)
table_outside m n (error.OutOfRangeSegment k) first h = sym first ∙ ap (λ i. Some i) (omega (arith, h))
table_outside m n error.Oom first h = tt

pub memory_outside : (m : Module) (n : ℕ) (e : NewErr) → Some n ≡ first_false (datas_inside m) → IsOutOfRange (length m.elements + n) e → Remembers m (Err e)
memory_outside m n (error.OutOfRangeSegment k) first h = ap (option_map (λ i. length m.elements + i)) (sym first) ∙ ap (λ i. Some i) (sym h)
memory_outside m n error.Oom first h = tt

-- a new machine's parts
pub store_is : (m : Module) (globals : List Num) (memory : List ℕ) (table : List (Option ℕ)) → globals ≡ (first_store m).globals → memory ≡ (first_store m).memory → table ≡ (first_store m).table → record { globals = globals; memory = memory; table = table } ≡ first_store m
store_is m globals memory table same_globals same_memory same_table =
    let s = first_store m in
    let a : Store = record { globals = globals; memory = memory; table = table } in
    let b : Store = record { globals = s.globals; memory = memory; table = table } in
    let d : Store = record { globals = s.globals; memory = s.memory; table = table } in
    let first : a ≡ b = ap (λ (x : List Num). record { globals = x; memory = memory; table = table }) same_globals in
    let second : b ≡ d = ap (λ (x : List ℕ). record { globals = s.globals; memory = x; table = table }) same_memory in
    let third : d ≡ s = ap (λ (x : List (Option ℕ)). record { globals = s.globals; memory = s.memory; table = x }) same_table in
    first ∙ second ∙ third
