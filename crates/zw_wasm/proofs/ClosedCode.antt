-- A list of instructions with an end of its own spells the code that it is read as.
use Rattle.std.proofs.Common.{◌≡◌, ℕ, zero, suc, ◌+◌, ◌≤◌, Bool, true, false, List, [], ◌∷◌, ◌++◌, length, Option, refl, sym, ap, ◌∙◌, subst, arith, append_assoc, length-append}
use Rattle.zw_wasm.proofs.StructuredCode.{spelled-code}
use Rattle.zw_wasm.specs.declared.module.Instr.{Instr}
use Rattle.zw_wasm.specs.declared.module.Instr.TheVariants.{Loop, If, Else, End}
use Rattle.zw_wasm.specs.declared.module.Instr.TheVariants as instr
use Rattle.zw_wasm.specs.declared.module.ValType.{ValType}
use Rattle.zw_wasm.specs.Laws.{HasCode}
use Rattle.zw_wasm.specs.ModuleBytes.{ClosesIn, EndsOnce}
use Rattle.zw_wasm.specs.Structure.{Code, Ends, Plain, Choice, Block, Repeat, Spells, nothing, plain, of_block, of_loop, without_else, with_else, is_plain, code_of}

abbrev ender : Bool → Instr
ender true = Else
ender false = End

-- what is known behind the end of a sequence, or behind its `else`
abbrev Behind : List Bool → Bool → List Instr → Type 0
Behind [] false rest = rest ≡ []
Behind [] true rest = ⊥
Behind (may_else ∷ outer) false rest = ClosesIn outer rest
Behind (may_else ∷ outer) true rest = (may_else ≡ true) × ClosesIn (false ∷ outer) rest

-- a list up to where its sequence ends
record Split (open_ifs : List Bool) (is : List Instr) : Type 0 where
  code : Code
  front : List Instr
  by_else : Bool
  rest : List Instr
  spelled : Spells code front
  whole : is ≡ front ++ ender by_else ∷ rest
  behind : Behind open_ifs by_else rest

with_plain : (i : Instr) (open_ifs : List Bool) (is : List Instr) → is_plain i ≡ true → Split open_ifs is → Split open_ifs (i ∷ is)
with_plain i open_ifs is h s = record {
  code = Plain i s.code;
  front = i ∷ s.front;
  by_else = s.by_else;
  rest = s.rest;
  spelled = plain i s.code s.front h s.spelled;
  whole = ap (λ l. i ∷ l) s.whole;
  behind = s.behind;
}

-- lists of at most n instructions are split
abbrev Splits : ℕ → Type 0
Splits n = (open_ifs : List Bool) (is : List Instr) → length is ≤ n → ClosesIn open_ifs is → Split open_ifs is

shorter : (n : ℕ) (is front rest : List Instr) (e : Instr) → is ≡ front ++ e ∷ rest → length is ≤ n → length rest ≤ n
shorter n is front rest e whole h =
    let count : length is ≡ length front + suc (length rest) = ap length whole ∙ length-append front (e ∷ rest) in
    omega arith

-- What holds one sequence, up to its `end`, and what follows it: an instruction that begins it, and its code.
record Holds (i : Instr) (a : Code) (front : List Instr) : Type 0 where
  holder : Code → Code
  spells : (rest : Code) (is : List Instr) → Spells rest is → Spells (holder rest) (i ∷ front ++ End ∷ is)

holds_block : (result : Option ValType) (a : Code) (front : List Instr) → Spells a front → Holds (instr.Block result) a front
holds_block result a front s = record { holder = λ rest. Block result a rest; spells = λ rest is t. of_block result a rest front is s t }

holds_loop : (result : Option ValType) (a : Code) (front : List Instr) → Spells a front → Holds (Loop result) a front
holds_loop result a front s = record { holder = λ rest. Repeat result a rest; spells = λ rest is t. of_loop result a rest front is s t }

holds_choice : (result : Option ValType) (a : Code) (front : List Instr) → Spells a front → Holds (If result) a front
holds_choice result a front s = record { holder = λ rest. Choice result a Ends rest; spells = λ rest is t. without_else result a rest front is s t }

one_code : (n : ℕ) → Splits n → (i : Instr) (open_ifs : List Bool) (is front rest : List Instr) (a : Code) → Holds i a front → is ≡ front ++ End ∷ rest → length is ≤ n → ClosesIn open_ifs rest → Split open_ifs (i ∷ is)
one_code n splits i open_ifs is front rest a s whole h closes =
    let t = splits open_ifs rest (shorter n is front rest End whole h) closes in
    let e = ender t.by_else in
    let joined : is ≡ (front ++ End ∷ t.front) ++ e ∷ t.rest =
    whole ∙ ap (λ l. front ++ End ∷ l) t.whole ∙ sym (append_assoc front (End ∷ t.front) (e ∷ t.rest)) in
    record {
      code = s.holder t.code;
      front = i ∷ front ++ End ∷ t.front;
      by_else = t.by_else;
      rest = t.rest;
      spelled = s.spells t.code t.front t.spelled;
      whole = ap (λ l. i ∷ l) joined;
      behind = t.behind;
    }

-- a choice with an `else`, and what follows it
two_codes : (n : ℕ) → Splits n → (result : Option ValType) (open_ifs : List Bool) (is front other rest : List Instr) (a b : Code) → Spells a front → Spells b other → is ≡ front ++ Else ∷ (other ++ End ∷ rest) → length rest ≤ n → ClosesIn open_ifs rest → Split open_ifs (If result ∷ is)
two_codes n splits result open_ifs is front other rest a b s t whole h closes =
    let u = splits open_ifs rest h closes in
    let e = ender u.by_else in
    let joined : is ≡ ((front ++ Else ∷ other) ++ End ∷ u.front) ++ e ∷ u.rest =
    whole ∙ ap (λ l. front ++ Else ∷ (other ++ End ∷ l)) u.whole
    ∙ sym (append_assoc front (Else ∷ other) (End ∷ (u.front ++ e ∷ u.rest)))
    ∙ sym (append_assoc (front ++ Else ∷ other) (End ∷ u.front) (e ∷ u.rest)) in
    record {
      code = Choice result a b u.code;
      front = If result ∷ front ++ Else ∷ other ++ End ∷ u.front;
      by_else = u.by_else;
      rest = u.rest;
      spelled = with_else result a b u.code front other u.front s t u.spelled;
      whole = ap (λ l. If result ∷ l) joined;
      behind = u.behind;
    }

-- behind an `else`
second_code : (n : ℕ) → Splits n → (result : Option ValType) (open_ifs : List Bool) (is front mid : List Instr) (a : Code) → Spells a front → is ≡ front ++ Else ∷ mid → length mid ≤ n → (other rest : List Instr) (b : Code) (by_else : Bool) → Spells b other → mid ≡ other ++ ender by_else ∷ rest → Behind (false ∷ open_ifs) by_else rest → Split open_ifs (If result ∷ is)
second_code n splits result open_ifs is front mid a s whole h other rest b true t split behind = absurd (cc (behind.0))
second_code n splits result open_ifs is front mid a s whole h other rest b false t split behind =
    two_codes n splits result open_ifs is front other rest a b s t (whole ∙ ap (λ l. front ++ Else ∷ l) split) (shorter n mid other rest End split h) behind

-- behind what an `if` began
after_if : (n : ℕ) → Splits n → (result : Option ValType) (open_ifs : List Bool) (is : List Instr) → length is ≤ n → (front rest : List Instr) (a : Code) (by_else : Bool) → Spells a front → is ≡ front ++ ender by_else ∷ rest → Behind (true ∷ open_ifs) by_else rest → Split open_ifs (If result ∷ is)
after_if n splits result open_ifs is h front rest a false s whole behind =
    one_code n splits (If result) open_ifs is front rest a (holds_choice result a front s) whole h behind
after_if n splits result open_ifs is h front rest a true s whole behind =
    let below = shorter n is front rest Else whole h in
    let t = splits (false ∷ open_ifs) rest below behind.1 in
    second_code n splits result open_ifs is front rest a s whole below t.front t.rest t.code t.by_else t.spelled t.whole t.behind

with_if : (n : ℕ) → Splits n → (result : Option ValType) (open_ifs : List Bool) (is : List Instr) → length is ≤ n → Split (true ∷ open_ifs) is → Split open_ifs (If result ∷ is)
with_if n splits result open_ifs is h s =
    after_if n splits result open_ifs is h s.front s.rest s.code s.by_else s.spelled s.whole s.behind

-- a block or a loop, whose code ends without an `else`
after_block : (n : ℕ) → Splits n → (i : Instr) → ((a : Code) (front : List Instr) → Spells a front → Holds i a front) → (open_ifs : List Bool) (is front rest : List Instr) (a : Code) (by_else : Bool) → length is ≤ n → Spells a front → is ≡ front ++ ender by_else ∷ rest → Behind (false ∷ open_ifs) by_else rest → Split open_ifs (i ∷ is)
after_block n splits i holds open_ifs is front rest a false h s whole behind =
    one_code n splits i open_ifs is front rest a (holds a front s) whole h behind
after_block n splits i holds open_ifs is front rest a true h s whole behind = absurd (cc (behind.0))

with_block : (n : ℕ) → Splits n → (i : Instr) → ((a : Code) (front : List Instr) → Spells a front → Holds i a front) → (open_ifs : List Bool) (is : List Instr) → length is ≤ n → Split (false ∷ open_ifs) is → Split open_ifs (i ∷ is)
with_block n splits i holds open_ifs is h s =
    after_block n splits i holds open_ifs is s.front s.rest s.code s.by_else h s.spelled s.whole s.behind

at_ender : (open_ifs : List Bool) (by_else : Bool) (rest : List Instr) → Behind open_ifs by_else rest → Split open_ifs (ender by_else ∷ rest)
at_ender open_ifs by_else rest behind = record { code = Ends; front = []; by_else = by_else; rest = rest; spelled = nothing; whole = refl; behind = behind }

at_end : (open_ifs : List Bool) (is : List Instr) → ClosesIn open_ifs (End ∷ is) → Split open_ifs (End ∷ is)
at_end [] is h = at_ender [] false is h
at_end (may_else ∷ outer) is h = at_ender (may_else ∷ outer) false is h

at_else : (open_ifs : List Bool) (is : List Instr) → ClosesIn open_ifs (Else ∷ is) → Split open_ifs (Else ∷ is)
at_else [] is h = absurd h
at_else (true ∷ outer) is h = at_ender (true ∷ outer) true is (refl, h)
at_else (false ∷ outer) is h = absurd h

closes-plain : (i : Instr) (open_ifs : List Bool) (is : List Instr) → is_plain i ≡ true → ClosesIn open_ifs (i ∷ is) → ClosesIn open_ifs is
closes-plain (instr.Block result) open_ifs is h closes = absurd (cc)
closes-plain (Loop result) open_ifs is h closes = absurd (cc)
closes-plain (If result) open_ifs is h closes = absurd (cc)
closes-plain Else open_ifs is h closes = absurd (cc)
closes-plain End open_ifs is h closes = absurd (cc)
closes-plain i [] is h closes = closes
closes-plain i (true ∷ outer) is h closes = closes
closes-plain i (false ∷ outer) is h closes = closes

closes-if : (result : Option ValType) (open_ifs : List Bool) (is : List Instr) → ClosesIn open_ifs (If result ∷ is) → ClosesIn (true ∷ open_ifs) is
closes-if result [] is closes = closes
closes-if result (true ∷ outer) is closes = closes
closes-if result (false ∷ outer) is closes = closes

closes-block : (result : Option ValType) (open_ifs : List Bool) (is : List Instr) → ClosesIn open_ifs (instr.Block result ∷ is) → ClosesIn (false ∷ open_ifs) is
closes-block result [] is closes = closes
closes-block result (true ∷ outer) is closes = closes
closes-block result (false ∷ outer) is closes = closes

closes-loop : (result : Option ValType) (open_ifs : List Bool) (is : List Instr) → ClosesIn open_ifs (Loop result ∷ is) → ClosesIn (false ∷ open_ifs) is
closes-loop result [] is closes = closes
closes-loop result (true ∷ outer) is closes = closes
closes-loop result (false ∷ outer) is closes = closes

below_one : (n : ℕ) (i : Instr) (is : List Instr) → length (i ∷ is) ≤ suc n → length is ≤ n
below_one n i is h = omega arith

splits : (n : ℕ) → Splits n
splits n open_ifs [] h closes = absurd closes
splits zero open_ifs (i ∷ is) h closes = absurd (omega arith)
splits (suc n) open_ifs (End ∷ is) h closes = at_end open_ifs is closes
splits (suc n) open_ifs (Else ∷ is) h closes = at_else open_ifs is closes
splits (suc n) open_ifs (If result ∷ is) h closes =
    let b = below_one n (If result) is h in
    with_if n (splits n) result open_ifs is b (splits n (true ∷ open_ifs) is b (closes-if result open_ifs is closes))
splits (suc n) open_ifs (instr.Block result ∷ is) h closes =
    let b = below_one n (instr.Block result) is h in
    with_block n (splits n) (instr.Block result) (holds_block result) open_ifs is b (splits n (false ∷ open_ifs) is b (closes-block result open_ifs is closes))
splits (suc n) open_ifs (Loop result ∷ is) h closes =
    let b = below_one n (Loop result) is h in
    with_block n (splits n) (Loop result) (holds_loop result) open_ifs is b (splits n (false ∷ open_ifs) is b (closes-loop result open_ifs is closes))
splits (suc n) open_ifs (i ∷ is) h closes =
    with_plain i open_ifs is refl (splits n open_ifs is (below_one n i is h) (closes-plain i open_ifs is refl closes))

outermost : (is front rest : List Instr) (c : Code) (by_else : Bool) → Spells c front → is ≡ front ++ ender by_else ∷ rest → Behind [] by_else rest → HasCode is
outermost is front rest c true s whole behind = absurd behind
outermost is front rest c false s whole behind =
    let ends : is ≡ front ++ End ∷ [] = whole ∙ ap (λ l. front ++ End ∷ l) behind in
    let same : code_of is ≡ c = ap code_of ends ∙ spelled-code c front [] s in
    record { front = front; spelled = subst (λ d. Spells d front) (sym same) s; ends = ends }

pub closed-code : (is : List Instr) → EndsOnce is → HasCode is
closed-code is h =
    let s = splits (length is) [] is (omega arith) h in
    outermost is s.front s.rest s.code s.by_else s.spelled s.whole s.behind
