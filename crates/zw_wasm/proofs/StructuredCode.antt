-- A flat list of instructions is read back as the code that it spells.
use Rattle.std.proofs.Common.{◌≡◌, Bool, true, false, List, ◌∷◌, ◌++◌, Option, refl, ap, ◌∙◌, append_assoc}
use Rattle.zw_wasm.specs.declared.module.Instr.{Instr}
use Rattle.zw_wasm.specs.declared.module.Instr.TheVariants.{Loop, If, Else, End}
use Rattle.zw_wasm.specs.declared.module.Instr.TheVariants as instr
use Rattle.zw_wasm.specs.declared.module.ValType.{ValType}
use Rattle.zw_wasm.specs.Structure.{Code, Ends, Plain, Choice, Block, Repeat, Part, Spells, nothing, plain, of_block, of_loop, without_else, with_else, is_plain, begun_with, block_of, choice_of, loop_of, first_part, parts, code_of}

abbrev part : Code → Bool → Part
part c by_else = record { code = c; by_else = by_else }

-- what divides or ends a sequence: an empty part, which says whether it was an `else`
record Parts (e : Instr) (by_else : Bool) : Type 0 where
  by : (is : List Instr) → parts (e ∷ is) ≡ part Ends by_else ∷ parts is

by_end : Parts End false
by_end = record { by = λ is. refl }

by_its_else : Parts Else true
by_its_else = record { by = λ is. refl }

pub plain-parts : (i : Instr) (is : List Instr) → is_plain i ≡ true → parts (i ∷ is) ≡ begun_with (λ rest. Plain i rest) (parts is)
plain-parts (instr.Block result) is h = absurd (cc)
plain-parts (Loop result) is h = absurd (cc)
plain-parts (If result) is h = absurd (cc)
plain-parts Else is h = absurd (cc)
plain-parts End is h = absurd (cc)
plain-parts i is h = refl

-- the parts of a list that spells some code, up to what ends it, are that code and the parts behind
spelled-parts : (e : Instr) (b : Bool) → Parts e b → (rest : List Instr) (c : Code) (is : List Instr) → Spells c is → parts (is ++ e ∷ rest) ≡ part c b ∷ parts rest
spelled-parts e b ends rest c is nothing = ends.by rest
spelled-parts e b ends rest c is (plain i c' is' h s) =
    plain-parts i (is' ++ e ∷ rest) h ∙ ap (begun_with (λ rest. Plain i rest)) (spelled-parts e b ends rest c' is' s)
spelled-parts e b ends rest c is (of_block result a c' fs js s t) =
    ap (λ l. block_of result (parts l)) (append_assoc fs (End ∷ js) (e ∷ rest))
    ∙ ap (block_of result) (spelled-parts End false by_end (js ++ e ∷ rest) a fs s)
    ∙ ap (λ ps. block_of result (part a false ∷ ps)) (spelled-parts e b ends rest c' js t)
spelled-parts e b ends rest c is (of_loop result a c' fs js s t) =
    ap (λ l. loop_of result (parts l)) (append_assoc fs (End ∷ js) (e ∷ rest))
    ∙ ap (loop_of result) (spelled-parts End false by_end (js ++ e ∷ rest) a fs s)
    ∙ ap (λ ps. loop_of result (part a false ∷ ps)) (spelled-parts e b ends rest c' js t)
spelled-parts e b ends rest c is (without_else result a c' fs js s t) =
    ap (λ l. choice_of result (parts l)) (append_assoc fs (End ∷ js) (e ∷ rest))
    ∙ ap (choice_of result) (spelled-parts End false by_end (js ++ e ∷ rest) a fs s)
    ∙ ap (λ ps. choice_of result (part a false ∷ ps)) (spelled-parts e b ends rest c' js t)
spelled-parts e b ends rest c is (with_else result a d c' fs ds js s t u) =
    ap (λ l. choice_of result (parts l)) (append_assoc (fs ++ Else ∷ ds) (End ∷ js) (e ∷ rest) ∙ append_assoc fs (Else ∷ ds) (End ∷ (js ++ e ∷ rest)))
    ∙ ap (choice_of result) (spelled-parts Else true by_its_else (ds ++ End ∷ (js ++ e ∷ rest)) a fs s)
    ∙ ap (λ ps. choice_of result (part a true ∷ ps)) (spelled-parts End false by_end (js ++ e ∷ rest) d ds t)
    ∙ ap (λ ps. choice_of result (part a true ∷ part d false ∷ ps)) (spelled-parts e b ends rest c' js u)

pub spelled-code : (c : Code) (is rest : List Instr) → Spells c is → code_of (is ++ End ∷ rest) ≡ c
spelled-code c is rest s = ap (λ ps. (first_part ps).code) (spelled-parts End false by_end rest c is s)

-- the code of a block, of a loop and of a choice, before any other instructions
pub code_of-block : (result : Option ValType) (a : Code) (is rest : List Instr) → Spells a is → code_of (instr.Block result ∷ is ++ End ∷ rest) ≡ Block result a (code_of rest)
code_of-block result a is rest s =
    ap (λ ps. (first_part (block_of result ps)).code) (spelled-parts End false by_end rest a is s)

pub code_of-loop : (result : Option ValType) (a : Code) (is rest : List Instr) → Spells a is → code_of (Loop result ∷ is ++ End ∷ rest) ≡ Repeat result a (code_of rest)
code_of-loop result a is rest s =
    ap (λ ps. (first_part (loop_of result ps)).code) (spelled-parts End false by_end rest a is s)

pub code_of-if : (result : Option ValType) (a : Code) (is rest : List Instr) → Spells a is → code_of (If result ∷ is ++ End ∷ rest) ≡ Choice result a Ends (code_of rest)
code_of-if result a is rest s =
    ap (λ ps. (first_part (choice_of result ps)).code) (spelled-parts End false by_end rest a is s)

pub code_of-if_else : (result : Option ValType) (a b : Code) (is js rest : List Instr) → Spells a is → Spells b js → code_of (If result ∷ is ++ Else ∷ js ++ End ∷ rest) ≡ Choice result a b (code_of rest)
code_of-if_else result a b is js rest s t =
    ap (λ l. (first_part (choice_of result (parts l))).code) (append_assoc is (Else ∷ js) (End ∷ rest))
    ∙ ap (λ ps. (first_part (choice_of result ps)).code) (spelled-parts Else true by_its_else (js ++ End ∷ rest) a is s)
    ∙ ap (λ ps. (first_part (choice_of result (part a true ∷ ps))).code) (spelled-parts End false by_end rest b js t)
