-- Which sequences of instructions are closed, so that others may stand behind them.
use Rattle.std.proofs.Common.{◌↔◌, Bool, true, false, List, [], ◌∷◌, ◌++◌, Option, refl, append_assoc}
use Rattle.zw_wasm.specs.declared.module.Instr.{Instr}
use Rattle.zw_wasm.specs.declared.module.Instr.TheVariants.{Block, Loop, If, Else, End}
use Rattle.zw_wasm.specs.declared.module.ValType.{ValType}
use Rattle.zw_wasm.specs.ModuleBytes.{ClosesIn, EndsOnce}
use Rattle.zw_wasm.specs.WellFormed.{IsPlain, IsClosed, SequencesClose, block_of, loop_of, if_block, if_else_block, IsSequence, empty, plain, in_block, in_loop, chosen, chosen_from_two, IsEndedSequence}

pub closed-none : IsClosed []
closed-none = record { by = λ open_ifs rest h. h }

-- a plain instruction is passed over
plain-passed : (i : Instr) → IsPlain i → (open_ifs : List Bool) (rest : List Instr) → ClosesIn open_ifs rest → ClosesIn open_ifs (i ∷ rest)
plain-passed (Block result) is_plain open_ifs rest h = absurd (cc)
plain-passed (Loop result) is_plain open_ifs rest h = absurd (cc)
plain-passed (If result) is_plain open_ifs rest h = absurd (cc)
plain-passed Else is_plain open_ifs rest h = absurd (cc)
plain-passed End is_plain open_ifs rest h = absurd (cc)
plain-passed i is_plain open_ifs rest h = h

pub closed-instr : (i : Instr) → IsPlain i → IsClosed (i ∷ [])
closed-instr i is_plain = record { by = plain-passed i is_plain }

pub closed-then : (is js : List Instr) → IsClosed is → IsClosed js → IsClosed (is ++ js)
closed-then is js a b = record { by = λ open_ifs rest h. rw append_assoc (a.by open_ifs (js ++ rest) (b.by open_ifs rest h)) }

pub closed-block : (result : Option ValType) (is : List Instr) → IsClosed is → IsClosed (block_of result is)
closed-block result is a = record { by = λ open_ifs rest h. rw append_assoc (a.by (false ∷ open_ifs) (End ∷ rest) h) }

pub closed-loop : (result : Option ValType) (is : List Instr) → IsClosed is → IsClosed (loop_of result is)
closed-loop result is a = record { by = λ open_ifs rest h. rw append_assoc (a.by (false ∷ open_ifs) (End ∷ rest) h) }

pub closed-if : (result : Option ValType) (is : List Instr) → IsClosed is → IsClosed (if_block result is)
closed-if result is a = record { by = λ open_ifs rest h. rw append_assoc (a.by (true ∷ open_ifs) (End ∷ rest) h) }

pub closed-if_else : (result : Option ValType) (is js : List Instr) → IsClosed is → IsClosed js → IsClosed (if_else_block result is js)
closed-if_else result is js a b = record { by = λ open_ifs rest h. simp append_assoc (a.by (true ∷ open_ifs) (Else ∷ js ++ End ∷ rest) (b.by (false ∷ open_ifs) (End ∷ rest) h)) }

-- a closed list with an end is an expression
pub closed-ends : (is : List Instr) → IsClosed is → EndsOnce (is ++ End ∷ [])
closed-ends is a = a.by [] (End ∷ []) refl

pub sequences_close_lem : SequencesClose
sequences_close_lem = record {
  nothing = closed-none;
  plain = closed-instr;
  then = closed-then;
  in_block = closed-block;
  in_loop = closed-loop;
  chosen = closed-if;
  chosen_from_two = closed-if_else;
  ends = closed-ends;
}

-- ---- the grammar

sequence-closed : (is : List Instr) → IsSequence is → IsClosed is
sequence-closed _ empty = closed-none
sequence-closed _ (plain i is p s) = closed-then (i ∷ []) is (closed-instr i p) (sequence-closed is s)
sequence-closed _ (in_block result is rest s t) = closed-then (block_of result is) rest (closed-block result is (sequence-closed is s)) (sequence-closed rest t)
sequence-closed _ (in_loop result is rest s t) = closed-then (loop_of result is) rest (closed-loop result is (sequence-closed is s)) (sequence-closed rest t)
sequence-closed _ (chosen result is rest s t) = closed-then (if_block result is) rest (closed-if result is (sequence-closed is s)) (sequence-closed rest t)
sequence-closed _ (chosen_from_two result is js rest s t u) =
    closed-then (if_else_block result is js) rest (closed-if_else result is js (sequence-closed is s) (sequence-closed js t)) (sequence-closed rest u)

-- Instructions by the grammar, inside sequences that are open.
data IsRest : List Bool → List Instr → Type 0 where
  last : (is : List Instr) → IsSequence is → IsRest [] (is ++ End ∷ [])
  ends : (may_else : Bool) (outer : List Bool) (is rest : List Instr) → IsSequence is → IsRest outer rest → IsRest (may_else ∷ outer) (is ++ End ∷ rest)
  turns : (outer : List Bool) (is rest : List Instr) → IsSequence is → IsRest (false ∷ outer) rest → IsRest (true ∷ outer) (is ++ Else ∷ rest)

-- what may stand before any sequence may stand before the rest of one
put_before : (front : List Instr) → ((is : List Instr) → IsSequence is → IsSequence (front ++ is)) → (open_ifs : List Bool) (instrs : List Instr) → IsRest open_ifs instrs → IsRest open_ifs (front ++ instrs)
put_before front put _ _ (last is s) = rw (← append_assoc) (last (front ++ is) (put is s))
put_before front put _ _ (ends may_else outer is rest s r) = rw (← append_assoc) (ends may_else outer (front ++ is) rest (put is s) r)
put_before front put _ _ (turns outer is rest s r) = rw (← append_assoc) (turns outer (front ++ is) rest (put is s) r)

behind_else : (result : Option ValType) (open_ifs : List Bool) (is instrs : List Instr) → IsSequence is → IsRest (false ∷ open_ifs) instrs → IsRest open_ifs (If result ∷ is ++ Else ∷ instrs)
behind_else result open_ifs is _ s (ends _ _ js rest t r) =
    let whole = put_before (if_else_block result is js) (λ ks u. chosen_from_two result is js ks s t u) open_ifs rest r in
    simp append_assoc at whole

behind_if : (result : Option ValType) (open_ifs : List Bool) (instrs : List Instr) → IsRest (true ∷ open_ifs) instrs → IsRest open_ifs (If result ∷ instrs)
behind_if result open_ifs _ (ends _ _ is rest s r) =
    let whole = put_before (if_block result is) (λ js t. chosen result is js s t) open_ifs rest r in
    simp append_assoc at whole
behind_if result open_ifs _ (turns _ is rest s r) = behind_else result open_ifs is rest s r

behind_block : (result : Option ValType) (open_ifs : List Bool) (instrs : List Instr) → IsRest (false ∷ open_ifs) instrs → IsRest open_ifs (Block result ∷ instrs)
behind_block result open_ifs _ (ends _ _ is rest s r) =
    let whole = put_before (block_of result is) (λ js t. in_block result is js s t) open_ifs rest r in
    simp append_assoc at whole

behind_loop : (result : Option ValType) (open_ifs : List Bool) (instrs : List Instr) → IsRest (false ∷ open_ifs) instrs → IsRest open_ifs (Loop result ∷ instrs)
behind_loop result open_ifs _ (ends _ _ is rest s r) =
    let whole = put_before (loop_of result is) (λ js t. in_loop result is js s t) open_ifs rest r in
    simp append_assoc at whole

closes-rest : (instrs : List Instr) (open_ifs : List Bool) → ClosesIn open_ifs instrs → IsRest open_ifs instrs
closes-rest [] open_ifs h = absurd h
closes-rest (Block result ∷ instrs) open_ifs h = behind_block result open_ifs instrs (closes-rest instrs (false ∷ open_ifs) h)
closes-rest (Loop result ∷ instrs) open_ifs h = behind_loop result open_ifs instrs (closes-rest instrs (false ∷ open_ifs) h)
closes-rest (If result ∷ instrs) open_ifs h = behind_if result open_ifs instrs (closes-rest instrs (true ∷ open_ifs) h)
closes-rest (Else ∷ instrs) [] h = absurd h
closes-rest (Else ∷ instrs) (true ∷ outer) h = turns outer [] instrs empty (closes-rest instrs (false ∷ outer) h)
closes-rest (Else ∷ instrs) (false ∷ outer) h = absurd h
closes-rest (End ∷ instrs) [] h = rw h (last [] empty)
closes-rest (End ∷ instrs) (may_else ∷ outer) h = ends may_else outer [] instrs empty (closes-rest instrs outer h)
closes-rest (i ∷ instrs) open_ifs h = put_before (i ∷ []) (λ is s. plain i is refl s) open_ifs instrs (closes-rest instrs open_ifs h)

rest-sequence : (instrs : List Instr) → IsRest [] instrs → IsEndedSequence instrs
rest-sequence _ (last is s) = record { sequence = is; by_grammar = s; whole = refl }

-- a list ends where its own end stands exactly where it is a sequence and its end
pub ends-sequence : (instrs : List Instr) → EndsOnce instrs ↔ IsEndedSequence instrs
ends-sequence instrs = (λ h. rest-sequence instrs (closes-rest instrs [] h), λ e. rw e.whole (closed-ends e.sequence (sequence-closed e.sequence e.by_grammar)))
