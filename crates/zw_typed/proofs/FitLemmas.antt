-- The function that is worked out by hand fits and is paid, and nodes that differ in one thing don't fit.
use Rattle.std.proofs.Common.{◌≡◌, refl, ℕ, ◌≤◌, List, [], ◌∷◌, None, true, false, inl, inr, arith}
use Rattle.std.specs.Prelude.{All, Ok}
use Rattle.std.proofs.lemmas.Int.{ints}
use Rattle.std.proofs.lemmas.List.Elements.{All-nil, All-cons, All-head}
use Rattle.zw_types.specs.TypeTrees as tree
use Rattle.zw_types.specs.TypeTrees.{TypeTree}
use Rattle.zw_values.specs.Coercions.{coercion}
use Rattle.zw_values.specs.Sameness.{is_same}
use Rattle.zw_typed.specs.NodeTypes.{IsStatement}
use Rattle.zw_typed.specs.FlowNodes.{node, nodes_from, Scope, Choose, InOrder, Target, Leave, Stop}
use Rattle.zw_typed.specs.FlowMeanings.{usize}
use Rattle.zw_typed.specs.FlowTypes.{Opened, IsEnded, Fits}
use Rattle.zw_typed.specs.FlowNeeds.{AreTurnsPaid}
use Rattle.zw_typed.specs.WorkedFlow.{u8, number, position, truth, get, set, plus, less, block, give, none, loop}
use Rattle.zw_typed.specs.WorkedFits.{block_out, declare, counts_up, turn_of, within, literal, with_positions, over_two, WorkedFits}
use Rattle.zw_typed.proofs.CallingLemmas.{one}

-- a type becomes itself by the first row
byte_row : coercion u8 None u8 ≡ Ok 1
unfolding is_same
byte_row = refl

void_row : coercion tree.VoidType None tree.VoidType ≡ Ok 1
unfolding is_same
void_row = refl

false_true : false ≡ true → ⊥
false_true e = cc

true_false : true ≡ false → ⊥
true_false e = cc

-- ---- what fits

number_fits : (n : ℕ) → n ≤ 255 → (around : List Opened) (live : List ℕ) → Fits within around live (number n)
number_fits n h around live = (omega arith, record { at_least = omega (arith, ints); at_most = omega (arith, ints, h) })

get_fits : (around : List Opened) → Fits within around (0 ∷ []) (get 0)
get_fits around = (omega arith, record { declared = refl; there = refl })

none_fits : (around : List Opened) (live : List ℕ) → Fits within around live none
none_fits around live = (tt, tt)

two_statements : All IsStatement (tree.VoidType ∷ tree.VoidType ∷ [])
two_statements = All-cons IsStatement tree.VoidType (tree.VoidType ∷ []) tt (one IsStatement tree.VoidType tt)

empty_fits : (around : List Opened) (live : List ℕ) → Fits within around live (block [])
empty_fits around live = (tt, (tt, All-nil IsStatement, tt))

declare_fits : Fits within [] [] (declare 0 (number 0))
declare_fits = (tt, (refl, record { behind = omega arith; there = refl; new = refl }, number_fits 0 (omega arith) [] []))

less_fits : (around : List Opened) → Fits within around (0 ∷ []) (less (get 0) (number 2))
less_fits around = (tt, (inl (refl, tt), (get_fits around, (number_fits 2 (omega arith) around (0 ∷ []), tt))))

plus_fits : (around : List Opened) → Fits within around (0 ∷ []) (plus (get 0) (number 1))
plus_fits around = (omega arith, (inl (tt, refl), (get_fits around, (number_fits 1 (omega arith) around (0 ∷ []), tt))))

set_fits : (around : List Opened) → Fits within around (0 ∷ []) (set 0 (plus (get 0) (number 1)))
set_fits around = (tt, (refl, record { declared = refl; there = refl }, plus_fits around))

abbrev opened : ℕ → Opened
opened t = record { target = t; ty = tree.VoidType }

abbrev out : List Opened
out = opened 0 ∷ []

both_fit : Fits within out (0 ∷ []) (node false tree.VoidType (InOrder (nodes_from (
    node false tree.VoidType (Target 1 (block [])) ∷ node false tree.VoidType (Target 2 (set 0 (plus (get 0) (number 1)))) ∷ []))))
both_fit = (
  tt,
  (
    tt,
    two_statements,
    (
      (tt, (refl, inr (1, void_row), empty_fits (opened 1 ∷ out) (0 ∷ []))),
      ((tt, (refl, inr (1, void_row), set_fits (opened 2 ∷ out))), tt),
    ),
  ),
)

leave_fits : Fits within out (0 ∷ []) (node false tree.NoReturnType (Leave 0 none))
leave_fits = (tt, (refl, (tree.VoidType, refl, inr (1, void_row)), none_fits out (0 ∷ [])))

loop_fits : Fits within [] (0 ∷ []) (loop 0 1 2 (less (get 0) (number 2)) (set 0 (plus (get 0) (number 1))) (block []))
loop_fits = (tt, (refl, inl refl, (tt, (refl, tt, (tt, (refl, inr (1, void_row), inl refl, less_fits out, both_fit, leave_fits))))))

give_fits : Fits within [] (0 ∷ []) (give (get 0))
give_fits = (tt, (refl, inr (1, byte_row), get_fits []))

three_statements : All IsStatement (tree.VoidType ∷ tree.VoidType ∷ tree.NoReturnType ∷ [])
three_statements =
    All-cons IsStatement tree.VoidType (tree.VoidType ∷ tree.NoReturnType ∷ []) tt
    (All-cons IsStatement tree.VoidType (tree.NoReturnType ∷ []) tt (one IsStatement tree.NoReturnType tt))

body_fits : Fits within [] [] counts_up.body
body_fits = (
  tt,
  (
    refl,
    one (λ k. IsEnded within [] k) 0 (record { ty = u8; own = record { behind = omega arith; there = refl; new = refl } }),
    (tt, (refl, three_statements, (declare_fits, (loop_fits, (give_fits, tt))))),
  ),
)

position_fits : (n : ℕ) → n ≤ 2 → Fits with_positions [] [] (position n)
position_fits n h = (omega arith, record { at_least = omega (arith, ints); at_most = omega (arith, ints, h) })

four_positions : All (λ (ty : TypeTree). ty ≡ usize) (usize ∷ usize ∷ usize ∷ usize ∷ [])
four_positions =
    All-cons (λ ty. ty ≡ usize) usize (usize ∷ usize ∷ usize ∷ []) refl (All-cons (λ ty. ty ≡ usize) usize (usize ∷ usize ∷ []) refl
    (All-cons (λ ty. ty ≡ usize) usize (usize ∷ []) refl (one (λ ty. ty ≡ usize) usize refl)))

captures_fit : Fits with_positions [] [] (over_two 0 1)
captures_fit = (
  tt,
  (
    refl,
    record {
      as_many = refl;
      numbers = four_positions;
      ends = refl;
      captures = (record { behind = omega arith; there = refl; new = refl }, (record { behind = omega arith; there = refl; new = refl }, tt));
    },
    tt,
    (position_fits 0 (omega arith), (position_fits 2 (omega arith), (position_fits 0 (omega arith), (position_fits 2 (omega arith), tt)))),
    (tt, (tt, All-nil IsStatement, tt)),
  ),
)

-- ---- what doesn't

undeclared : Fits within [] [] (get 0) → ⊥
undeclared h = false_true h.1.declared

twice : Fits within [] (0 ∷ []) (declare 0 (number 1)) → ⊥
twice h = true_false h.1.1.new

ends_outside : Fits within [] (0 ∷ []) (node false tree.VoidType (Scope (0 ∷ []) (block []))) → ⊥
ends_outside h = true_false (All-head (λ k. IsEnded within (0 ∷ []) k) 0 [] h.1.1).own.new

unknown : Fits within [] [] (node true tree.ComptimeIntType (Choose (truth true) (literal 1) (literal 2))) → ⊥
unknown h = h.0

comes_to_its_end : Fits within [] [] (block_out (block [] ∷ [])) → ⊥
comes_to_its_end h = false_true h.1.0

message : Fits within [] [] (node true tree.NoReturnType (Stop 18)) → ⊥
message h = absurd (omega (arith, h.1.1.1))

one_capture : Fits with_positions [] [] (over_two 0 0) → ⊥
one_capture h = true_false h.1.1.captures.1.0.new

uncounted : AreTurnsPaid (turn_of none) → ⊥
uncounted h = absurd (omega (arith, h.0))

pub worked_fits : WorkedFits
worked_fits = record {
  fits = record { body = body_fits; ends = inr refl };
  paid = record { turns = (tt, ((omega arith, ((tt, (tt, tt)), (tt, ((tt, (tt, tt)), tt)), tt)), (tt, tt))); body = omega arith };
  two = refl;
  first = refl;
  needs = refl;
  undeclared = undeclared;
  twice = twice;
  ends_outside = ends_outside;
  unknown = unknown;
  comes_to_its_end = comes_to_its_end;
  message = message;
  captures = captures_fit;
  one_capture = one_capture;
  uncounted = uncounted;
}
