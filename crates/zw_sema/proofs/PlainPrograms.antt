-- No function of a well-formed program has the value of a function in it: its nodes are of types that the host sees, or of operands and statements. So it stays
-- what it is where functions have other numbers.
use Rattle.std.proofs.Common.{◌≡◌, refl, ℕ, zero, suc, inl, inr, Bool, true, false, List, [], ◌∷◌, ◌++◌, Option, Some, None, ap, sym, subst, ◌∙◌}
use Rattle.std.specs.Prelude.{◌&&◌, ◌||◌, Result, Ok, Err, All, slice_get, slice_index_or, if◌then◌else◌}
use Rattle.std.proofs.lemmas.List.Elements.{All-head, All-tail, All-nil}
use Rattle.zw_num.specs.declared.operator.Cast.{Cast}
use Rattle.zw_num.specs.declared.operator.Cast.TheVariants as cast
use Rattle.zw_num.specs.declared.operator.Comparison.{Comparison}
use Rattle.zw_num.specs.declared.operator.Logic.{Logic}
use Rattle.zw_num.specs.declared.operator.Logic.TheVariants as logic
use Rattle.zw_num.specs.declared.operator.Operator.{Operator}
use Rattle.zw_num.specs.declared.operator.Operator.TheVariants as family
use Rattle.zw_num.specs.declared.operator.Unary.{Unary}
use Rattle.zw_num.specs.declared.operator.Unary.TheVariants as one
use Rattle.zw_types.specs.TypeTrees as tree
use Rattle.zw_types.specs.TypeTrees.{TypeTree, ValueTree}
use Rattle.zw_types.specs.Readings.{type_at}
use Rattle.zw_values.specs.Sameness.{is_same}
use Rattle.zw_values.specs.Coercions.{Applies, Refuses, IsForOthers, coercion}
use Rattle.zw_values.proofs.SameLemmas.{is_same-true}
use Rattle.zw_typed.specs.declared.program.NodeOp.{NodeOp}
use Rattle.zw_typed.specs.declared.program.NodeOp.TheVariants as op
use Rattle.zw_typed.specs.declared.program.Node.{Node}
use Rattle.zw_typed.specs.declared.program.Func.{Func}
use Rattle.zw_typed.specs.declared.program.HostFunc.{HostFunc}
use Rattle.zw_typed.specs.declared.program.Export.{Export}
use Rattle.zw_typed.specs.declared.program.Program.{Program}
use Rattle.zw_typed.specs.Nodes.{Op, Constant, Argument, Operate, Become, Decide, CallHost, InOrder, Return, TypedNode, TypedNodes, node, no_nodes, node_and, type_of, types_of}
use Rattle.zw_typed.specs.ValueTypes.{IsValueOf}
use Rattle.zw_typed.specs.HostTypes.{is_shown_type, is_result_type, all_types}
use Rattle.zw_typed.specs.NodeTypes.{IsSized, IsCutTo, HasSameBits, IsMagnitude, UnaryFits, CountFits, OrderFits, OperandsFit, IsStatement, KidsFit, CastFits, LogicFits}
use Rattle.zw_typed.specs.Exports.{Exported}
use Rattle.zw_typed.specs.Programs.{types_at, import_or, op_read, no_node, kids_among, node_read, nodes_read, body_read, function_read, export_read, exports_read, exports_of, AreNodes, IsBody, IsFunc, IsHostFunc, IsShown, IsExport, IsWellFormed}
use Rattle.zw_sema.proofs.MovedValues.{moved_value, moved_op, moved_node, moved_nodes}
use Rattle.zw_sema.proofs.MovedMeanings.{moved_export, moved_exports}

-- ---- types without functions

abbrev pub IsPlain : TypeTree → Type 0
IsPlain (tree.FuncType params result comptime outside) = ⊥
IsPlain _ = Unit {0}

abbrev pub ArePlain : List TypeTree → Type 0
ArePlain [] = Unit {0}
ArePlain (ty ∷ types) = IsPlain ty × ArePlain types

value-stays : (to : ℕ → ℕ) (ty : TypeTree) (v : ValueTree) → IsPlain ty → IsValueOf ty v → moved_value to v ≡ v
value-stays to ty (tree.FuncValue file n captures) plain h = absurd (no_function ty plain h)
  where
    no_function : (of : TypeTree) → IsPlain of → IsValueOf of (tree.FuncValue file n captures) → ⊥
    no_function (tree.FuncType params result comptime outside) plain h = plain
    no_function (tree.IntType signed bits size) plain h = h
    no_function tree.ComptimeIntType plain h = h
    no_function tree.BoolType plain h = h
    no_function tree.VoidType plain h = h
    no_function tree.TypeType plain h = h
    no_function _ plain h = h
value-stays to ty _ plain h = refl

-- ---- the kids of a node

sized-plain : (ty : TypeTree) → IsSized ty → IsPlain ty
sized-plain (tree.IntType signed bits size) h = tt
sized-plain (tree.FuncType params result comptime outside) h = absurd h
sized-plain _ h = tt

cut-plain : (from ty : TypeTree) → IsCutTo from ty → IsPlain from
cut-plain (tree.FuncType params result comptime outside) ty h = absurd h
cut-plain _ ty h = tt

bits-plain : (from ty : TypeTree) → HasSameBits from ty → IsPlain from
bits-plain (tree.FuncType params result comptime outside) ty h = absurd h
bits-plain _ ty h = tt

magnitude-plain : (from ty : TypeTree) → IsMagnitude from ty → IsPlain from
magnitude-plain (tree.FuncType params result comptime outside) ty h = absurd h
magnitude-plain _ ty h = tt

count-plain : (from ty : TypeTree) → CountFits from ty → IsPlain from
count-plain (tree.FuncType params result comptime outside) ty h = absurd h
count-plain _ ty h = tt

same-plain : (from ty : TypeTree) → from ≡ ty → IsPlain ty → IsPlain from
same-plain from ty e plain = subst (λ (t : TypeTree). IsPlain t) (sym e) plain

unary-plain : (op : Unary) (from ty : TypeTree) → UnaryFits op from ty → IsPlain ty → IsPlain from
unary-plain one.Neg from ty (h, e) plain = same-plain from ty e plain
unary-plain one.NegWrap from ty (h, e) plain = same-plain from ty e plain
unary-plain one.BitNot from ty (h, e) plain = same-plain from ty e plain
unary-plain one.ByteSwap from ty (h, e) plain = same-plain from ty e plain
unary-plain one.BitReverse from ty (h, e) plain = same-plain from ty e plain
unary-plain one.Abs from ty h plain = magnitude-plain from ty h

order-plain : (op : Comparison) (a b : TypeTree) → OrderFits op a b → IsPlain a × IsPlain b
order-plain op (tree.IntType signed bits size) (tree.IntType signed' bits' size') h = (tt, tt)
order-plain op (tree.IntType signed bits size) _ h = absurd h
order-plain op tree.BoolType tree.BoolType h = (tt, tt)
order-plain op tree.BoolType _ h = absurd h
order-plain op _ b h = absurd h

are-plain : (kids types : List TypeTree) → kids ≡ types → ArePlain types → ArePlain kids
are-plain kids types e plain = subst (λ (ts : List TypeTree). ArePlain ts) (sym e) plain

all-plain : (ty : TypeTree) → IsPlain ty → (kids : List TypeTree) → All (λ a. a ≡ ty) kids → ArePlain kids
all-plain ty plain [] h = tt
all-plain ty plain (a ∷ kids) h = (same-plain a ty (All-head (λ t. t ≡ ty) a kids h) plain, all-plain ty plain kids (All-tail (λ t. t ≡ ty) a kids h))

cast-plain : (op : Cast) (kids : List TypeTree) (ty : TypeTree) → CastFits op kids ty → ArePlain kids
cast-plain cast.IntFromBool kids ty (e, is) = are-plain kids (tree.BoolType ∷ []) is (tt, tt)
cast-plain cast.IntCast (a ∷ []) ty (h, k) = (sized-plain a h, tt)
cast-plain cast.Truncate (a ∷ []) ty h = (cut-plain a ty h, tt)
cast-plain cast.BitCast (a ∷ []) ty h = (bits-plain a ty h, tt)
cast-plain _ kids ty h = absurd h

logic-plain : (op : Logic) (kids : List TypeTree) (ty : TypeTree) → LogicFits op kids ty → ArePlain kids
logic-plain logic.Not kids ty (e, is) = are-plain kids (tree.BoolType ∷ []) is (tt, tt)
logic-plain _ kids ty h = absurd h

operands-plain : (op : Operator) (kids : List TypeTree) (ty : TypeTree) → OperandsFit op kids ty → IsPlain ty → ArePlain kids
operands-plain (family.Arithmetic op) kids ty (h, e) plain = are-plain kids (ty ∷ ty ∷ []) e (plain, (plain, tt))
operands-plain (family.Division op) kids ty (h, e) plain = are-plain kids (ty ∷ ty ∷ []) e (plain, (plain, tt))
operands-plain (family.Bitwise op) kids ty (h, e) plain = are-plain kids (ty ∷ ty ∷ []) e (plain, (plain, tt))
operands-plain (family.Shift op) (a ∷ b ∷ []) ty (h, e, k) plain = (same-plain a ty e plain, (sized-plain b k, tt))
operands-plain (family.Unary op) (a ∷ []) ty h plain = (unary-plain op a ty h plain, tt)
operands-plain (family.Count op) (a ∷ []) ty h plain = (count-plain a ty h, tt)
operands-plain (family.Extreme op) kids ty (h, some, all) plain = all-plain ty plain kids all
operands-plain (family.Comparison op) (a ∷ b ∷ []) ty (e, h) plain = ((order-plain op a b h).0, ((order-plain op a b h).1, tt))
operands-plain (family.Cast op) kids ty h plain = cast-plain op kids ty h
operands-plain (family.Logic op) kids ty h plain = logic-plain op kids ty h
operands-plain _ kids ty h plain = absurd h

-- a function becomes of its own type alone
becomes-plain : (a ty : TypeTree) (row : ℕ) → coercion a None ty ≡ Ok row → IsPlain ty → IsPlain a
becomes-plain (tree.FuncType params result comptime outside) ty row e plain = by_same (is_same (tree.FuncType params result comptime outside) ty) refl e
  where
    by_same : (same : Bool) → is_same (tree.FuncType params result comptime outside) ty ≡ same →
        ◌≡◌ {A = Result ℕ ℕ} (elim (if same || false then Applies else IsForOthers) [ Applies ↦ Ok 1 | Refuses error ↦ Err error | IsForOthers ↦ Err 14 ]) (Ok row) → ⊥
    by_same true is same = subst (λ (t : TypeTree). IsPlain t) (sym (is_same-true (tree.FuncType params result comptime outside) ty is)) plain
    by_same false is same = cc
becomes-plain _ ty row e plain = tt

statement-plain : (ty : TypeTree) → IsStatement ty → IsPlain ty
statement-plain (tree.FuncType params result comptime outside) h = absurd h
statement-plain _ h = tt

statements-plain : (kids : List TypeTree) → All IsStatement kids → ArePlain kids
statements-plain [] h = tt
statements-plain (a ∷ kids) h = (statement-plain a (All-head IsStatement a kids h), statements-plain kids (All-tail IsStatement a kids h))

-- a call is of a function of the host with such parameters
abbrev pub CallsPlain : Op → Type 0
CallsPlain (CallHost import) = ArePlain import.params
CallsPlain _ = Unit {0}

kids-plain : (f : Exported) → IsPlain f.result → (op : Op) (ty : TypeTree) (kids : List TypeTree) → KidsFit f op ty kids → CallsPlain op → IsPlain ty → ArePlain kids
kids-plain f result (Constant value) ty kids (h, e) call plain = are-plain kids [] e tt
kids-plain f result (Argument k) ty kids (h, e) call plain = are-plain kids [] e tt
kids-plain f result (Operate op) ty kids h call plain = operands-plain op kids ty h plain
kids-plain f result Become ty (a ∷ []) (row, e) call plain = (becomes-plain a ty row e plain, tt)
kids-plain f result Become ty _ h call plain = absurd h
kids-plain f result (Decide logic) ty kids (h, e) call plain = are-plain kids (tree.BoolType ∷ tree.BoolType ∷ []) e (tt, (tt, tt))
kids-plain f result (CallHost import) ty kids (h, e) call plain = are-plain kids import.params e call
kids-plain f result InOrder ty kids (h, all) call plain = statements-plain kids all
kids-plain f result Return ty kids (h, e) call plain = are-plain kids (f.result ∷ []) e (result, tt)

op-stays : (to : ℕ → ℕ) (f : Exported) (op : Op) (ty : TypeTree) (kids : List TypeTree) → KidsFit f op ty kids → IsPlain ty → moved_op to op ≡ op
op-stays to f (Constant value) ty kids (h, e) plain = ap (λ (v : ValueTree). Constant v) (value-stays to ty value plain h)
op-stays to f _ ty kids h plain = refl

-- ---- nodes

abbrev mutual
  pub IsFitting : Exported → TypedNode → Type 0
  IsFitting f (node op ty kids) = KidsFit f op ty (types_of kids) × (CallsPlain op × AreFitting f kids)

  pub AreFitting : Exported → TypedNodes → Type 0
  AreFitting f no_nodes = Unit {0}
  AreFitting f (node_and n ns) = IsFitting f n × AreFitting f ns

mutual
  node-stays : (to : ℕ → ℕ) (f : Exported) → IsPlain f.result → (n : TypedNode) → IsFitting f n → IsPlain (type_of n) → moved_node to n ≡ n
  node-stays to f result (node op ty kids) (h, (call, k)) plain =
      ap (λ (o : Op). node o ty (moved_nodes to kids)) (op-stays to f op ty (types_of kids) h plain)
      ∙ ap (λ (ns : TypedNodes). node op ty ns) (nodes-stay to f result kids k (kids-plain f result op ty (types_of kids) h call plain))

  nodes-stay : (to : ℕ → ℕ) (f : Exported) → IsPlain f.result → (ns : TypedNodes) → AreFitting f ns → ArePlain (types_of ns) → moved_nodes to ns ≡ ns
  nodes-stay to f result no_nodes k plain = refl
  nodes-stay to f result (node_and n ns) (h, k) (first, plain) =
      ap (λ (m : TypedNode). node_and m (moved_nodes to ns)) (node-stays to f result n h first) ∙ ap (λ (ms : TypedNodes). node_and n ms) (nodes-stay to f result ns k plain)

-- ---- programs

all-at : {X : Type 0} (P : X → Type 0) (xs : List X) → All P xs → (k : ℕ) (found : Option X) → slice_get xs k ≡ found → (x : X) → found ≡ Some x → P x
all-at P [] h k None e x is = cc
all-at {X} P [] h zero (Some y) e x is = absurd (differs y e)
  where
    differs : (z : X) → ◌≡◌ {A = Option X} None (Some z) → ⊥
    differs z d = cc
all-at {X} P [] h (suc k) (Some y) e x is = absurd (differs y e)
  where
    differs : (z : X) → ◌≡◌ {A = Option X} None (Some z) → ⊥
    differs z d = cc
all-at {X} P (y ∷ xs) h zero found e x is = subst P (same (e ∙ is)) (All-head P y xs h)
  where
    same : ◌≡◌ {A = Option X} (Some y) (Some x) → y ≡ x
    same d = cc
all-at P (y ∷ xs) h (suc k) found e x is = all-at P xs (All-tail P y xs h) k found e x is

abbrev pub AreGood : Exported → List TypedNode → Type 0
AreGood f [] = Unit {0}
AreGood f (n ∷ ns) = IsFitting f n × AreGood f ns

good-append : (f : Exported) (known : List TypedNode) (n : TypedNode) → AreGood f known → IsFitting f n → AreGood f (known ++ n ∷ [])
good-append f [] n k h = (h, tt)
good-append f (m ∷ known) n (j, k) h = (j, good-append f known n k h)

none-good : (f : Exported) → IsFitting f no_node
none-good f = ((tt, All-nil IsStatement), (tt, tt))

good-at : (f : Exported) (known : List TypedNode) → AreGood f known → (k : ℕ) → IsFitting f (slice_index_or known k no_node)
good-at f [] h k = none-good f
good-at f (n ∷ known) (h, more) zero = h
good-at f (n ∷ known) (h, more) (suc k) = good-at f known more k

kids-good : (f : Exported) (known : List TypedNode) → AreGood f known → (ks : List ℕ) → AreFitting f (kids_among known ks)
kids-good f known h [] = tt
kids-good f known h (k ∷ ks) = (good-at f known h k, kids-good f known h ks)

shown-plain : (types : List TypeTree) → all_types is_shown_type types ≡ true → ArePlain types
shown-plain [] e = tt
shown-plain (tree.FuncType params result comptime outside ∷ types) e = cc
shown-plain (tree.IntType signed bits size ∷ types) e = (tt, shown-plain types (and-right (is_shown_type (tree.IntType signed bits size)) (all_types is_shown_type types) e))
  where
    and-right : (a b : Bool) → (a && b) ≡ true → b ≡ true
    and-right true b d = d
    and-right false b d = cc
shown-plain (tree.BoolType ∷ types) e = (tt, shown-plain types e)
shown-plain (_ ∷ types) e = cc

call-plain : (p : Program) → All (IsHostFunc p) p.imports → (k : ℕ) → ArePlain (import_or p.types.trees (slice_get p.imports k)).params
call-plain p h k = by_found (slice_get p.imports k) refl
  where
    by_found : (found : Option HostFunc) → slice_get p.imports k ≡ found → ArePlain (import_or p.types.trees found).params
    by_found None e = tt
    by_found (Some f) e = let host = all-at (IsHostFunc p) p.imports h k (Some f) e f refl in shown-plain (types_at p.types.trees f.params) host.shown

calls-plain : (p : Program) → All (IsHostFunc p) p.imports → (what : NodeOp) → CallsPlain (op_read p.types.trees p.imports what)
calls-plain p h (op.CallHost k) = call-plain p h k
calls-plain p h (op.Constant value) = tt
calls-plain p h (op.Argument k) = tt
calls-plain p h (op.Operate name) = tt
calls-plain p h op.Become = tt
calls-plain p h op.And = tt
calls-plain p h op.Or = tt
calls-plain p h op.InOrder = tt
calls-plain p h op.Return = tt

read-good : (p : Program) → All (IsHostFunc p) p.imports → (f : Exported) (known : List TypedNode) → AreGood f known → (ns : List Node) → AreNodes p f known ns → AreGood f (nodes_read p.types.trees p.imports known ns)
read-good p h f known good [] k = good
read-good p h f known good (n ∷ ns) (is, k) =
    read-good p h f (known ++ node_read p.types.trees p.imports known n ∷ [])
    (good-append f known (node_read p.types.trees p.imports known n) good (is.kids, (calls-plain p h n.op, kids-good f known good n.kids))) ns k

result-plain : (ty : TypeTree) → is_result_type ty ≡ true → IsPlain ty
result-plain (tree.FuncType params result comptime outside) e = cc
result-plain _ e = tt

body-plain : (result body : TypeTree) → IsPlain result → IsBody result body → IsPlain body
body-plain result body plain (inl e) = same-plain body result e plain
body-plain result body plain (inr e) = same-plain body tree.NoReturnType e tt

function-stays : (to : ℕ → ℕ) (p : Program) → All (IsHostFunc p) p.imports → (name : List ℕ) (f : Func) → IsFunc p f → is_result_type (type_at p.types.trees f.result) ≡ true →
    moved_export to (function_read p.types.trees p.imports name f) ≡ function_read p.types.trees p.imports name f
function-stays to p h name f is shown =
    ap (λ (body : TypedNode). record { name = name; params = types_at p.types.trees f.params; result = type_at p.types.trees f.result; body = body })
    (node-stays to own plain (body_read p.types.trees p.imports f)
    (good-at own (nodes_read p.types.trees p.imports [] f.nodes) (read-good p h own [] tt f.nodes is.nodes) f.body)
    (body-plain (type_at p.types.trees f.result) (type_of (body_read p.types.trees p.imports f)) plain is.ends))
  where
    own : Exported
    own = function_read p.types.trees p.imports [] f

    plain : IsPlain (type_at p.types.trees f.result)
    plain = result-plain (type_at p.types.trees f.result) shown

moved-append : (to : ℕ → ℕ) (fs gs : List Exported) → moved_exports to (fs ++ gs) ≡ moved_exports to fs ++ moved_exports to gs
moved-append to [] gs = refl
moved-append to (f ∷ fs) gs = ap (λ (more : List Exported). moved_export to f ∷ more) (moved-append to fs gs)

export-stays : (to : ℕ → ℕ) (p : Program) → IsWellFormed p → (e : Export) → IsExport p e → moved_exports to (export_read p.types.trees p.imports e.name (slice_get p.funcs e.func)) ≡ export_read p.types.trees p.imports e.name (slice_get p.funcs e.func)
export-stays to p w e is = by_found (slice_get p.funcs e.func) refl is.func
  where
    by_found : (found : Option Func) → slice_get p.funcs e.func ≡ found → IsShown p found → moved_exports to (export_read p.types.trees p.imports e.name found) ≡ export_read p.types.trees p.imports e.name found
    by_found None there shown = absurd shown
    by_found (Some f) there (params, result) =
        ap (λ (g : Exported). g ∷ []) (function-stays to p w.imports e.name f (all-at (IsFunc p) p.funcs w.funcs e.func (Some f) there f refl) result)

exports-stay : (to : ℕ → ℕ) (p : Program) → IsWellFormed p → (es : List Export) → All (IsExport p) es →
    moved_exports to (exports_read p.types.trees p.imports p.funcs es) ≡ exports_read p.types.trees p.imports p.funcs es
exports-stay to p w [] h = refl
exports-stay to p w (e ∷ es) h =
    moved-append to (export_read p.types.trees p.imports e.name (slice_get p.funcs e.func)) (exports_read p.types.trees p.imports p.funcs es)
    ∙ ap (λ (fs : List Exported). fs ++ moved_exports to (exports_read p.types.trees p.imports p.funcs es)) (export-stays to p w e (All-head (IsExport p) e es h))
    ∙ ap (λ (fs : List Exported). export_read p.types.trees p.imports e.name (slice_get p.funcs e.func) ++ fs) (exports-stay to p w es (All-tail (IsExport p) e es h))

-- the functions of a well-formed program stay where functions have other numbers
pub program-stays : (to : ℕ → ℕ) (p : Program) → IsWellFormed p → moved_exports to (exports_of p) ≡ exports_of p
program-stays to p w = exports-stay to p w p.exports w.exports
