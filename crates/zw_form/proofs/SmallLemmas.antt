-- Numbers in a text of the form are of 32 bits: each is read so, and steps have no others.
use Rattle.std.proofs.Common.{◌≡◌, ℕ, ℤ, pos, negsuc, ◌+◌, ◌<◌, ◌^◌, Bool, true, false, ◌&&◌, nat_lt, if◌then◌else◌, List, [], ◌∷◌, ◌++◌, map, length, All, Option, Some, None, refl, subst}
use Rattle.std.specs.List.{filter, flat_map}
use Rattle.std.specs.Option.{option_map, option_and_then}
use Rattle.std.specs.Prelude.{IfSome}
use Rattle.std.proofs.lemmas.Bool.{and_parts, ltb-true}
use Rattle.std.proofs.lemmas.List.Elements.{All-nil, All-cons, All-head, All-tail, All-append}
use Rattle.zw_token.specs.declared.token.Token.{Token}
use Rattle.zw_token.specs.Numbers.{is_decimal}
use Rattle.zw_tree.specs.Numbering.{inside_first, siblings}
use Rattle.zw_tree.specs.Trees.{Forest, none, tree}
use Rattle.zw_tree.specs.declared.ast.Entry.{Entry}
use Rattle.zw_form.specs.Form.{FitsStep, HasForm, IsSmall}
use Rattle.zw_form.specs.Members.{Member, counts, members_behind, members_of, names_behind}
use Rattle.zw_form.specs.Nodes.{both, each, split_last, role_at, role_of, spelled, plain_name, introduced, number_in, is_number, operated, call_in, sum_by, sums_of, call_by, statement_of, only, return_by, returned, body_in, body_by, body_of, body_nodes, signature_of, extern_tree, export_tree, export_in, function_by, member_by, member_of}
use Rattle.zw_form.specs.Rules.{steps_of}
use Rattle.zw_form.specs.Trees.{Sum, Parameter, Number, Operate, Result, Sums, NoSum, More, CallStatement, Body, Tree, Export, count_of, sum_steps, args_steps, statement_steps, body_steps, declaration_of}
use Rattle.zw_form.specs.declared.roles.Role.{Role}
use Rattle.zw_form.specs.declared.roles.Role.TheVariants as role
use Rattle.zw_num.specs.declared.operator.Arithmetic.{Arithmetic}
use Rattle.zw_form.specs.declared.source.Step.{Step}
use Rattle.zw_form.specs.declared.source.Step.TheVariants as step
use Rattle.zw_form.proofs.FileRules.{form_light}

-- ---- what may be missing

module _ {A : Type 0} where
  -- of a value of any kind
  any : (o : Option A) → IfSome o (λ x. Unit {0})
  any None = tt
  any (Some x) = tt

  if-else : (P : A → Type 0) (b : Bool) (x : A) → P x → IfSome (if b then None else Some x) P
  if-else P true x h = tt
  if-else P false x h = h

  if-then : (P : A → Type 0) (b : Bool) (o : Option A) → IfSome o P → IfSome (if b then o else None) P
  if-then P true o h = h
  if-then P false o h = tt

module _ {A B : Type 0} (P : A → Type 0) (Q : B → Type 0) where
  mapped : (f : A → B) → ((x : A) → P x → Q (f x)) → (o : Option A) → IfSome o P → IfSome (option_map f o) Q
  mapped f step None h = tt
  mapped f step (Some x) h = step x h

  chained : (f : A → Option B) → ((x : A) → P x → IfSome (f x) Q) → (o : Option A) → IfSome o P → IfSome (option_and_then f o) Q
  chained f step None h = tt
  chained f step (Some x) h = step x h

module _ {A B C : Type 0} (P : A → Type 0) (Q : B → Type 0) (R : C → Type 0) where
  both-some : (f : A → B → C) → ((x : A) (y : B) → P x → Q y → R (f x y)) → (a : Option A) (b : Option B) → IfSome a P → IfSome b Q → IfSome (both f a b) R
  both-some f step None b h k = tt
  both-some f step (Some x) None h k = tt
  both-some f step (Some x) (Some y) h k = step x y h k

each-some : {A B : Type 0} (P : B → Type 0) (f : A → Option B) → ((x : A) → IfSome (f x) P) → (xs : List A) → IfSome (each f xs) (All P)
each-some P f step [] = All-nil P
each-some P f step (x ∷ xs) = both-some P (All P) (All P) (λ y ys. y ∷ ys) (All-cons P) (f x) (each f xs) (step x) (each-some P f step xs)

All-flat_map : {A B : Type 0} (P : B → Type 0) (f : A → List B) (xs : List A) → All (λ x. All P (f x)) xs → All P (flat_map f xs)
All-flat_map P f [] all = All-nil P
All-flat_map P f (x ∷ xs) all =
    All-append P (f x) (flat_map f xs) (All-head (λ y. All P (f y)) x xs all) (All-flat_map P f xs (All-tail (λ y. All P (f y)) x xs all))

-- ---- sums

record SumFits (s : Sum) : Type 0 where
  steps : All FitsStep (sum_steps s)

abbrev SumsFit : Sums → Type 0
SumsFit NoSum = Unit {0}
SumsFit (More sum others) = SumFits sum × SumsFit others

one-fits : (s : Step) → FitsStep s → All FitsStep (s ∷ [])
one-fits s h = All-cons FitsStep s [] h (All-nil FitsStep)

args-fit : (s : Sums) → SumsFit s → All FitsStep (args_steps s)
args-fit NoSum h = All-nil FitsStep
args-fit (More sum others) h = All-append FitsStep (sum_steps sum) (args_steps others) h.0.steps (args-fit others h.1)

number-fits : (digits : List ℕ) (o : Option ℤ) → IfSome (number_in digits o) (λ n. n < 2 ^ 32)
number-fits digits None = tt
number-fits digits (Some (negsuc n)) = tt
number-fits digits (Some (pos n)) = by (is_decimal digits && nat_lt n (2 ^ 32)) refl
  where
    by : (b : Bool) → (is_decimal digits && nat_lt n (2 ^ 32)) ≡ b → IfSome (if b then Some n else None) (λ m. m < 2 ^ 32)
    by true e = ltb-true n (2 ^ 32) (and_parts (is_decimal digits) (nat_lt n (2 ^ 32)) e).1
    by false e = tt

parameter-fits : (name : List ℕ) → SumFits (Parameter name)
parameter-fits name = record { steps = one-fits (step.Parameter name) tt }

operator-fits : (operator : Arithmetic) (left right : Sum) → SumFits left → SumFits right → SumFits (Operate operator left right)
operator-fits operator left right h k = record {
  steps = All-append FitsStep (sum_steps left) (sum_steps right ++ step.Operate operator ∷ []) h.steps
      (All-append FitsStep (sum_steps right) (step.Operate operator ∷ []) k.steps (one-fits (step.Operate operator) tt));
}

operated-fits : (operator : Arithmetic) (s : Sums) → SumsFit s → IfSome (operated operator s) SumFits
operated-fits operator NoSum h = tt
operated-fits operator (More left NoSum) h = tt
operated-fits operator (More left (More right NoSum)) h = if-else SumFits (is_number left && is_number right) (Operate operator left right) (operator-fits operator left right h.0 h.1.0)
operated-fits operator (More left (More right (More other others))) h = tt

call-fits : (s : Sums) → SumsFit s → IfSome (call_in s) (λ c. SumsFit c.args)
call-fits NoSum h = tt
call-fits (More (Parameter callee) args) h = h.1
call-fits (More (Number n) args) h = tt
call-fits (More (Operate operator left right) args) h = tt
call-fits (More (Result callee others) args) h = tt

called-fits : (c : CallStatement) (has_result : Bool) → SumsFit c.args → All FitsStep (args_steps c.args ++ step.Call (record { name = c.callee; args = count_of c.args; has_result = has_result }) ∷ [])
called-fits c has_result h =
    let call = step.Call (record { name = c.callee; args = count_of c.args; has_result = has_result }) in
    All-append FitsStep (args_steps c.args) (call ∷ []) (args-fit c.args h) (one-fits call tt)

result-fits : (c : CallStatement) → SumsFit c.args → SumFits (Result c.callee c.args)
result-fits c h = record { steps = called-fits c true h }

by-fits : (r : Role) (name : List ℕ) (number : Option ℕ) (below : Option Sums) → IfSome number (λ n. n < 2 ^ 32) → IfSome below SumsFit → IfSome (sum_by r name number below) SumFits
by-fits role.Identifier name number below small fit = mapped (λ n. Unit {0}) SumFits Parameter (λ n h. parameter-fits n) (plain_name name) (any (plain_name name))
by-fits role.QuotedIdentifier name number below small fit = parameter-fits name
by-fits role.Number name number below small fit = mapped (λ n. n < 2 ^ 32) SumFits Number (λ n h. record { steps = one-fits (step.Number n) h }) number small
by-fits (role.Operator operator) name number below small fit = chained SumsFit SumFits (operated operator) (operated-fits operator) below fit
by-fits role.Call name number below small fit =
    mapped (λ (c : CallStatement). SumsFit c.args) SumFits (λ (c : CallStatement). Result c.callee c.args) result-fits (option_and_then call_in below)
    (chained SumsFit (λ (c : CallStatement). SumsFit c.args) call_in call-fits below fit)
by-fits _ name number below small fit = tt

module _ (text : List ℕ) (tokens : List Token) where
  sums-fit : (f : Forest Entry) → IfSome (sums_of text tokens f) SumsFit
  sums-fit none = tt
  sums-fit (tree root below behind) =
      let number = number_in (spelled text tokens root.node.first) root.number in
      both-some SumFits SumsFit SumsFit More (λ sum others h k. (h, k)) (sum_by (role_of root.node.kind) root.name number (sums_of text tokens below)) (sums_of text tokens behind)
      (by-fits (role_of root.node.kind) root.name number (sums_of text tokens below) (number-fits (spelled text tokens root.node.first) root.number) (sums-fit below))
      (sums-fit behind)

  -- ---- bodies

  call_by-fits : (r : Role) (below : Option Sums) → IfSome below SumsFit → IfSome (call_by r below) (λ s. All FitsStep (statement_steps s))
  call_by-fits role.Call below fit =
      mapped-call (option_and_then call_in below) (chained SumsFit (λ (c : CallStatement). SumsFit c.args) call_in call-fits below fit)
    where
      mapped-call : (o : Option CallStatement) → IfSome o (λ c. SumsFit c.args) → IfSome o (λ c. All FitsStep (statement_steps c))
      mapped-call None h = tt
      mapped-call (Some c) h = called-fits c false h
  call_by-fits _ below fit = tt

  only-fits : (s : Sums) → SumsFit s → IfSome (only s) SumFits
  only-fits NoSum h = tt
  only-fits (More sum NoSum) h = h.0
  only-fits (More sum (More other others)) h = tt

  return_by-fits : (r : Role) (below : Option Sums) → IfSome below SumsFit → IfSome (return_by r below) SumFits
  return_by-fits role.Return below fit = chained SumsFit SumFits only only-fits below fit
  return_by-fits _ below fit = tt

  body_in-fits : (parts : List (Forest Entry) × Forest Entry) → IfSome (body_in text tokens parts) (λ b. All FitsStep (body_steps b))
  body_in-fits parts =
      both-some (All (λ (s : CallStatement). All FitsStep (statement_steps s))) SumFits (λ (b : Body). All FitsStep (body_steps b))
      (λ statements sum. record { statements = statements; sum = sum })
      (λ statements sum h k. All-append FitsStep (flat_map statement_steps statements) (sum_steps sum) (All-flat_map FitsStep statement_steps statements h) k.steps)
      (each (statement_of text tokens) parts.0) (returned text tokens parts.1)
      (each-some (λ (s : CallStatement). All FitsStep (statement_steps s)) (statement_of text tokens) (λ t. call_by-fits (role_at t) (sums_of text tokens (inside_first t)) (sums-fit (inside_first t))) parts.0)
      (return_by-fits (role_at parts.1) (sums_of text tokens (inside_first parts.1)) (sums-fit (inside_first parts.1)))

  body_by-fits : (r : Role) (parts : List (Forest Entry)) → IfSome (body_by r text tokens parts) (λ b. All FitsStep (body_steps b))
  body_by-fits role.Block parts =
      chained (λ p. Unit {0}) (λ (b : Body). All FitsStep (body_steps b)) (body_in text tokens) (λ p h. body_in-fits p) (split_last parts) (any (split_last parts))
  body_by-fits _ parts = tt

  -- ---- functions

  export-fits : (name : List ℕ) (signature : List (List ℕ) × Bool) (t : Forest Entry) → IfSome (export_tree name signature (body_of text tokens t)) (λ d. All FitsStep (steps_of (declaration_of d)))
  export-fits name signature t =
      if-then (λ (d : Tree). All FitsStep (steps_of (declaration_of d))) signature.1 (option_map (Export name signature.0) (body_of text tokens t))
      (mapped (λ (b : Body). All FitsStep (body_steps b)) (λ (d : Tree). All FitsStep (steps_of (declaration_of d))) (Export name signature.0) (λ b h. h) (body_of text tokens t)
      (body_by-fits (role_at t) (siblings (inside_first t))))

  function-fits : (r : Role) (parts : List (Forest Entry)) (name : List ℕ) → IfSome (function_by r text tokens parts name) (λ d. All FitsStep (steps_of (declaration_of d)))
  function-fits role.Extern parts name =
      mapped (λ s. Unit {0}) (λ (d : Tree). All FitsStep (steps_of (declaration_of d))) (extern_tree name) (λ s h. All-nil FitsStep) (signature_of parts) (any (signature_of parts))
  function-fits role.Export parts name =
      chained (λ p. Unit {0}) (λ (d : Tree). All FitsStep (steps_of (declaration_of d))) (export_in text tokens name)
      (λ p h. chained (λ s. Unit {0}) (λ (d : Tree). All FitsStep (steps_of (declaration_of d))) (λ signature. export_tree name signature (body_of text tokens p.1))
      (λ signature k. export-fits name signature p.1) (signature_of p.0) (any (signature_of p.0)))
      (split_last parts) (any (split_last parts))
  function-fits _ parts name = tt

  member_by-fits : (r : Role) (parts : List (Forest Entry)) → IfSome (member_by r text tokens parts) (λ d. All FitsStep (steps_of (declaration_of d)))
  member_by-fits role.Function [] = tt
  member_by-fits role.Function (linkage ∷ []) = tt
  member_by-fits role.Function (linkage ∷ (name ∷ parts)) =
      chained (λ n. Unit {0}) (λ (d : Tree). All FitsStep (steps_of (declaration_of d))) (function_by (role_at linkage) text tokens parts)
      (λ n h. function-fits (role_at linkage) parts n) (introduced name) (any (introduced name))
  member_by-fits _ parts = tt

  all-fit : (fs : List (Forest Entry)) (nodes : ℕ) (names : List (List ℕ)) (trees : List Tree) → map (λ (m : Member). m.declares) (members_behind text tokens fs nodes names) ≡ map (λ (t : Tree). Some t) trees
      → All (λ (t : Tree). All FitsStep (steps_of (declaration_of t))) trees
  all-fit [] nodes names [] h = All-nil (λ (t : Tree). All FitsStep (steps_of (declaration_of t)))
  all-fit [] nodes names (t ∷ ts) h = absurd (cc)
  all-fit (here ∷ behind) nodes names [] h = absurd (cc)
  all-fit (here ∷ behind) nodes names (t ∷ ts) h =
      let first : member_of text tokens here ≡ Some t = cc in
      let after = nodes + length (body_nodes here) in
      let behind_names = names_behind names (member_of text tokens here) in
      let rest : map (λ (m : Member). m.declares) (members_behind text tokens behind after behind_names) ≡ map (λ (t : Tree). Some t) ts = cc in
      All-cons (λ (t : Tree). All FitsStep (steps_of (declaration_of t))) t ts
      (subst (λ o. IfSome o (λ (d : Tree). All FitsStep (steps_of (declaration_of d)))) first (member_by-fits (role_at here) (siblings (inside_first here))))
      (all-fit behind after behind_names ts rest)

-- a text of the form is small
pub form_small : (text : List ℕ) (trees : List Tree) → HasForm text trees → IsSmall trees
form_small text trees form = record {
  weights_are_small = form_light (members_of text form.tokens form.file) trees form.declares form.light;
  numbers_fit = all-fit text form.tokens (filter (counts text form.tokens) (siblings (inside_first form.file))) 0 [] trees form.declares;
}
