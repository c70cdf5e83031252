-- Work that is put together, and what tasks and nodes add to it.
use Rattle.std.proofs.Common.{◌≡◌, ◌≢◌, ℕ, zero, suc, ◌+◌, ◌-◌, ◌*◌, ◌<◌, ◌≤◌, Bool, true, false, ◌&&◌, List, [], ◌∷◌, ◌++◌, map, length, drop, get_or, drop-cons, add-one, Option, Some, None, if◌then◌else◌, append-nil, append_assoc, refl, sym, ap, ◌∙◌, subst, arith}
use Rattle.std.proofs.lemmas.List.{map_push}
use Rattle.std.specs.Option.{option_map, option_and_then}
use Rattle.zw_token.specs.declared.token.Token.{Token}
use Rattle.zw_tree.specs.Numbering.{from, inside_first, after, behind_first, siblings}
use Rattle.zw_tree.specs.Trees.{Forest, none, tree, count}
use Rattle.zw_tree.specs.declared.ast.Entry.{Entry}
use Rattle.zw_form.specs.Nodes.{both, role_of, role_at, name_at, plain_name, mentioned, mention_by, number_in, spelled, is_number, operated, call_in, number_at, token_at, sum_by, sum_of, sums_of, only, return_by, returned, each, split_last, statement_of, body_in, body_by, body_of}
use Rattle.zw_form.specs.Trees.{Sum, Parameter, Number, Operate, Result, Sums, NoSum, More, CallStatement, count_of, sum_steps, sum_callees, args_steps, args_callees}
use Rattle.zw_form.specs.Work.{Work, no_work, ◌▷◌, sum_work, args_work, call_work, statements_work, body_work, task_work, tasks_work, task_weight, tasks_weight, AreOperands, sums_in, done, planned, Begins, Finishes, Reads}
use Rattle.zw_form.specs.declared.roles.Role.{Role}
use Rattle.zw_form.specs.declared.roles.Role.TheVariants as role
use Rattle.zw_num.specs.declared.operator.Arithmetic.{Arithmetic}
use Rattle.zw_form.specs.declared.source.Step.{Step}
use Rattle.zw_form.specs.declared.source.Step.TheVariants as step
use Rattle.zw_form.specs.declared.sums.Reader.{Reader}
use Rattle.zw_form.specs.declared.sums.Task.{Task}
use Rattle.zw_form.specs.declared.sums.Task.TheVariants.{Children, Take}

pub then-none : (a : Option Work) → (a ▷ None) ≡ None
then-none None = refl
then-none (Some x) = refl

pub then-assoc : (a b c : Option Work) → ((a ▷ b) ▷ c) ≡ (a ▷ (b ▷ c))
then-assoc None b c = refl
then-assoc (Some x) None c = refl
then-assoc (Some x) (Some y) None = refl
then-assoc (Some x) (Some y) (Some z) = λ i. Some (append_assoc x.0 y.0 z.0 i, append_assoc x.1 y.1 z.1 i)

pub nothing-then : (a : Option Work) → (no_work ▷ a) ≡ a
nothing-then None = refl
nothing-then (Some x) = refl

pub then-nothing : (a : Option Work) → (a ▷ no_work) ≡ a
then-nothing None = refl
then-nothing (Some x) = λ i. Some (append-nil x.0 i, append-nil x.1 i)

-- a step that is taken comes to what is done
pub step-then : (steps : List Step) (callees : List (List ℕ)) (s : Step) (rest : Option Work) → (Some (steps ++ s ∷ [], callees) ▷ rest) ≡ (Some (steps, callees) ▷ (Some (s ∷ [], []) ▷ rest))
step-then steps callees s None = refl
step-then steps callees s (Some x) = λ i. Some (append_assoc steps (s ∷ []) x.0 i, callees ++ x.1)

-- and so does a name
pub name-then : (steps : List Step) (callees : List (List ℕ)) (name : List ℕ) (rest : Option Work) → (Some (steps, callees ++ name ∷ []) ▷ rest) ≡ (Some (steps, callees) ▷ (Some ([], name ∷ []) ▷ rest))
name-then steps callees name None = refl
name-then steps callees name (Some x) = λ i. Some (steps ++ x.0, append_assoc callees (name ∷ []) x.1 i)

pub split-last : {A : Type 0} (xs : List A) (x : A) → split_last (xs ++ x ∷ []) ≡ Some (xs, x)
split-last [] x = refl
split-last (y ∷ []) x = refl
split-last (y ∷ z ∷ zs) x = ap (option_map (λ p. (y ∷ p.0, p.1))) (split-last (z ∷ zs) x)

pub map-none : {A B : Type 0} (f : A → B) (o : Option A) → option_map f o ≡ None → o ≡ None
map-none f None h = refl
map-none f (Some x) h = absurd (cc)

pub both-none : {A B C : Type 0} (f : A → B → C) (a : Option A) → both f a None ≡ None
both-none f None = refl
both-none f (Some x) = refl

module _ (text : List ℕ) (tokens : List Token) where
  -- the last task is next
  pub tasks-push : (file : Forest Entry) (tasks : List Task) (task : Task) → tasks_work text tokens file (tasks ++ task ∷ []) ≡ (task_work text tokens file task ▷ tasks_work text tokens file tasks)
  tasks-push file [] task = nothing-then (task_work text tokens file task) ∙ sym (then-nothing (task_work text tokens file task))
  tasks-push file (t ∷ ts) task =
      ap (λ w. w ▷ task_work text tokens file t) (tasks-push file ts task)
      ∙ then-assoc (task_work text tokens file task) (tasks_work text tokens file ts) (task_work text tokens file t)

  -- a sum and then others
  pub more-work : (s : Option Sum) (others : Option Sums) → option_map args_work (both More s others) ≡ (option_map sum_work s ▷ option_map args_work others)
  more-work None others = refl
  more-work (Some s) None = refl
  more-work (Some s) (Some others) = refl

  pub sums-siblings : (f : Forest Entry) → sums_of text tokens f ≡ sums_in text tokens (siblings f)
  sums-siblings none = refl
  sums-siblings (tree root below behind) = ap (both More (sum_of text tokens (tree root below behind))) (sums-siblings behind)

  -- where no tree stands there is nothing to do
  pub none-work : (f : Forest Entry) → f ≡ none → option_map args_work (sums_of text tokens f) ≡ no_work
  none-work f h = ap (λ f. option_map args_work (sums_of text tokens f)) h

  -- the first of some trees, and then the others
  pub first-work : (f c : Forest Entry) → c ≡ f → 0 < count c → option_map args_work (sums_of text tokens f) ≡ (option_map sum_work (sum_of text tokens c) ▷ option_map args_work (sums_of text tokens (behind_first f)))
  first-work none c same some = let size = ap count same in absurd (omega arith)
  first-work (tree root below behind) c same some =
      more-work (sum_of text tokens (tree root below behind)) (sums_of text tokens behind)
      ∙ ap (λ t. option_map sum_work (sum_of text tokens t) ▷ option_map args_work (sums_of text tokens behind)) (sym same)

pub after-suc : {A : Type 0} (k : ℕ) (f : Forest A) → after (suc k) f ≡ behind_first (after k f)
after-suc zero f = refl
after-suc (suc k) f = after-suc k (behind_first f)

-- ---- names

-- a name that is mentioned is a parameter
pub mentioned-sum : (r : Role) (name : List ℕ) (number : Option ℕ) (below : Option Sums) (found : List ℕ) → mention_by r name ≡ Some found → sum_by r name number below ≡ Some (Parameter found)
mentioned-sum role.Identifier name number below found h = ap (option_map Parameter) h
mentioned-sum role.QuotedIdentifier name number below found h = ap (option_map Parameter) h
mentioned-sum role.Function name number below found h = absurd (cc)
mentioned-sum role.Extern name number below found h = absurd (cc)
mentioned-sum role.Export name number below found h = absurd (cc)
mentioned-sum role.Name name number below found h = absurd (cc)
mentioned-sum role.QuotedName name number below found h = absurd (cc)
mentioned-sum role.Parameter name number below found h = absurd (cc)
mentioned-sum role.Block name number below found h = absurd (cc)
mentioned-sum role.Return name number below found h = absurd (cc)
mentioned-sum role.Call name number below found h = absurd (cc)
mentioned-sum (role.Operator operator) name number below found h = absurd (cc)
mentioned-sum role.Number name number below found h = absurd (cc)
mentioned-sum role.Comptime name number below found h = absurd (cc)
mentioned-sum role.Other name number below found h = absurd (cc)

-- which sum a node is, by its part
shape : Sum → ℕ
shape (Parameter name) = 0
shape (Number n) = 1
shape (Operate operator left right) = 2
shape (Result callee args) = 3

shape_of : Role → ℕ
shape_of role.Identifier = 0
shape_of role.QuotedIdentifier = 0
shape_of role.Number = 1
shape_of (role.Operator operator) = 2
shape_of role.Call = 3
shape_of _ = 4

map_shape : {B : Type 0} (f : B → Sum) (k : ℕ) → ((b : B) → shape (f b) ≡ k) → (o : Option B) (s : Sum) → option_map f o ≡ Some s → shape s ≡ k
map_shape f k each None s h = absurd (cc)
map_shape f k each (Some b) s h = let same : f b ≡ s = cc in ap shape (sym same) ∙ each b

if_shape : (operator : Arithmetic) (left right s : Sum) (test : Bool) → (if test then None else Some (Operate operator left right)) ≡ Some s → shape s ≡ 2
unfolding shape
if_shape operator left right s true h = absurd (cc)
if_shape operator left right s false h = let same : Operate operator left right ≡ s = cc in ap shape (sym same)

operated_shape : (operator : Arithmetic) (below : Option Sums) (s : Sum) → option_and_then (operated operator) below ≡ Some s → shape s ≡ 2
operated_shape operator None s h = absurd (cc)
operated_shape operator (Some NoSum) s h = absurd (cc)
operated_shape operator (Some (More left NoSum)) s h = absurd (cc)
operated_shape operator (Some (More left (More right NoSum))) s h = if_shape operator left right s (is_number left && is_number right) h
operated_shape operator (Some (More left (More right (More other others)))) s h = absurd (cc)

shape_is : (r : Role) (name : List ℕ) (number : Option ℕ) (below : Option Sums) (s : Sum) → sum_by r name number below ≡ Some s → shape s ≡ shape_of r
unfolding shape shape_of
shape_is role.Identifier name number below s h = map_shape Parameter 0 (λ b. refl) (plain_name name) s h
shape_is role.QuotedIdentifier name number below s h = let same : Parameter name ≡ s = cc in ap shape (sym same)
shape_is role.Number name number below s h = map_shape Number 1 (λ b. refl) number s h
shape_is (role.Operator operator) name number below s h = operated_shape operator below s h
shape_is role.Call name number below s h = map_shape (λ (call : CallStatement). Result call.callee call.args) 3 (λ b. refl) (option_and_then call_in below) s h
shape_is role.Function name number below s h = absurd (cc)
shape_is role.Extern name number below s h = absurd (cc)
shape_is role.Export name number below s h = absurd (cc)
shape_is role.Name name number below s h = absurd (cc)
shape_is role.QuotedName name number below s h = absurd (cc)
shape_is role.Parameter name number below s h = absurd (cc)
shape_is role.Block name number below s h = absurd (cc)
shape_is role.Return name number below s h = absurd (cc)
shape_is role.Comptime name number below s h = absurd (cc)
shape_is role.Other name number below s h = absurd (cc)

number_role : (r : Role) → shape_of r ≡ 1 → r ≡ role.Number
unfolding shape_of
number_role role.Number h = refl
number_role role.Identifier h = absurd (omega arith)
number_role role.QuotedIdentifier h = absurd (omega arith)
number_role (role.Operator operator) h = absurd (omega arith)
number_role role.Call h = absurd (omega arith)
number_role role.Function h = absurd (omega arith)
number_role role.Extern h = absurd (omega arith)
number_role role.Export h = absurd (omega arith)
number_role role.Name h = absurd (omega arith)
number_role role.QuotedName h = absurd (omega arith)
number_role role.Parameter h = absurd (omega arith)
number_role role.Block h = absurd (omega arith)
number_role role.Return h = absurd (omega arith)
number_role role.Comptime h = absurd (omega arith)
number_role role.Other h = absurd (omega arith)

is_number-shape : (s : Sum) → shape s ≡ 1 → is_number s ≡ true
unfolding shape
is_number-shape (Parameter name) h = absurd (omega arith)
is_number-shape (Number n) h = refl
is_number-shape (Operate operator left right) h = absurd (omega arith)
is_number-shape (Result callee args) h = absurd (omega arith)

no_number-shape : (s : Sum) → shape s ≢ 1 → is_number s ≡ false
unfolding shape
no_number-shape (Parameter name) h = refl
no_number-shape (Number n) h = absurd (h refl)
no_number-shape (Operate operator left right) h = refl
no_number-shape (Result callee args) h = refl

-- a node is a number where that is its part
number-part : (r : Role) (name : List ℕ) (number : Option ℕ) (below : Option Sums) (s : Sum) → sum_by r name number below ≡ Some s → r ≡ role.Number → is_number s ≡ true
unfolding shape_of
number-part r name number below s h is = is_number-shape s (shape_is r name number below s h ∙ ap shape_of is)

other-part : (r : Role) (name : List ℕ) (number : Option ℕ) (below : Option Sums) (s : Sum) → sum_by r name number below ≡ Some s → r ≢ role.Number → is_number s ≡ false
other-part r name number below s h other = no_number-shape s (λ one. other (number_role r (sym (shape_is r name number below s h) ∙ one)))

-- a node that mentions no name is no parameter
unmentioned : (r : Role) (name : List ℕ) (number : Option ℕ) (below : Option Sums) → mention_by r name ≡ None → (found : List ℕ) → sum_by r name number below ≢ Some (Parameter found)
unfolding shape shape_of
unmentioned role.Identifier name number below h found is = let none = ap (option_map Parameter) h in cc
unmentioned role.QuotedIdentifier name number below h found is = cc
unmentioned role.Number name number below h found is = let s = shape_is role.Number name number below (Parameter found) is in omega (arith, s)
unmentioned (role.Operator operator) name number below h found is = let s = shape_is (role.Operator operator) name number below (Parameter found) is in omega (arith, s)
unmentioned role.Call name number below h found is = let s = shape_is role.Call name number below (Parameter found) is in omega (arith, s)
unmentioned role.Function name number below h found is = cc
unmentioned role.Extern name number below h found is = cc
unmentioned role.Export name number below h found is = cc
unmentioned role.Name name number below h found is = cc
unmentioned role.QuotedName name number below h found is = cc
unmentioned role.Parameter name number below h found is = cc
unmentioned role.Block name number below h found is = cc
unmentioned role.Return name number below h found is = cc
unmentioned role.Comptime name number below h found is = cc
unmentioned role.Other name number below h found is = cc

pub no-callee : (s : Option Sum) (others : Option Sums) → ((name : List ℕ) → s ≢ Some (Parameter name)) → option_and_then call_in (both More s others) ≡ None
no-callee None others h = refl
no-callee (Some s) None h = refl
no-callee (Some (Parameter name)) (Some others) h = absurd (h name refl)
no-callee (Some (Number n)) (Some others) h = refl
no-callee (Some (Operate operator left right)) (Some others) h = refl
no-callee (Some (Result callee args)) (Some others) h = refl

-- ---- calls

module _ (text : List ℕ) (tokens : List Token) where
  count-sums : (ts : List (Forest Entry)) (s : Sums) → sums_in text tokens ts ≡ Some s → count_of s ≡ length ts
  count-sums [] s h = let same : NoSum ≡ s = cc in ap count_of (sym same)
  count-sums (t ∷ ts) s h = by (sum_of text tokens t) (sums_in text tokens ts) (λ b e. count-sums ts b e) h
    where
      by : (a : Option Sum) (o : Option Sums) → ((b : Sums) → o ≡ Some b → count_of b ≡ length ts) → both More a o ≡ Some s → count_of s ≡ length (t ∷ ts)
      by None o rest h = absurd (cc)
      by (Some a) None rest h = absurd (cc)
      by (Some a) (Some b) rest h =
          let same : More a b ≡ s = cc in
          let counted = rest b refl in
          let whole = ap count_of (sym same) in
          omega (arith, counted, whole)

  call-made : (o : Option Sums) (name : List ℕ) (has_result : Bool) (args : ℕ) → ((a : Sums) → o ≡ Some a → args ≡ count_of a)
      → option_map (call_work has_result) (option_and_then call_in (both More (Some (Parameter name)) o))
      ≡ (Some ([], name ∷ []) ▷ (option_map args_work o ▷ Some (step.Call (record { name = name; args = args; has_result = has_result }) ∷ [], [])))
  call-made None name has_result args h = refl
  call-made (Some a) name has_result args h =
      let counted = h a refl in
      λ i. Some (
        args_steps a ++ step.Call (record { name = name; args = sym counted i; has_result = has_result }) ∷ [],
        name ∷ sym (append-nil (args_callees a)) i,
      )

  pub called-work : (f c : Forest Entry) → c ≡ f → 0 < count c → (name : List ℕ) → mentioned c ≡ Some name → (has_result : Bool) (args : ℕ) → args ≡ length (siblings f) - 1
      → option_map (call_work has_result) (option_and_then call_in (sums_of text tokens f))
      ≡ (Some ([], name ∷ []) ▷ (option_map args_work (sums_of text tokens (after 1 f)) ▷ Some (step.Call (record { name = name; args = args; has_result = has_result }) ∷ [], [])))
  called-work none c same some name found has_result args counted = let size = ap count same in absurd (omega arith)
  called-work (tree root below behind) c same some name found has_result args counted =
      let mention : mentioned (tree root below behind) ≡ Some name = ap mentioned (sym same) ∙ found in
      let first = mentioned-sum (role_of root.node.kind) root.name (number_in (spelled text tokens root.node.first) root.number) (sums_of text tokens below) name mention in
      ap (λ (s : Option Sum). option_map (call_work has_result) (option_and_then call_in (both More s (sums_of text tokens behind)))) first
      ∙ call-made (sums_of text tokens behind) name has_result args (λ a is.
      let size = count-sums (siblings behind) a (sym (sums-siblings text tokens behind) ∙ is) in
      omega (arith, size, counted))

  pub uncalled-work : (f c : Forest Entry) → c ≡ f → 0 < count c → mentioned c ≡ None → option_and_then call_in (sums_of text tokens f) ≡ None
  uncalled-work none c same some found = refl
  uncalled-work (tree root below behind) c same some found =
      let mention : mentioned (tree root below behind) ≡ None = ap mentioned (sym same) ∙ found in
      no-callee (sum_of text tokens (tree root below behind)) (sums_of text tokens behind)
      (unmentioned (role_of root.node.kind) root.name (number_in (spelled text tokens root.node.first) root.number) (sums_of text tokens below) mention)

  pub none-called : (f : Forest Entry) → f ≡ none → option_and_then call_in (sums_of text tokens f) ≡ None
  none-called f h = ap (λ f. option_and_then call_in (sums_of text tokens f)) h

  -- ---- operators

  operated-made : (operator : Arithmetic) (a b : Option Sum) → ((l r : Sum) → a ≡ Some l → b ≡ Some r → (is_number l && is_number r) ≡ false)
      → option_map sum_work (option_and_then (operated operator) (both More a (both More b (Some NoSum))))
      ≡ (option_map args_work (both More a (both More b (Some NoSum))) ▷ Some (step.Operate operator ∷ [], []))
  operated-made operator None b h = refl
  operated-made operator (Some l) None h = refl
  operated-made operator (Some l) (Some r) h =
      let op = step.Operate operator ∷ [] in
      ap (λ (test : Bool). option_map sum_work (if test then None else Some (Operate operator l r))) (h l r refl refl)
      ∙ (λ i. Some (
        sum_steps l ++ (sym (append-nil (sum_steps r)) i ++ op),
        sum_callees l ++ sym (append-nil (sum_callees r)) i,
      ))
      ∙ (λ i. Some (
        sym (append_assoc (sum_steps l) (sum_steps r ++ []) op) i,
        sym (append-nil (sum_callees l ++ (sum_callees r ++ []))) i,
      ))

  and-false : (a b : Bool) → b ≡ false → (a && b) ≡ false
  and-false true b h = h
  and-false false b h = refl

  false-and : (a b : Bool) → a ≡ false → (a && b) ≡ false
  false-and true b h = absurd (cc)
  false-and false b h = refl

  -- the part of a number, or another
  data Part (r : Role) : Type 0 where
    is_a_number : r ≡ role.Number → Part r
    is_another : r ≢ role.Number → Part r

  part : (r : Role) → Part r
  unfolding shape_of
  part r = by (shape_of r) refl
    where
      by : (k : ℕ) → shape_of r ≡ k → Part r
      by zero e = is_another (λ same. let one = ap shape_of same in omega arith)
      by (suc zero) e = is_a_number (number_role r e)
      by (suc (suc k)) e = is_another (λ same. let one = ap shape_of same in omega arith)

  pub operated-work : (operator : Arithmetic) (ts : List (Forest Entry)) → AreOperands ts → option_map sum_work (option_and_then (operated operator) (sums_in text tokens ts)) ≡ (option_map args_work (sums_in text tokens ts) ▷ Some (step.Operate operator ∷ [], []))
  operated-work operator [] h = absurd h
  operated-work operator (left ∷ []) h = absurd h
  operated-work operator (left ∷ right ∷ []) h =
      operated-made operator (sum_of text tokens left) (sum_of text tokens right) (λ l r l_is r_is. by (part (role_at left)) l r l_is r_is)
    where
      by : Part (role_at left) → (l r : Sum) → sum_of text tokens left ≡ Some l → sum_of text tokens right ≡ Some r → (is_number l && is_number r) ≡ false
      by (is_a_number is) l r l_is r_is = and-false (is_number l) (is_number r) (other-part (role_at right) _ _ _ r r_is (h is))
      by (is_another other) l r l_is r_is = false-and (is_number l) (is_number r) (other-part (role_at left) _ _ _ l l_is other)
  operated-work operator (left ∷ right ∷ other ∷ others) h = absurd h

  none-if : (operator : Arithmetic) (l r : Sum) → (is_number l && is_number r) ≡ true → operated operator (More l (More r NoSum)) ≡ None
  none-if operator l r h = ap (λ (test : Bool). if test then None else Some (Operate operator l r)) h

  one-operand : (operator : Arithmetic) (a : Option Sum) → option_and_then (operated operator) (both More a (Some NoSum)) ≡ None
  one-operand operator None = refl
  one-operand operator (Some a) = refl

  two-numbers : (operator : Arithmetic) (a b : Option Sum) → ((l r : Sum) → a ≡ Some l → b ≡ Some r → (is_number l && is_number r) ≡ true) → option_and_then (operated operator) (both More a (both More b (Some NoSum))) ≡ None
  two-numbers operator None b h = refl
  two-numbers operator (Some l) None h = refl
  two-numbers operator (Some l) (Some r) h = none-if operator l r (h l r refl refl)

  more-operands : (operator : Arithmetic) (a b c : Option Sum) (ds : Option Sums) → option_and_then (operated operator) (both More a (both More b (both More c ds))) ≡ None
  more-operands operator None b c ds = refl
  more-operands operator (Some a) None c ds = refl
  more-operands operator (Some a) (Some b) None ds = refl
  more-operands operator (Some a) (Some b) (Some c) None = refl
  more-operands operator (Some a) (Some b) (Some c) (Some ds) = refl

  true-and : (a b : Bool) → a ≡ true → b ≡ true → (a && b) ≡ true
  true-and true b g h = h
  true-and false b g h = absurd (cc)

  pub no-operands : (operator : Arithmetic) (ts : List (Forest Entry)) → (AreOperands ts → ⊥) → option_and_then (operated operator) (sums_in text tokens ts) ≡ None
  no-operands operator [] h = refl
  no-operands operator (left ∷ []) h = one-operand operator (sum_of text tokens left)
  no-operands operator (left ∷ right ∷ []) h = by (part (role_at left)) (part (role_at right))
    where
      by : Part (role_at left) → Part (role_at right) → option_and_then (operated operator) (sums_in text tokens (left ∷ right ∷ [])) ≡ None
      by (is_another other) second = absurd (h (λ is. absurd (other is)))
      by (is_a_number is) (is_another other) = absurd (h (λ same. other))
      by (is_a_number is) (is_a_number same) =
          two-numbers operator (sum_of text tokens left) (sum_of text tokens right) (λ l r l_is r_is.
          true-and (is_number l) (is_number r) (number-part (role_at left) _ _ _ l l_is is) (number-part (role_at right) _ _ _ r r_is same))
  no-operands operator (left ∷ right ∷ other ∷ others) h = more-operands operator (sum_of text tokens left) (sum_of text tokens right) (sum_of text tokens other) (sums_in text tokens others)

  -- ---- what is put before what was still to be done

  two-tasks : (file : Forest Entry) (tasks tasks₁ tasks₂ : List Task) (first second : Task) → tasks₁ ≡ tasks ++ first ∷ [] → tasks₂ ≡ tasks₁ ++ second ∷ []
      → tasks_work text tokens file tasks₂ ≡ (task_work text tokens file second ▷ (task_work text tokens file first ▷ tasks_work text tokens file tasks))
  two-tasks file tasks tasks₁ tasks₂ first second e₁ e₂ =
      ap (tasks_work text tokens file) e₂
      ∙ tasks-push text tokens file tasks₁ second
      ∙ ap (λ w. task_work text tokens file second ▷ w) (ap (tasks_work text tokens file) e₁ ∙ tasks-push text tokens file tasks first)

  pub call-begun : (file : Forest Entry) (n c : ℕ) → from file c ≡ inside_first (from file n) → 0 < count (from file c) → (name : List ℕ) → mentioned (from file c) ≡ Some name
      → (has_result : Bool) (args : ℕ) → args ≡ length (siblings (inside_first (from file n))) - 1
      → (steps : List Step) (callees callees₁ : List (List ℕ)) (tasks tasks₁ tasks₂ : List Task)
      → callees₁ ≡ callees ++ name ∷ []
      → tasks₁ ≡ tasks ++ Take (step.Call (record { name = name; args = args; has_result = has_result })) ∷ []
      → tasks₂ ≡ tasks₁ ++ Children n 1 ∷ []
      → (Some (steps, callees₁) ▷ tasks_work text tokens file tasks₂) ≡ (Some (steps, callees) ▷ (option_map (call_work has_result) (option_and_then call_in (sums_of text tokens (inside_first (from file n)))) ▷ tasks_work text tokens file tasks))
  call-begun file n c same some name found has_result args counted steps callees callees₁ tasks tasks₁ tasks₂ named e₁ e₂ =
      let W = tasks_work text tokens file tasks in
      let C : Option Work = Some (step.Call (record { name = name; args = args; has_result = has_result }) ∷ [], []) in
      let A = task_work text tokens file (Children n 1) in
      let N : Option Work = Some ([], name ∷ []) in
      let both_tasks = two-tasks file tasks tasks₁ tasks₂ (Take (step.Call (record { name = name; args = args; has_result = has_result }))) (Children n 1) e₁ e₂ in
      (λ i. Some (steps, named i) ▷ both_tasks i)
      ∙ name-then steps callees name (A ▷ (C ▷ W))
      ∙ ap (λ w. Some (steps, callees) ▷ (N ▷ w)) (sym (then-assoc A C W))
      ∙ ap (λ w. Some (steps, callees) ▷ w) (sym (then-assoc N (A ▷ C) W))
      ∙ ap (λ w. Some (steps, callees) ▷ (w ▷ W)) (sym (called-work (inside_first (from file n)) (from file c) same some name found has_result args counted))

  pub operator-begun : (file : Forest Entry) (n : ℕ) (operator : Arithmetic) → AreOperands (siblings (inside_first (from file n)))
      → (steps : List Step) (callees : List (List ℕ)) (tasks tasks₁ tasks₂ : List Task)
      → tasks₁ ≡ tasks ++ Take (step.Operate operator) ∷ []
      → tasks₂ ≡ tasks₁ ++ Children n 0 ∷ []
      → (Some (steps, callees) ▷ tasks_work text tokens file tasks₂) ≡ (Some (steps, callees) ▷ (option_map sum_work (option_and_then (operated operator) (sums_of text tokens (inside_first (from file n)))) ▷ tasks_work text tokens file tasks))
  operator-begun file n operator operands steps callees tasks tasks₁ tasks₂ e₁ e₂ =
      let W = tasks_work text tokens file tasks in
      let C : Option Work = Some (step.Operate operator ∷ [], []) in
      let f = inside_first (from file n) in
      let A = task_work text tokens file (Children n 0) in
      let list = sums-siblings text tokens f in
      let work = ap (λ (s : Option Sums). option_map sum_work (option_and_then (operated operator) s)) list ∙ operated-work operator (siblings f) operands ∙ ap (λ (s : Option Sums). option_map args_work s ▷ C) (sym list) in
      ap (λ w. Some (steps, callees) ▷ w)
      (two-tasks file tasks tasks₁ tasks₂ (Take (step.Operate operator)) (Children n 0) e₁ e₂ ∙ sym (then-assoc A C W) ∙ ap (λ w. w ▷ W) (sym work))

  -- a root is read, and then the others are still to be read
  pub next-begun : (file : Forest Entry) (n k c : ℕ) → from file c ≡ after k (inside_first (from file n)) → 0 < count (from file c)
      → (done : Option Work) (tasks tasks₁ : List Task) (next : ℕ) → next ≡ k + 1 → tasks₁ ≡ tasks ++ Children n next ∷ []
      → (done ▷ (option_map sum_work (sum_of text tokens (from file c)) ▷ tasks_work text tokens file tasks₁)) ≡ (done ▷ (task_work text tokens file (Children n k) ▷ tasks_work text tokens file tasks))
  next-begun file n k c same some done tasks tasks₁ next is e =
      let f = inside_first (from file n) in
      let S = option_map sum_work (sum_of text tokens (from file c)) in
      let W = tasks_work text tokens file tasks in
      let one : next ≡ suc k = omega arith in
      let rest = ap (λ j. option_map args_work (sums_of text tokens (after j f))) one ∙ ap (λ g. option_map args_work (sums_of text tokens g)) (after-suc k f) in
      ap (λ w. done ▷ (S ▷ w)) (ap (tasks_work text tokens file) e ∙ tasks-push text tokens file tasks (Children n next) ∙ ap (λ w. w ▷ W) rest)
      ∙ ap (λ w. done ▷ w) (sym (then-assoc S (option_map args_work (sums_of text tokens (behind_first (after k f)))) W))
      ∙ ap (λ w. done ▷ (w ▷ W)) (sym (first-work text tokens (after k f) (from file c) same some))

  pub next-none : (file : Forest Entry) (n k c : ℕ) → from file c ≡ after k (inside_first (from file n)) → 0 < count (from file c) → option_map sum_work (sum_of text tokens (from file c)) ≡ None → task_work text tokens file (Children n k) ≡ None
  next-none file n k c same some none_there =
      let f = after k (inside_first (from file n)) in
      first-work text tokens f (from file c) same some ∙ ap (λ w. w ▷ option_map args_work (sums_of text tokens (behind_first f))) none_there

  -- nothing is left below a node
  pub nothing-next : (file : Forest Entry) (n k : ℕ) → after k (inside_first (from file n)) ≡ none → (done rest : Option Work) → (done ▷ rest) ≡ (done ▷ (task_work text tokens file (Children n k) ▷ rest))
  nothing-next file n k gone done rest =
      ap (λ w. done ▷ w) (sym (nothing-then rest) ∙ ap (λ w. w ▷ rest) (sym (none-work text tokens (after k (inside_first (from file n))) gone)))

  -- a task is popped
  pub task-popped : (file : Forest Entry) (tasks tasks₁ : List Task) (task : Task) → tasks ≡ tasks₁ ++ task ∷ [] → tasks_work text tokens file tasks ≡ (task_work text tokens file task ▷ tasks_work text tokens file tasks₁)
  task-popped file tasks tasks₁ task e = ap (tasks_work text tokens file) e ∙ tasks-push text tokens file tasks₁ task

  -- ---- what a reader has read

  pub next-begins : (file : Forest Entry) (n k c : ℕ) → from file c ≡ after k (inside_first (from file n)) → 0 < count (from file c)
      → (old mid new : Reader) (next : ℕ) → next ≡ k + 1 → done mid ≡ done old → mid.tasks.items ≡ old.tasks.items ++ Children n next ∷ []
      → (ok : Bool) → Begins text tokens file ok mid new (option_map sum_work (sum_of text tokens (from file c))) → Begins text tokens file ok old new (task_work text tokens file (Children n k))
  next-begins file n k c same some old mid new next is as_before e true h =
      h
      ∙ ap (λ d. d ▷ (option_map sum_work (sum_of text tokens (from file c)) ▷ tasks_work text tokens file mid.tasks.items)) as_before
      ∙ next-begun file n k c same some (done old) old.tasks.items mid.tasks.items next is e
  next-begins file n k c same some old mid new next is as_before e false h = next-none file n k c same some h

  pub taken : (file : Forest Entry) (s : Step) (steps steps₁ : List Step) (callees : List (List ℕ)) (tasks tasks₁ : List Task) → tasks ≡ tasks₁ ++ Take s ∷ [] → steps₁ ≡ steps ++ s ∷ []
      → (Some (steps₁, callees) ▷ tasks_work text tokens file tasks₁) ≡ (Some (steps, callees) ▷ tasks_work text tokens file tasks)
  taken file s steps steps₁ callees tasks tasks₁ popped pushed =
      ap (λ (st : List Step). Some (st, callees) ▷ tasks_work text tokens file tasks₁) pushed
      ∙ step-then steps callees s (tasks_work text tokens file tasks₁)
      ∙ ap (λ w. Some (steps, callees) ▷ w) (sym (task-popped file tasks tasks₁ (Take s) popped))

  pub begun : (file : Forest Entry) (task : Task) (whole : Option Work) (tasks tasks₁ : List Task) → tasks ≡ tasks₁ ++ task ∷ []
      → (whole ▷ (task_work text tokens file task ▷ tasks_work text tokens file tasks₁)) ≡ (whole ▷ tasks_work text tokens file tasks)
  begun file task whole tasks tasks₁ popped = ap (λ w. whole ▷ w) (sym (task-popped file tasks tasks₁ task popped))

  pub not-begun : (file : Forest Entry) (task : Task) (whole : Option Work) (tasks tasks₁ : List Task) → tasks ≡ tasks₁ ++ task ∷ [] → task_work text tokens file task ≡ None
      → (whole ▷ tasks_work text tokens file tasks) ≡ None
  not-begun file task whole tasks tasks₁ popped no_task =
      ap (λ w. whole ▷ w) (task-popped file tasks tasks₁ task popped ∙ ap (λ w. w ▷ tasks_work text tokens file tasks₁) no_task) ∙ then-none whole

  pub all-done : (file : Forest Entry) (reader : Reader) → reader.tasks.items ≡ [] → planned text tokens file reader ≡ done reader
  all-done file reader e = ap (λ ts. done reader ▷ tasks_work text tokens file ts) e ∙ then-nothing (done reader)

  -- what was begun is finished
  pub finished : (file : Forest Entry) (old mid new : Reader) (work : Option Work) → old.tasks.items ≡ []
      → planned text tokens file mid ≡ (done old ▷ (work ▷ tasks_work text tokens file old.tasks.items))
      → (ok : Bool) → Finishes text tokens file ok mid new → Reads ok old new work
  finished file old mid new work empty begun true h = (sym (begun ∙ ap (λ ts. done old ▷ (work ▷ tasks_work text tokens file ts)) empty ∙ ap (λ w. done old ▷ w) (then-nothing work)) ∙ h.0, h.1)
  finished file old mid new work empty begun false h =
      by work (sym (begun ∙ ap (λ ts. done old ▷ (work ▷ tasks_work text tokens file ts)) empty ∙ ap (λ w. done old ▷ w) (then-nothing work)) ∙ h)
    where
      by : (w : Option Work) → (done old ▷ w) ≡ None → w ≡ None
      by None h = refl
      by (Some w) h = absurd (cc)

  only-work : (t : Option Sum) → option_map args_work (both More t (Some NoSum)) ≡ option_map sum_work (option_and_then only (both More t (Some NoSum)))
  only-work None = refl
  only-work (Some s) = λ i. Some (append-nil (sum_steps s) i, append-nil (sum_callees s) i)

  pub one-sum : (ts : List (Forest Entry)) → length ts ≡ 1 → option_map args_work (sums_in text tokens ts) ≡ option_map sum_work (option_and_then only (sums_in text tokens ts))
  one-sum [] h = absurd (omega arith)
  one-sum (t ∷ []) h = only-work (sum_of text tokens t)
  one-sum (t ∷ u ∷ us) h = absurd (omega arith)

  two-sums : (t u : Option Sum) (us : Option Sums) → option_and_then only (both More t (both More u us)) ≡ None
  two-sums None u us = refl
  two-sums (Some t) None us = refl
  two-sums (Some t) (Some u) None = refl
  two-sums (Some t) (Some u) (Some us) = refl

  pub no-one-sum : (ts : List (Forest Entry)) → length ts ≢ 1 → option_and_then only (sums_in text tokens ts) ≡ None
  no-one-sum [] h = refl
  no-one-sum (t ∷ []) h = absurd (h (omega arith))
  no-one-sum (t ∷ u ∷ us) h = two-sums (sum_of text tokens t) (sum_of text tokens u) (sums_in text tokens us)

  return-role : (t : Forest Entry) → role_at t ≡ role.Return → returned text tokens t ≡ option_and_then only (sums_of text tokens (inside_first t))
  return-role t is = ap (λ r. return_by r (sums_of text tokens (inside_first t))) is

  pub no-return : (t : Forest Entry) → role_at t ≡ role.Return → length (siblings (inside_first t)) ≢ 1 → option_map sum_work (returned text tokens t) ≡ None
  no-return t is other =
      ap (option_map sum_work) (return-role t is ∙ ap (option_and_then only) (sums-siblings text tokens (inside_first t)) ∙ no-one-sum (siblings (inside_first t)) other)

  pub return-begun : (file : Forest Entry) (n : ℕ) → role_at (from file n) ≡ role.Return → length (siblings (inside_first (from file n))) ≡ 1
      → (whole : Option Work) (tasks tasks₁ : List Task) → tasks₁ ≡ tasks ++ Children n 0 ∷ []
      → (whole ▷ tasks_work text tokens file tasks₁) ≡ (whole ▷ (option_map sum_work (returned text tokens (from file n)) ▷ tasks_work text tokens file tasks))
  return-begun file n is one whole tasks tasks₁ e =
      let f = inside_first (from file n) in
      let list = sums-siblings text tokens f in
      let same : task_work text tokens file (Children n 0) ≡ option_map sum_work (returned text tokens (from file n)) =
      ap (option_map args_work) list ∙ one-sum (siblings f) one ∙ ap (λ (s : Option Sums). option_map sum_work (option_and_then only s)) (sym list) ∙ ap (option_map sum_work) (sym (return-role (from file n) is)) in
      ap (λ w. whole ▷ w) (task-popped file tasks₁ tasks (Children n 0) e ∙ ap (λ w. w ▷ tasks_work text tokens file tasks) same)

  -- a statement, and then others
  pub statements-more : (s : Option CallStatement) (others : Option (List CallStatement)) → option_map statements_work (both (λ y ys. y ∷ ys) s others) ≡ (option_map (call_work false) s ▷ option_map statements_work others)
  statements-more None others = refl
  statements-more (Some s) None = refl
  statements-more (Some s) (Some others) = refl

  -- a statement of a list is read
  pub statement-then : (file : Forest Entry) (xs : List ℕ) (i : ℕ) → i < length xs → (old new : Reader) (whole : Option Work)
      → (done old ▷ option_map (call_work false) (statement_of text tokens (from file (get_or xs i 0)))) ≡ done new
      → (done old ▷ option_map statements_work (each (statement_of text tokens) (map (from file) (drop i xs)))) ≡ whole
      → (done new ▷ option_map statements_work (each (statement_of text tokens) (map (from file) (drop (i + 1) xs)))) ≡ whole
  statement-then file xs i lt old new whole read before =
      let S = option_map (call_work false) (statement_of text tokens (from file (get_or xs i 0))) in
      let rest = option_map statements_work (each (statement_of text tokens) (map (from file) (drop (suc i) xs))) in
      ap (λ j. done new ▷ option_map statements_work (each (statement_of text tokens) (map (from file) (drop j xs)))) (add-one i)
      ∙ ap (λ d. d ▷ rest) (sym read)
      ∙ then-assoc (done old) S rest
      ∙ ap (λ w. done old ▷ w) (sym (statements-more (statement_of text tokens (from file (get_or xs i 0))) (each (statement_of text tokens) (map (from file) (drop (suc i) xs)))))
      ∙ ap (λ ys. done old ▷ option_map statements_work (each (statement_of text tokens) (map (from file) ys))) (sym (drop-cons xs i 0 lt))
      ∙ before

  -- a body's statements and its return
  pub body-parts : (file : Forest Entry) (n : ℕ) → role_at (from file n) ≡ role.Block → (children statements : List ℕ) (last : ℕ)
      → map (from file) children ≡ siblings (inside_first (from file n)) → children ≡ statements ++ last ∷ []
      → body_of text tokens (from file n) ≡ body_in text tokens (map (from file) statements, from file last)
  body-parts file n is children statements last below split =
      ap (λ r. body_by r text tokens (siblings (inside_first (from file n)))) is
      ∙ ap (λ ts. option_and_then (body_in text tokens) (split_last ts)) (sym below ∙ ap (map (from file)) split ∙ map_push (from file) statements last)
      ∙ ap (option_and_then (body_in text tokens)) (split-last (map (from file) statements) (from file last))

  pub no-statements : (statements : List (Forest Entry)) (last : Forest Entry) → option_map statements_work (each (statement_of text tokens) statements) ≡ None → body_in text tokens (statements, last) ≡ None
  no-statements statements last h = ap (λ (a : Option (List CallStatement)). both (λ statements sum. record { statements = statements; sum = sum }) a (returned text tokens last)) (map-none statements_work (each (statement_of text tokens) statements) h)

  pub no-result : (statements : List (Forest Entry)) (last : Forest Entry) → option_map sum_work (returned text tokens last) ≡ None → body_in text tokens (statements, last) ≡ None
  no-result statements last h =
      ap (λ (b : Option Sum). both (λ statements sum. record { statements = statements; sum = sum }) (each (statement_of text tokens) statements) b) (map-none sum_work (returned text tokens last) h)
      ∙ both-none (λ statements sum. record { statements = statements; sum = sum }) (each (statement_of text tokens) statements)

  body-joined : (a : Option (List CallStatement)) (b : Option Sum) → option_map body_work (both (λ statements sum. record { statements = statements; sum = sum }) a b) ≡ (option_map statements_work a ▷ option_map sum_work b)
  body-joined None b = refl
  body-joined (Some a) None = refl
  body-joined (Some a) (Some b) = refl

  pub body-read : (statements : List (Forest Entry)) (last : Forest Entry) (r₀ r₁ r₂ : Reader) → r₀.steps ≡ [] → r₀.callees ≡ []
      → (done r₀ ▷ option_map statements_work (each (statement_of text tokens) statements)) ≡ done r₁
      → (done r₁ ▷ option_map sum_work (returned text tokens last)) ≡ done r₂
      → option_map body_work (body_in text tokens (statements, last)) ≡ done r₂
  body-read statements last r₀ r₁ r₂ no_steps no_callees first second =
      let A = option_map statements_work (each (statement_of text tokens) statements) in
      let B = option_map sum_work (returned text tokens last) in
      body-joined (each (statement_of text tokens) statements) (returned text tokens last)
      ∙ ap (λ w. w ▷ B) (sym (nothing-then A))
      ∙ (λ i. (Some (sym no_steps i, sym no_callees i) ▷ A) ▷ B)
      ∙ ap (λ d. d ▷ B) first
      ∙ second

  identifier-sum : (r : Role) (name : List ℕ) (number : Option ℕ) (below : Option Sums) → r ≡ role.Identifier → option_map Parameter (mention_by r name) ≡ sum_by r name number below
  identifier-sum r name number below is = ap (λ r. option_map Parameter (mention_by r name)) is ∙ sym (ap (λ r. sum_by r name number below) is)

  pub parameter-begins : (file : Forest Entry) (n : ℕ) → role_at (from file n) ≡ role.Identifier → (ok : Bool) (old new : Reader)
      → Begins text tokens file ok old new (option_map sum_work (option_map Parameter (mentioned (from file n)))) → Begins text tokens file ok old new (option_map sum_work (sum_of text tokens (from file n)))
  parameter-begins file n is ok old new h =
      let t = from file n in
      subst (λ (s : Option Sum). Begins text tokens file ok old new (option_map sum_work s)) (identifier-sum (role_at t) (name_at t) (number_in (spelled text tokens (token_at t)) (number_at t)) (sums_of text tokens (inside_first t)) is) h

-- ---- weights

pub weight-push : (file : Forest Entry) (tasks tasks₁ : List Task) (task : Task) → tasks₁ ≡ tasks ++ task ∷ [] → tasks_weight file tasks₁ ≡ tasks_weight file tasks + task_weight file task
weight-push file tasks tasks₁ task e = ap (tasks_weight file) e ∙ pushed tasks
  where
    pushed : (ts : List Task) → tasks_weight file (ts ++ task ∷ []) ≡ tasks_weight file ts + task_weight file task
    pushed [] = omega arith
    pushed (t ∷ ts) = let rest = pushed ts in omega (arith, rest)

pub behind-count : {A : Type 0} (f : Forest A) → count (behind_first f) ≤ count f
behind-count none = omega arith
behind-count (tree root below behind) = omega arith

pub first-count : {A : Type 0} (f c : Forest A) → c ≡ f → 0 < count c → count f ≡ suc (count (inside_first c) + count (behind_first f))
first-count none c same some = let size = ap count same in absurd (omega arith)
first-count (tree root below behind) c same some = ap (λ g. suc (count (inside_first g) + count behind)) (sym same)

pub next-weight : (file : Forest Entry) (n k c : ℕ) → from file c ≡ after k (inside_first (from file n)) → 0 < count (from file c)
    → (tasks tasks₁ : List Task) (next : ℕ) → next ≡ k + 1 → tasks₁ ≡ tasks ++ Children n next ∷ []
    → (weight : ℕ) → weight ≤ tasks_weight file tasks₁ + 3 * count (inside_first (from file c)) + 2
    → weight ≤ tasks_weight file tasks + 3 * count (after k (inside_first (from file n)))
next-weight file n k c same some tasks tasks₁ next is e weight h =
    let f = inside_first (from file n) in
    let pushed = weight-push file tasks tasks₁ (Children n next) e in
    let one : next ≡ suc k = omega arith in
    let rest = ap count (ap (λ j. after j f) one ∙ after-suc k f) in
    let whole = first-count (after k f) (from file c) same some in
    omega (arith, pushed, rest, whole, h)
