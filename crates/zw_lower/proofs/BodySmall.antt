-- What evaluating gives is of 32 bits.
use Rattle.std.proofs.Common.{◌≡◌, ℕ, ℤ, pos, negsuc, ◌+◌, ◌<◌, ◌^◌, List, [], ◌∷◌, ◌++◌, length, Result, Ok, Err, refl, arith, All, Contains}
use Rattle.std.proofs.lemmas.List.Elements.{All-nil, All-cons, All-head}
use Rattle.std.specs.Prelude.{unsigned_abs}
use Rattle.std.specs.Option.{option_map}
use Rattle.std.specs.Result.{result_ok}
use Rattle.zw_num.specs.Meanings.{arithmetic}
use Rattle.zw_num.specs.declared.num_fault.NumFault.{NumFault}
use Rattle.zw_num.specs.declared.operator.Arithmetic.{Arithmetic}
use Rattle.zw_form.specs.Form.{FitsStep}
use Rattle.zw_form.specs.Rules.{IsKnown}
use Rattle.zw_form.specs.Source.{Answer, Gives, Stops, operator_value, or_overflow, event_of, asked, gives, and_then, sum_value, args_value}
use Rattle.zw_form.specs.Trees.{Sum, Parameter, Operate, Sums, NoSum, More, count_of, sum_steps, args_steps}
use Rattle.zw_form.specs.Trees as terms
use Rattle.zw_form.specs.declared.source.ExternFunction.{ExternFunction}
use Rattle.zw_form.specs.declared.source.Step.{Step}
use Rattle.zw_form.specs.declared.source.Step.TheVariants as step
use Rattle.zw_lower.proofs.ComesCompose.{IfGives, if_gives-then}
use Rattle.zw_lower.proofs.ListLemmas.{All-left, All-right}
use Rattle.zw_lower.proofs.OnU32.{IsNumberOrOverflow, arithmetic-is, in-word, never-below}
use Rattle.zw_safety.specs.Checked.{u32}
use Rattle.zw_session.specs.Sessions.{HostEvent}

-- a number of 32 bits
abbrev pub IsSmall : ℕ → Type 0
IsSmall n = n < 2 ^ 32

-- numbers for so many arguments
pub record AreArgs (count : ℕ) (numbers : List ℕ) : Type 0 where
  pub count_is : length numbers ≡ count
  pub small : All IsSmall numbers

-- the values of parameters and the numbers of steps are of 32 bits
pub record ReadsSmall (externs : List ExternFunction) (params : List (List ℕ)) (values : List ℕ → ℕ) (steps : List Step) : Type 0 where
  pub params_are : (name : List ℕ) → Contains params name → values name < 2 ^ 32
  pub known : All (IsKnown externs params) steps
  pub fits : All FitsStep steps

reads-left : {externs : List ExternFunction} {params : List (List ℕ)} {values : List ℕ → ℕ} → (steps others : List Step) → ReadsSmall externs params values (steps ++ others) → ReadsSmall externs params values steps
reads-left {externs = externs} {params = params} steps others h =
    record { params_are = h.params_are; known = All-left (IsKnown externs params) steps others h.known; fits = All-left FitsStep steps others h.fits }

reads-right : {externs : List ExternFunction} {params : List (List ℕ)} {values : List ℕ → ℕ} → (steps others : List Step) → ReadsSmall externs params values (steps ++ others) → ReadsSmall externs params values others
reads-right {externs = externs} {params = params} steps others h =
    record { params_are = h.params_are; known = All-right (IsKnown externs params) steps others h.known; fits = All-right FitsStep steps others h.fits }

value-small : (r : Result ℤ NumFault) (left : List ℕ) → IsNumberOrOverflow r → IfGives IsSmall (or_overflow (option_map unsigned_abs (result_ok r)) left).end
value-small (Ok (pos n)) left h = in-word n h
value-small (Ok (negsuc n)) left h = absurd (never-below n h)
value-small (Err fault) left h = tt

operator-small : (operator : Arithmetic) (x y : ℕ) (left : List ℕ) → IfGives IsSmall (or_overflow (operator_value operator x y) left).end
operator-small operator x y left = value-small (arithmetic operator u32 (pos x) (pos y)) left (arithmetic-is operator (pos x) (pos y))

asked-small : (event : HostEvent) (replies : List ℕ) → IfGives IsSmall (asked event replies).end
asked-small event [] = tt
asked-small event (reply ∷ replies) = omega arith

-- any value
abbrev pub IsAny : {V : Type 0} → V → Type 0
IsAny value = Unit {0}

pub gives-any : {V : Type 0} (end : Answer V) → IfGives IsAny end
gives-any (Gives value left) = tt
gives-any (Stops halt) = tt

pub sum-small : (externs : List ExternFunction) (params : List (List ℕ)) (values : List ℕ → ℕ) (s : Sum) (replies : List ℕ) → ReadsSmall externs params values (sum_steps s) → IfGives IsSmall (sum_value values s replies).end
sum-small externs params values (Parameter name) replies h =
    h.params_are name (All-head (IsKnown externs params) (step.Parameter name) [] h.known)
sum-small externs params values (terms.Number n) replies h = All-head FitsStep (step.Number n) [] h.fits
sum-small externs params values (Operate operator left right) replies h =
    let operate = step.Operate operator ∷ [] in
    let r = sum_value values left replies in
    let behind = reads-right (sum_steps left) (sum_steps right ++ operate) h in
    if_gives-then IsSmall IsSmall r.events r.end (λ x more. and_then (sum_value values right more) (λ y rest. or_overflow (operator_value operator x y) rest))
    (sum-small externs params values left replies (reads-left (sum_steps left) (sum_steps right ++ operate) h))
    (λ x more x_is.
    let o = sum_value values right more in
    if_gives-then IsSmall IsSmall o.events o.end (λ y rest. or_overflow (operator_value operator x y) rest)
    (sum-small externs params values right more (reads-left (sum_steps right) operate behind))
    (λ y rest y_is. operator-small operator x y rest))
sum-small externs params values (terms.Result callee args) replies h =
    let r = args_value values args replies in
    if_gives-then IsAny IsSmall r.events r.end (λ numbers left. asked (event_of callee numbers) left) (gives-any r.end) (λ numbers left any. asked-small (event_of callee numbers) left)

args-more : (count n : ℕ) (numbers : List ℕ) → n < 2 ^ 32 → AreArgs count numbers → AreArgs (count + 1) (n ∷ numbers)
args-more count n numbers small h =
    record { count_is = omega (arith, h.count_is); small = All-cons IsSmall n numbers small h.small }

pub args-small : (externs : List ExternFunction) (params : List (List ℕ)) (values : List ℕ → ℕ) (args : Sums) (replies : List ℕ) → ReadsSmall externs params values (args_steps args) → IfGives (AreArgs (count_of args)) (args_value values args replies).end
args-small externs params values NoSum replies h = record { count_is = refl; small = All-nil IsSmall }
args-small externs params values (More sum others) replies h =
    let r = sum_value values sum replies in
    if_gives-then IsSmall (AreArgs (count_of others + 1)) r.events r.end (λ n left. and_then (args_value values others left) (λ numbers more. gives (n ∷ numbers) more))
    (sum-small externs params values sum replies (reads-left (sum_steps sum) (args_steps others) h))
    (λ n left n_is.
    let a = args_value values others left in
    if_gives-then (AreArgs (count_of others)) (AreArgs (count_of others + 1)) a.events a.end (λ numbers more. gives (n ∷ numbers) more)
    (args-small externs params values others left (reads-right (sum_steps sum) (args_steps others) h))
    (λ numbers more are. args-more (count_of others) n numbers n_is are))
