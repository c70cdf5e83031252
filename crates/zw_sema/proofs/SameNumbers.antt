-- A file with another declaration of as many nodes: all numbers stay, so its analysis is the same.
use Rattle.std.proofs.Common.{◌≡◌, ◌≢◌, refl, ℕ, suc, ◌+◌, Bool, true, false, nat_eq, List, [], ◌∷◌, Option, Some, None, ap, sym, subst, ◌∙◌}
use Rattle.std.specs.Prelude.{map}
use Rattle.std.proofs.lemmas.Bool.{eqb-true, eq-eqb}
use Rattle.zw_tree.specs.Trees.{Forest, none, tree, count}
use Rattle.zw_tree.specs.declared.ast.Entry.{Entry}
use Rattle.zw_types.specs.TypeTrees as types
use Rattle.zw_types.specs.TypeTrees.{ValueTree}
use Rattle.zw_typed.specs.Nodes.{Op, Constant, TypedNode, TypedNodes, node, no_nodes, node_and}
use Rattle.zw_env.specs.Children.{tree_at, kind_of, declared_name, members, is_among}
use Rattle.zw_sema.specs.Walk.{RunPart, Progress, UnderWay, Analysed, Bound, State, is_declaration}
use Rattle.zw_sema.specs.Files.{Instance, Analysis, Accepted, Refused, NeedsMore, analysed, is_reached}
use Rattle.zw_sema.specs.Unreached.{IsAnother}
use Rattle.zw_sema.specs.Exchanged.{SayTheSame}
use Rattle.zw_sema.proofs.MovedValues.{moved_value, moved_known, moved_op, moved_node, moved_nodes, moved_run, moved_part}
use Rattle.zw_sema.proofs.MovedTrees.{Fits, Goes, says-itself}
use Rattle.zw_sema.proofs.MovedParts.{moved_bound, moved_progress, moved_declarations, moved_state}
use Rattle.zw_sema.proofs.MovedWalk.{IsMoved}
use Rattle.zw_sema.proofs.MovedFiles.{moved_instances, moved_analysis, file-moves}

-- ---- numbers that stay

abbrev pub itself : ℕ → ℕ
itself n = n

numbers-stay : (ns : List ℕ) → map itself ns ≡ ns
numbers-stay [] = refl
numbers-stay (n ∷ ns) = ap (λ (more : List ℕ). n ∷ more) (numbers-stay ns)

value-stays : (v : ValueTree) → moved_value itself v ≡ v
value-stays (types.FuncValue file n captures) = refl
value-stays _ = refl

op-stays : (op : Op) → moved_op itself op ≡ op
op-stays (Constant v) = ap (λ (w : ValueTree). Constant w) (value-stays v)
op-stays _ = refl

mutual
  node-stays : (n : TypedNode) → moved_node itself n ≡ n
  node-stays (node op ty kids) = ap (λ (o : Op). node o ty (moved_nodes itself kids)) (op-stays op) ∙ ap (λ (ns : TypedNodes). node op ty ns) (nodes-stay kids)

  nodes-stay : (ns : TypedNodes) → moved_nodes itself ns ≡ ns
  nodes-stay no_nodes = refl
  nodes-stay (node_and n ns) = ap (λ (m : TypedNode). node_and m (moved_nodes itself ns)) (node-stays n) ∙ ap (λ (ms : TypedNodes). node_and n ms) (nodes-stay ns)

known-stays : (known : Option ValueTree) → moved_known itself known ≡ known
known-stays None = refl
known-stays (Some v) = ap (λ (w : ValueTree). Some w) (value-stays v)

run-stays : (run : Option TypedNode) → moved_run itself run ≡ run
run-stays None = refl
run-stays (Some n) = ap (λ (m : TypedNode). Some m) (node-stays n)

part-stays : (part : RunPart) → moved_part itself part ≡ part
part-stays part =
    ap (λ (known : Option ValueTree). record { ty = part.ty; known = known; node = moved_run itself part.node }) (known-stays part.known)
    ∙ ap (λ (run : Option TypedNode). record { ty = part.ty; known = part.known; node = run }) (run-stays part.node)

bound-stays : (bs : List Bound) → moved_bound itself bs ≡ bs
bound-stays [] = refl
bound-stays (b ∷ bs) =
    ap (λ (part : RunPart). record { name = b.name; part = part } ∷ moved_bound itself bs) (part-stays b.part) ∙ ap (λ (more : List Bound). b ∷ more) (bound-stays bs)

progress-stays : (progress : Progress) → moved_progress itself progress ≡ progress
progress-stays UnderWay = refl
progress-stays (Analysed part) = ap (λ (p : RunPart). Analysed p) (part-stays part)

declarations-stay : (ds : List (ℕ × Progress)) → moved_declarations itself ds ≡ ds
declarations-stay [] = refl
declarations-stay ((n, progress) ∷ more) =
    ap (λ (p : Progress). (n, p) ∷ moved_declarations itself more) (progress-stays progress) ∙ ap (λ (ds : List (ℕ × Progress)). (n, progress) ∷ ds) (declarations-stay more)

state-stays : (state : State) → moved_state itself state ≡ state
state-stays state =
    ap (λ (bs : List Bound). record { counters = state.counters; bound = bs; result = state.result; declarations = moved_declarations itself state.declarations }) (bound-stays state.bound)
    ∙ ap (λ (ds : List (ℕ × Progress)). record { counters = state.counters; bound = state.bound; result = state.result; declarations = ds }) (declarations-stay state.declarations)

instances-stay : (instances : List Instance) → moved_instances itself instances ≡ instances
instances-stay [] = refl
instances-stay (i ∷ instances) =
    ap (λ (body : TypedNode). record { place = i.place; function = record { name = i.function.name; params = i.function.params; result = i.function.result; body = body } } ∷ moved_instances itself instances) (node-stays i.function.body)
    ∙ ap (λ (more : List Instance). i ∷ more) (instances-stay instances)

analysis-stays : (analysis : Analysis) → moved_analysis itself analysis ≡ analysis
analysis-stays (Accepted instances state) =
    ap (λ (is : List Instance). Accepted is (moved_state itself state)) (instances-stay instances) ∙ ap (λ (s : State). Accepted instances s) (state-stays state)
analysis-stays (Refused why place state) = ap (λ (s : State). Refused why place s) (state-stays state)
analysis-stays NeedsMore = refl

fits-itself : (f : Forest Entry) (n : ℕ) → Fits itself n f
fits-itself none n = tt
fits-itself (tree root inside behind) n = (λ m. refl, (refl, (refl, (fits-itself inside (suc n), fits-itself behind (suc (n + count inside))))))

-- ---- what the two files have in common

-- a member but the one that differs has the same tree
same_tree : (forest other : Forest Entry) (n : ℕ) → IsAnother forest other n → (m : ℕ) → is_among (members forest) m ≡ true → nat_eq m n ≡ false → tree_at other m ≡ tree_at forest m
same_tree forest other n alike m there apart = alike.others m there (λ e. differs (eq-eqb m n e) apart)
  where
    differs : nat_eq m n ≡ true → nat_eq m n ≡ false → ⊥
    differs a b = cc

-- a member's name, and whether it is a declaration, are the same
same_name : (forest other : Forest Entry) (n : ℕ) → IsAnother forest other n → (m : ℕ) → is_among (members forest) m ≡ true → declared_name (tree_at other m) ≡ declared_name (tree_at forest m)
same_name forest other n alike m there = by_test (nat_eq m n) refl
  where
    by_test : (same : Bool) → nat_eq m n ≡ same → declared_name (tree_at other m) ≡ declared_name (tree_at forest m)
    by_test false apart = ap declared_name (same_tree forest other n alike m there apart)
    by_test true e =
        ap (λ k. declared_name (tree_at other k)) (eqb-true m n e) ∙ alike.name ∙ ap (λ k. declared_name (tree_at forest k)) (sym (eqb-true m n e))

same_sort : (forest other : Forest Entry) (n : ℕ) → IsAnother forest other n → (m : ℕ) → is_among (members forest) m ≡ true → is_declaration (kind_of (tree_at other m)) ≡ is_declaration (kind_of (tree_at forest m))
same_sort forest other n alike m there = by_test (nat_eq m n) refl
  where
    by_test : (same : Bool) → nat_eq m n ≡ same → is_declaration (kind_of (tree_at other m)) ≡ is_declaration (kind_of (tree_at forest m))
    by_test false apart = ap (λ here. is_declaration (kind_of here)) (same_tree forest other n alike m there apart)
    by_test true e =
        ap (λ k. is_declaration (kind_of (tree_at other k))) (eqb-true m n e) ∙ alike.declares_too ∙ sym alike.declares
        ∙ ap (λ k. is_declaration (kind_of (tree_at forest k))) (sym (eqb-true m n e))

same_goes : (forest other : Forest Entry) (n : ℕ) → IsAnother forest other n → (m : ℕ) → is_among (members forest) m ≡ true → nat_eq m n ≡ false → Goes itself m (tree_at forest m) (tree_at other m)
same_goes forest other n alike m there apart =
    (subst (λ (f : Forest Entry). SayTheSame (tree_at forest m) f) (sym (same_tree forest other n alike m there apart)) (says-itself (tree_at forest m)), fits-itself (tree_at forest m) m)

another-moved : (forest other : Forest Entry) (n : ℕ) → IsAnother forest other n → IsMoved itself forest other n
another-moved forest other n alike = record {
  root = refl;
  numbers = alike.numbers ∙ sym (numbers-stay (members forest));
  apart = λ k there m. refl;
  names = λ k there. same_name forest other n alike k there;
  sorts = λ k there. same_sort forest other n alike k there;
  trees = λ k there apart. same_goes forest other n alike k there apart;
  waits = alike.waits;
  waits_too = alike.waits_too;
}

-- the analysis of the file with another declaration in its place
pub file-follows : (forest other : Forest Entry) (n bound : ℕ) → IsAnother forest other n → analysed bound forest ≢ NeedsMore → is_reached n (analysed bound forest) ≡ false → analysed bound other ≡ analysed bound forest
file-follows forest other n bound alike enough missed = file-moves itself forest other n bound (another-moved forest other n alike) enough missed ∙ analysis-stays (analysed bound forest)
