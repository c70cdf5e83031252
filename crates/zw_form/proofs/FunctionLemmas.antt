-- What the parts of a function are.
use Rattle.std.proofs.Common.{◌≡◌, ℕ, suc, ◌+◌, ◌<◌, Bool, true, false, List, [], ◌∷◌, ◌++◌, map, length, drop, get_or, drop-cons, add-one, Option, Some, None, append-nil, append_assoc, refl, sym, ap, ◌∙◌}
use Rattle.std.specs.Option.{option_map, option_and_then}
use Rattle.std.proofs.lemmas.List.{map_push}
use Rattle.zw_token.specs.declared.token.Token.{Token}
use Rattle.zw_tree.specs.Trees.{Forest}
use Rattle.zw_tree.specs.declared.ast.Entry.{Entry}
use Rattle.zw_form.specs.Nodes.{both, each, split_last, param_of, type_of, signature_in, signature_of, body_of, export_tree, export_in, function_by}
use Rattle.zw_form.specs.Trees.{Body, Export, declaration_of}
use Rattle.zw_form.specs.Work.{body_work}
use Rattle.zw_form.specs.declared.roles.Role.TheVariants as role
use Rattle.zw_form.specs.declared.source.Declaration.TheVariants as source
use Rattle.zw_form.specs.declared.source.Step.{Step}
use Rattle.zw_form.proofs.WorkLemmas.{split-last, both-none}

-- a list of which each is something
module _ {A B : Type 0} (P : A → Option B) (F : ℕ → A) (xs : List ℕ) (i : ℕ) (names : List B) (whole : Option (List B)) (before : option_map (λ rest. names ++ rest) (each P (map F (drop i xs))) ≡ whole) where
  pub each-none : i < length xs → P (F (get_or xs i 0)) ≡ None → None ≡ whole
  each-none lt none =
      sym (ap (λ ys. option_map (λ rest. names ++ rest) (each P (map F ys))) (drop-cons xs i 0 lt)
      ∙ ap (λ o. option_map (λ rest. names ++ rest) (both (λ y ys. y ∷ ys) o (each P (map F (drop (suc i) xs))))) none)
      ∙ before

  pub each-more : i < length xs → (x : B) → P (F (get_or xs i 0)) ≡ Some x → (names₁ : List B) → names₁ ≡ names ++ x ∷ [] → option_map (λ rest. names₁ ++ rest) (each P (map F (drop (i + 1) xs))) ≡ whole
  each-more lt x some names₁ pushed =
      (λ j. option_map (λ rest. pushed j ++ rest) (each P (map F (drop (add-one i j) xs))))
      ∙ more (each P (map F (drop (suc i) xs)))
      ∙ ap (λ o. option_map (λ rest. names ++ rest) (both (λ y ys. y ∷ ys) o (each P (map F (drop (suc i) xs))))) (sym some)
      ∙ ap (λ ys. option_map (λ rest. names ++ rest) (each P (map F ys))) (sym (drop-cons xs i 0 lt))
      ∙ before
    where
      more : (o : Option (List B)) → option_map (λ rest. (names ++ x ∷ []) ++ rest) o ≡ option_map (λ rest. names ++ rest) (both (λ y ys. y ∷ ys) (Some x) o)
      more None = refl
      more (Some rest) = ap Some (append_assoc names (x ∷ []) rest)

  pub each-done : drop i xs ≡ [] → Some names ≡ whole
  each-done past = ap Some (sym (append-nil names)) ∙ ap (λ ys. option_map (λ rest. names ++ rest) (each P (map F ys))) (sym past) ∙ before

module _ (F : ℕ → Forest Entry) (nodes rest : List ℕ) (last : ℕ) (split : nodes ≡ rest ++ last ∷ []) where
  parts : split_last (map F nodes) ≡ Some (map F rest, F last)
  parts = ap (λ ns. split_last (map F ns)) split ∙ ap split_last (map_push F rest last) ∙ split-last (map F rest) (F last)

  signature-parts : signature_of (map F nodes) ≡ signature_in (map F rest, F last)
  signature-parts = ap (option_and_then signature_in) parts

  pub no-type : type_of (F last) ≡ None → signature_of (map F nodes) ≡ None
  no-type none =
      signature-parts
      ∙ ap (both (λ params has_result. (params, has_result)) (each param_of (map F rest))) none
      ∙ both-none (λ (params : List (List ℕ)) (has_result : Bool). (params, has_result)) (each param_of (map F rest))

  pub no-params : None ≡ each param_of (map F rest) → signature_of (map F nodes) ≡ None
  no-params none = signature-parts ∙ ap (λ (o : Option (List (List ℕ))). both (λ params has_result. (params, has_result)) o (type_of (F last))) (sym none)

  pub signed : (params : List (List ℕ)) (has_result : Bool) → Some params ≡ each param_of (map F rest) → type_of (F last) ≡ Some has_result → signature_of (map F nodes) ≡ Some (params, has_result)
  signed params has_result list type =
      signature-parts
      ∙ ap (λ (o : Option (List (List ℕ))). both (λ params has_result. (params, has_result)) o (type_of (F last))) (sym list)
      ∙ ap (both (λ params has_result. (params, has_result)) (Some params)) type

  -- an exported function
  module _ (text : List ℕ) (tokens : List Token) (name : List ℕ) where
    export-parts : function_by role.Export text tokens (map F nodes) name ≡ option_and_then (λ signature. export_tree name signature (body_of text tokens (F last))) (signature_of (map F rest))
    export-parts = ap (option_and_then (export_in text tokens name)) parts

    pub no-signature : signature_of (map F rest) ≡ None → None ≡ option_map declaration_of (function_by role.Export text tokens (map F nodes) name)
    no-signature none = sym (ap (option_map declaration_of) (export-parts ∙ ap (option_and_then (λ signature. export_tree name signature (body_of text tokens (F last)))) none))

    signed-parts : (params : List (List ℕ)) (has_result : Bool) → signature_of (map F rest) ≡ Some (params, has_result) → function_by role.Export text tokens (map F nodes) name ≡ export_tree name (params, has_result) (body_of text tokens (F last))
    signed-parts params has_result signature = export-parts ∙ ap (option_and_then (λ signature. export_tree name signature (body_of text tokens (F last)))) signature

    pub no-number : (params : List (List ℕ)) (has_result : Bool) → signature_of (map F rest) ≡ Some (params, has_result) → has_result ≡ false → None ≡ option_map declaration_of (function_by role.Export text tokens (map F nodes) name)
    no-number params has_result signature void =
        sym (ap (option_map declaration_of) (signed-parts params has_result signature ∙ ap (λ b. export_tree name (params, b) (body_of text tokens (F last))) void))

    pub no-body : (params : List (List ℕ)) (has_result : Bool) → signature_of (map F rest) ≡ Some (params, has_result) → has_result ≡ true → body_of text tokens (F last) ≡ None → None ≡ option_map declaration_of (function_by role.Export text tokens (map F nodes) name)
    no-body params has_result signature number none =
        sym (ap (option_map declaration_of) (signed-parts params has_result signature ∙ ap (λ b. export_tree name (params, b) (body_of text tokens (F last))) number ∙ ap (option_map (Export name params)) none))

    made : (params : List (List ℕ)) (o : Option Body) (steps : List Step) (callees : List (List ℕ)) → option_map body_work o ≡ Some (steps, callees)
        → option_map declaration_of (option_map (Export name params) o) ≡ Some (source.Export (record { name = name; params = params; callees = callees; steps = steps }))
    made params None steps callees h = absurd (cc)
    made params (Some b) steps callees h =
        let same : body_work b ≡ (steps, callees) = cc in
        λ i. Some (source.Export (record { name = name; params = params; callees = (same i).1; steps = (same i).0 }))

    pub exported : (params : List (List ℕ)) (has_result : Bool) → signature_of (map F rest) ≡ Some (params, has_result) → has_result ≡ true → (steps : List Step) (callees : List (List ℕ))
        → option_map body_work (body_of text tokens (F last)) ≡ Some (steps, callees)
        → Some (source.Export (record { name = name; params = params; callees = callees; steps = steps })) ≡ option_map declaration_of (function_by role.Export text tokens (map F nodes) name)
    exported params has_result signature number steps callees body =
        sym (ap (option_map declaration_of) (signed-parts params has_result signature ∙ ap (λ b. export_tree name (params, b) (body_of text tokens (F last))) number)
        ∙ made params (body_of text tokens (F last)) steps callees body)
