-- What the answers on the members of a file say of its text.
use Rattle.std.proofs.Common.{◌≡◌, ◌≢◌, ◌⊎◌, inl, inr, ℕ, Bool, true, false, cond, List, [], ◌∷◌, map, All, AllPairs, Some, refl, sym, ap, ◌∙◌, subst}
use Rattle.std.specs.List.{filter}
use Rattle.std.proofs.lemmas.List.Elements.{All-head, All-tail}
use Rattle.zw_base.specs.declared.stop.Stop.{Stop}
use Rattle.zw_base.specs.declared.stop.Refused.{Refused}
use Rattle.zw_base.specs.declared.stop.Refused.TheVariants as refused
use Rattle.zw_parse.specs.Syntax.{IsTreeOf, IsSyntaxRefusal}
use Rattle.zw_token.specs.Tokens.{Tokens}
use Rattle.zw_token.specs.declared.token.Token.{Token}
use Rattle.zw_tree.specs.Numbering.{from, inside_first, siblings}
use Rattle.zw_tree.specs.Trees.{Forest, none, tree}
use Rattle.zw_tree.specs.declared.ast.Entry.{Entry}
use Rattle.zw_form.specs.Form.{HasForm, IsProgramOf, IsRefusal, IsStopOf}
use Rattle.zw_form.specs.Listed.{AreFunctions, declared_at, members_at}
use Rattle.zw_form.specs.Members.{Member, Passes, IsFirstStop, IsLight, IsWeightStop, counts, functions_of, members_behind, members_of}
use Rattle.zw_form.specs.Programs.{program_of}
use Rattle.zw_form.specs.Rules.{name_of, exports_of}
use Rattle.zw_form.specs.Trees.{Tree, declaration_of}
use Rattle.zw_form.specs.declared.members.Functions.{Functions}
use Rattle.zw_form.specs.declared.program.Program.{Program}
use Rattle.zw_form.specs.declared.source.Declaration.{Declaration}
use Rattle.zw_form.specs.declared.source.ExportedFunction.{ExportedFunction}
use Rattle.zw_form.proofs.FileRules.{all-new, declared-trees, form_rules}
use Rattle.zw_form.proofs.ListedLemmas.{functions-same}
use Rattle.zw_form.proofs.ProgramLemmas.{exports-differ}

map-filter : {X Y : Type 0} (p : Y → Bool) (f : X → Y) (xs : List X) → map f (filter (λ x. p (f x)) xs) ≡ filter p (map f xs)
map-filter p f [] = refl
map-filter p f (x ∷ xs) = by (p (f x)) (map-filter p f xs)
  where
    by : (b : Bool) → map f (filter (λ x. p (f x)) xs) ≡ filter p (map f xs) → map f (cond b (x ∷ filter (λ x. p (f x)) xs) (filter (λ x. p (f x)) xs)) ≡ cond b (f x ∷ filter p (map f xs)) (filter p (map f xs))
    by true rest = ap (λ ys. f x ∷ ys) rest
    by false rest = rest

from-zero : (file : Forest Entry) → from file 0 ≡ file
from-zero none = refl
from-zero (tree root inside behind) = refl

trees-of : (functions : List Declaration) (ms : List Member) → All (Passes functions) ms → (trees : List Tree) × (map (λ (m : Member). m.declares) ms ≡ map (λ (t : Tree). Some t) trees)
trees-of functions [] all = ([], refl)
trees-of functions (m ∷ ms) all =
    let k = (All-head (Passes functions) m ms all).keeps in
    let rest = trees-of functions ms (All-tail (Passes functions) m ms all) in
    (k.declared ∷ rest.0, λ i. k.declares i ∷ rest.1 i)

module _ (text : List ℕ) (tokens : List Token) (file : Forest Entry) (listed : Tokens text tokens) (has_tree : IsTreeOf 0 text tokens file) (children : List ℕ) (are : map (from file) children ≡ siblings (inside_first (from file 0)))
    (ns : List ℕ) (counting : ns ≡ filter (λ n. counts text tokens (from file n)) children) where
  members-file : members_at text tokens file ns 0 [] ≡ members_of text tokens file
  members-file =
      ap (λ (l : List ℕ). members_at text tokens file l 0 []) counting
      ∙ ap (λ (ts : List (Forest Entry)). members_behind text tokens ts 0 [])
      (map-filter (counts text tokens) (from file) children
      ∙ ap (filter (counts text tokens)) (are ∙ ap (λ (f : Forest Entry). siblings (inside_first f)) (from-zero file)))

  pub form_stop : (stop : Stop) → IsFirstStop (members_at text tokens file ns 0 []) stop ⊎ IsWeightStop (members_at text tokens file ns 0 []) stop → IsStopOf text stop
  form_stop stop stops =
      inr (inr (record {
        tokens = tokens;
        file = file;
        has_tokens = listed;
        has_tree = has_tree;
        stops = subst (λ (ms : List Member). IsFirstStop ms stop ⊎ IsWeightStop ms stop) members-file stops;
      }))

  module _ (f : Functions) (functions : AreFunctions (declared_at text tokens file ns) f)
      (pass : All (Passes (functions_of (members_at text tokens file ns 0 []))) (members_at text tokens file ns 0 []))
      (light : All IsLight (members_at text tokens file ns 0 [])) where
    all_pass : All (Passes (functions_of (members_of text tokens file))) (members_of text tokens file)
    all_pass = subst (λ (ms : List Member). All (Passes (functions_of ms)) ms) members-file pass

    abbrev trees : List Tree
    trees = (trees-of (functions_of (members_of text tokens file)) (members_of text tokens file) all_pass).0

    form : HasForm text trees
    form =
        record {
          tokens = tokens;
          file = file;
          has_tokens = listed;
          has_tree = has_tree;
          declares = (trees-of (functions_of (members_of text tokens file)) (members_of text tokens file) all_pass).1;
          pass = all_pass;
          light = subst (All IsLight) members-file light;
        }

    list-is : f.list ≡ map declaration_of trees
    list-is =
        sym (functions-same text tokens file ns f functions)
        ∙ ap functions_of members-file
        ∙ all-new text tokens (functions_of (members_of text tokens file)) (filter (counts text tokens) (siblings (inside_first file))) 0 [] all_pass
        ∙ declared-trees (members_of text tokens file) trees (trees-of (functions_of (members_of text tokens file)) (members_of text tokens file) all_pass).1

    -- its exported functions have parameters of different names, and its program is that of the text
    pub form_params : All (λ (g : ExportedFunction). AllPairs (λ (x y : List ℕ). x ≢ y) g.params) (exports_of f.list)
    form_params =
        subst (λ (ds : List Declaration). All (λ (g : ExportedFunction). AllPairs (λ (x y : List ℕ). x ≢ y) g.params) (exports_of ds)) (sym list-is)
        (exports-differ (map name_of (map declaration_of trees)) (map declaration_of trees) (form_rules text trees form).names)

    pub form_program : (p : Program) → p ≡ program_of f.list → IsProgramOf text p
    form_program p is = (trees, form, is ∙ ap program_of list-is)

-- a text with tokens that has no tree
pub syntax_refusal : (text : List ℕ) (tokens : List Token) → Tokens text tokens → (r : Refused) → IsSyntaxRefusal 0 text tokens r → IsRefusal text r
syntax_refusal text tokens listed (refused.Stop stop) h = inr (inl (record { tokens = tokens; has_tokens = listed; stops = h }))
syntax_refusal text tokens listed refused.Oom h = tt
