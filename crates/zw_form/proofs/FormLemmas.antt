-- Texts of the form have one list of declarations each and no stop, and any other text has one stop at most, by what holds of trees:
-- a list of tokens has one tree or one stop, and never both.
use Rattle.std.proofs.Common.{◌≡◌, ◌⊎◌, ℕ, List, [], ◌∷◌, map, Some, subst, sym, ap, ◌∙◌, inl, inr, refl}
use Rattle.zw_base.specs.declared.stop.Stop.{Stop}
use Rattle.zw_parse.specs.Syntax.{IsTreeOf, IsSyntaxStop}
use Rattle.zw_token.specs.declared.token.TextError.{TextError}
use Rattle.zw_token.specs.declared.token.Token.{Token}
use Rattle.zw_token.specs.Tokens.{Tokens, stop_at}
use Rattle.zw_token.proofs.Lists.{one_from}
use Rattle.zw_token.proofs.Stops.{same_stop, never_both}
use Rattle.zw_tree.specs.Trees.{Forest}
use Rattle.zw_tree.specs.declared.ast.Entry.{Entry}
use Rattle.zw_form.specs.Form.{HasForm, IsStopOf}
use Rattle.zw_form.specs.Members.{Member, members_of, IsFirstStop, IsWeightStop}
use Rattle.zw_form.specs.Trees.{Tree}
use Rattle.zw_form.proofs.MemberLemmas.{one_file-stop, pass-first, light-weight}

-- of two lists of tokens of a text each is the other
one_list : {text : List ℕ} {ts us : List Token} → Tokens text ts → Tokens text us → ts ≡ us
one_list a b = one_from a.list b.list

same_told : (text : List ℕ) (s t : Stop) (at place : ℕ) (a b : TextError) → s ≡ stop_at 0 text at a → t ≡ stop_at 0 text place b → at ≡ place → a ≡ b → s ≡ t
same_told text s t at place a b s_is t_is places errors =
    s_is ∙ ap (λ p. stop_at 0 text p a) places ∙ ap (stop_at 0 text place) errors ∙ sym t_is

map_some : {X : Type 0} (xs ys : List X) → map (λ (x : X). Some x) xs ≡ map (λ (x : X). Some x) ys → xs ≡ ys
map_some [] [] h = refl
map_some [] (y ∷ ys) h = absurd (cc)
map_some (x ∷ xs) [] h = absurd (cc)
map_some (x ∷ xs) (y ∷ ys) h =
    let first : x ≡ y = cc in
    let rest : map (λ (x : _). Some x) xs ≡ map (λ (x : _). Some x) ys = cc in
    let others = map_some xs ys rest in
    λ i. first i ∷ others i

module _
    (one_tree : (file : ℕ) (text : List ℕ) (ts : List Token) (a b : Forest Entry) → IsTreeOf file text ts a → IsTreeOf file text ts b → a ≡ b)
    (one_syntax_stop : (file : ℕ) (text : List ℕ) (ts : List Token) (a b : Stop) → IsSyntaxStop file text ts a → IsSyntaxStop file text ts b → a ≡ b)
    (tree_or_stop : (file : ℕ) (text : List ℕ) (ts : List Token) (a : Forest Entry) (s : Stop) → IsTreeOf file text ts a → IsSyntaxStop file text ts s → ⊥)
    (text : List ℕ) where
  -- two trees of a text
  same_tree : {ts us : List Token} (a b : Forest Entry) → Tokens text ts → IsTreeOf 0 text ts a → Tokens text us → IsTreeOf 0 text us b → members_of text ts a ≡ members_of text us b
  same_tree {ts} {us} a b listed tree others other =
      let list = one_list listed others in
      let same = one_tree 0 text us a b (subst (λ vs. IsTreeOf 0 text vs a) list tree) other in
      λ i. members_of text (list i) (same i)

  no_tree_stop : {ts us : List Token} (a : Forest Entry) (s : Stop) → Tokens text ts → IsTreeOf 0 text ts a → Tokens text us → IsSyntaxStop 0 text us s → ⊥
  no_tree_stop {ts} {us} a s listed tree others stop = tree_or_stop 0 text us a s (subst (λ vs. IsTreeOf 0 text vs a) (one_list listed others) tree) stop

  pub one_stop-of : (s t : Stop) → IsStopOf text s → IsStopOf text t → s ≡ t
  one_stop-of s t (inl (at, error, stops, s_is)) (inl (place, other, stops', t_is)) =
      let same = same_stop stops stops' in
      same_told text s t at place error other s_is t_is same.0 same.1
  one_stop-of s t (inl (at, error, stops, s_is)) (inr (inl b)) = absurd (never_both b.has_tokens stops)
  one_stop-of s t (inl (at, error, stops, s_is)) (inr (inr b)) = absurd (never_both b.has_tokens stops)
  one_stop-of s t (inr (inl a)) (inl (at, error, stops, t_is)) = absurd (never_both a.has_tokens stops)
  one_stop-of s t (inr (inr a)) (inl (at, error, stops, t_is)) = absurd (never_both a.has_tokens stops)
  one_stop-of s t (inr (inl a)) (inr (inl b)) =
      one_syntax_stop 0 text b.tokens s t (subst (λ vs. IsSyntaxStop 0 text vs s) (one_list a.has_tokens b.has_tokens) a.stops) b.stops
  one_stop-of s t (inr (inl a)) (inr (inr b)) = absurd (no_tree_stop b.file s b.has_tokens b.has_tree a.has_tokens a.stops)
  one_stop-of s t (inr (inr a)) (inr (inl b)) = absurd (no_tree_stop a.file t a.has_tokens a.has_tree b.has_tokens b.stops)
  one_stop-of s t (inr (inr a)) (inr (inr b)) =
      let same = same_tree a.file b.file a.has_tokens a.has_tree b.has_tokens b.has_tree in
      one_file-stop (members_of text b.tokens b.file) s t (subst (λ (ms : List Member). IsFirstStop ms s ⊎ IsWeightStop ms s) same a.stops) b.stops

  pub stop_or_form : (stop : Stop) (trees : List Tree) → IsStopOf text stop → HasForm text trees → ⊥
  stop_or_form stop trees (inl (at, error, stops, is)) form = never_both form.has_tokens stops
  stop_or_form stop trees (inr (inl a)) form = no_tree_stop form.file stop form.has_tokens form.has_tree a.has_tokens a.stops
  stop_or_form stop trees (inr (inr a)) form =
      let same = same_tree a.file form.file a.has_tokens a.has_tree form.has_tokens form.has_tree in
      by (subst (λ (ms : List Member). IsFirstStop ms stop ⊎ IsWeightStop ms stop) same a.stops)
    where
      by : IsFirstStop (members_of text form.tokens form.file) stop ⊎ IsWeightStop (members_of text form.tokens form.file) stop → ⊥
      by (inl first) = pass-first (members_of text form.tokens form.file) stop form.pass first
      by (inr weight) = light-weight (members_of text form.tokens form.file) stop form.light weight

  pub one_form-of : (a b : List Tree) → HasForm text a → HasForm text b → a ≡ b
  one_form-of a b g h =
      let same = same_tree g.file h.file g.has_tokens g.has_tree h.has_tokens h.has_tree in
      map_some a b (sym g.declares ∙ ap (map (λ (m : Member). m.declares)) same ∙ h.declares)
