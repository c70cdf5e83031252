-- Each stop of a tree of files is an error or a limit that has a name.
use Rattle.std.proofs.Common.{◌≡◌, ◌⊎◌, ℕ, ◌≤◌, Bool, true, false, nat_lt, MatchBool, List, [], ◌∷◌, ◌++◌, ◌+◌, length, sum, Some, None, Option, Result, Ok, Err, sym, ap, subst, inl, inr, arith, lit≤, if◌then◌else◌, refl}
use Rattle.std.specs.List.{list_any, position_or_len}
use Rattle.std.specs.Str.{bytes_eq}
use Rattle.zw_base.specs.declared.files.Answer.{Answer}
use Rattle.zw_base.specs.declared.files.Answer.TheVariants.{Bytes, Absent, TooLong}
use Rattle.zw_base.specs.declared.files.Handed.{Handed}
use Rattle.zw_base.specs.declared.stop.Place.{Place}
use Rattle.zw_base.specs.declared.stop.Stop.{Stop}
use Rattle.zw_files.specs.Discovery.{Discovery, Found, IsStopOfText, Located, Paths, Reads, ReadsAnswer, Turn, and_then, breaks_names, follow, follow_all, followed, name_path, name_resolved, no_tokens, no_tree, refused, root_place, stop, stopped, taken, text_of, whole, with_path}
use Rattle.zw_files.specs.Imports.{Import, imports}
use Rattle.zw_files.specs.Paths.{resolved}
use Rattle.zw_files.specs.declared.stops.TheConstants.{FILE_ABSENT, FILE_LENGTH, FILES, FILES_LIMIT, IMPORT_PATH, TREE_LENGTH, TREE_LIMIT}
use Rattle.zw_files.proofs.NameNumbers.{violation-numbered}
use Rattle.zw_form.specs.Form.{IsStopOf}
use Rattle.zw_form.specs.Members.{Member, IsFirstStop, IsMemberStop, IsWeightStop}
use Rattle.zw_form.specs.declared.source.Declaration.{Declaration}
use Rattle.zw_parse.specs.Syntax.{IsSyntaxStop, wrong, nested}
use Rattle.zw_report.specs.StopLines.{IsNamed}
use Rattle.zw_token.specs.ErrorNumbers.{number_of_error}
use Rattle.zw_token.specs.declared.token.TextError.{TextError}
use Rattle.zw_token.specs.declared.token.TextError.TheVariants.{BadByte, BadToken, BadLiteral, NotInProfile}
use Rattle.zw_token.specs.declared.token.Token.{Token}
use Rattle.zw_tree.specs.Trees.{Forest}
use Rattle.zw_tree.specs.declared.ast.Entry.{Entry}

error_named : (error : TextError) → (1 ≤ number_of_error error) × (number_of_error error ≤ 36)
error_named BadByte = (lit≤ tt, lit≤ tt)
error_named BadToken = (lit≤ tt, lit≤ tt)
error_named BadLiteral = (lit≤ tt, lit≤ tt)
error_named NotInProfile = (lit≤ tt, lit≤ tt)

-- error 6 and limit 3
syntax_named : (number : ℕ) (text : List ℕ) (tokens : List Token) (stop : Stop) → IsSyntaxStop number text tokens stop → IsNamed stop.kind
syntax_named n text tokens stop (wrong number file flat is) = subst (λ (s : Stop). IsNamed s.kind) (sym is) (lit≤ tt, lit≤ tt)
syntax_named n text tokens stop (nested number file is) = subst (λ (s : Stop). IsNamed s.kind) (sym is) (lit≤ tt, lit≤ tt)

-- error 36 and limit 5
member_named : (functions : List Declaration) (m : Member) (stop : Stop) → IsMemberStop functions m stop → IsNamed stop.kind
member_named functions m stop (inl unkept) = subst (λ (s : Stop). IsNamed s.kind) (sym unkept.1) (lit≤ tt, lit≤ tt)
member_named functions m stop (inr past) = subst (λ (s : Stop). IsNamed s.kind) (sym past.1.told) (lit≤ tt, lit≤ tt)

-- these, and limit 11
members_named : (members : List Member) (stop : Stop) → IsFirstStop members stop ⊎ IsWeightStop members stop → IsNamed stop.kind
members_named members stop (inl first) = member_named _ first.member stop first.stops
members_named members stop (inr weight) = subst (λ (s : Stop). IsNamed s.kind) (sym weight.told) (lit≤ tt, lit≤ tt)

-- the stop of the root's text has a name
pub stop_named : (text : List ℕ) (stop : Stop) → IsStopOf text stop → IsNamed stop.kind
stop_named text stop (inl (at, error, stops, is)) = subst (λ (s : Stop). IsNamed s.kind) (sym is) (error_named error)
stop_named text stop (inr (inl a)) = syntax_named 0 text a.tokens stop a.stops
stop_named text stop (inr (inr a)) = members_named _ stop a.stops

-- the stop of a file's own text
text_named : (number : ℕ) (text : List ℕ) (s : Stop) → IsStopOfText number text s → IsNamed s.kind
text_named number text s (no_tokens at error stops is) = subst (λ (t : Stop). IsNamed t.kind) (sym is) (error_named error)
text_named number text s (no_tree tokens listed stops) = syntax_named number text tokens s stops
text_named number text s (breaks_names tokens file listed has_tree (v, first, is)) =
    let numbered = violation-numbered file v first.broken in
    let named : (1 ≤ v.error) × (v.error ≤ 36) = (omega (arith, numbered.0), omega (arith, numbered.1)) in
    subst (λ (t : Stop). IsNamed t.kind) (sym is) named

-- how a file with a stop reads
abbrev told : Stop → Result (Forest Entry) Stop
told s = Err s

-- the stop of an end, where it has one
abbrev stop_in : {A : Type 0} → Result A Located → Stop → Stop
stop_in (Ok found) other = other
stop_in (Err l) other = l.0

read_named : (number : ℕ) (place : Place) (before : ℕ) (answer : Answer) (s : Stop) → ReadsAnswer number place before answer (Err s) → IsNamed s.kind
read_named number place before Absent s h = let same : s ≡ stop FILE_ABSENT place = cc in subst (λ (t : Stop). IsNamed t.kind) (sym same) (lit≤ tt, lit≤ tt)
read_named number place before (TooLong limit) s h =
    let cause : told s ≡ told (stop FILE_LENGTH place) = h.1 in
    let same : s ≡ stop FILE_LENGTH place = cc in
    subst (λ (t : Stop). IsNamed t.kind) (sym same) (lit≤ tt, lit≤ tt)
read_named number place before (Bytes text) s h = by (nat_lt TREE_LIMIT (before + length text)) h.1
  where
    by : (b : Bool) → MatchBool b (told s ≡ told (stop TREE_LENGTH place)) (Reads number text (Err s)) → IsNamed s.kind
    by true e = let same : s ≡ stop TREE_LENGTH place = cc in subst (λ (t : Stop). IsNamed t.kind) (sym same) (lit≤ tt, lit≤ tt)
    by false stops = text_named number text s stops

-- error 2 and limit 2 of imports
path_named : (paths : Paths) (place : Place) (path : List ℕ) (s : Stop) → name_path paths place path ≡ Err s → IsNamed s.kind
path_named paths place path s h = by (list_any (bytes_eq path) paths.names) (nat_lt (length paths.names) FILES_LIMIT) h
  where
    by : (b c : Bool) → if◌then◌else◌ {A = Result (Paths × ℕ) Stop} b (Ok (paths, position_or_len (bytes_eq path) paths.names)) (if◌then◌else◌ {A = Result (Paths × ℕ) Stop} c (Ok (with_path paths place path, length paths.names)) (Err (stop FILES place))) ≡ Err s → IsNamed s.kind
    by true c e = absurd (cc)
    by false true e = absurd (cc)
    by false false e = let same : s ≡ stop FILES place = cc in subst (λ (t : Stop). IsNamed t.kind) (sym same) (lit≤ tt, lit≤ tt)

resolved_named : (paths : Paths) (place : Place) (o : Option (List ℕ)) (s : Stop) → name_resolved paths place o ≡ Err s → IsNamed s.kind
resolved_named paths place None s e = let same : s ≡ stop IMPORT_PATH place = cc in subst (λ (t : Stop). IsNamed t.kind) (sym same) (lit≤ tt, lit≤ tt)
resolved_named paths place (Some path) s e = path_named paths place path s e

module _ (root path : List ℕ) (s : Stop) where
  imports_named : (paths : Paths) (numbers : List (ℕ × ℕ)) (is : List Import) → follow_all root path paths numbers is ≡ Err s → IsNamed s.kind
  imports_named paths numbers [] e = absurd (cc)
  imports_named paths numbers (i ∷ others) e =
      by (follow root path paths i.place i.literal) refl e (λ named. imports_named named.0 (numbers ++ (i.node, named.1) ∷ []) others)
    where
      by : (r : Result (Paths × ℕ) Stop) → follow root path paths i.place i.literal ≡ r
          → and_then (λ (named : Paths × ℕ). follow_all root path named.0 (numbers ++ (i.node, named.1) ∷ []) others) r ≡ Err s
          → ((named : Paths × ℕ) → follow_all root path named.0 (numbers ++ (i.node, named.1) ∷ []) others ≡ Err s → IsNamed s.kind) → IsNamed s.kind
      by (Ok named) is e more = more named e
      by (Err t) is e more =
          let same : t ≡ s = cc in
          subst (λ (u : Stop). IsNamed u.kind) same (resolved_named paths i.place (resolved root path i.literal) t is)

-- the stop of a file's turn
turn_named : (root : List ℕ) (found : Found) (handed : Handed) (s : Stop) (path : List ℕ) → Turn root found handed (Err (s, path)) → IsNamed s.kind
turn_named root found handed s path turn = by turn.takes.read turn.takes.reads turn.takes.ends
  where
    deeper : (file : Forest Entry) (f : Result (Paths × List (ℕ × ℕ)) Stop) → follow_all root handed.path found.paths [] (imports file) ≡ f
        → Err (s, path) ≡ followed found handed.path (text_of handed.answer) file f → IsNamed s.kind
    deeper file (Ok named) is e = absurd (cc)
    deeper file (Err t) is e =
        let same : s ≡ t = ap (λ (r : Result Found Located). stop_in r s) e in
        subst (λ (u : Stop). IsNamed u.kind) (sym same) (imports_named root handed.path t found.paths [] (imports file) is)

    by : (read : Result (Forest Entry) Stop) → ReadsAnswer (length found.trees) turn.place (sum found.sizes) handed.answer read
        → Err (s, path) ≡ taken root found handed.path (text_of handed.answer) read → IsNamed s.kind
    by (Ok file) reads e = deeper file (follow_all root handed.path found.paths [] (imports file)) refl e
    by (Err t) reads e =
        let same : s ≡ t = ap (λ (r : Result Found Located). stop_in r s) e in
        subst (λ (u : Stop). IsNamed u.kind) (sym same) (read_named (length found.trees) turn.place (sum found.sizes) handed.answer t reads)

-- the first stop of a tree of files
pub discovery_named : (root : List ℕ) (files : List Handed) (end : Result Found Located) (s : Stop) (path : List ℕ) → Discovery root files end → end ≡ Err (s, path) → IsNamed s.kind
discovery_named root files end s path (refused no_zig) e =
    let same : stop IMPORT_PATH root_place ≡ s = ap (λ (r : Result Found Located). stop_in r s) e in
    subst (λ (t : Stop). IsNamed t.kind) same (lit≤ tt, lit≤ tt)
discovery_named root files end s path (whole zig leads none_left) e = absurd (cc)
discovery_named root files end s path (stopped {found = found} {handed = handed} {where_and_why = l} zig leads turn) e =
    let same : l ≡ (s, path) = cc in
    turn_named root found handed s path (subst (λ (m : Located). Turn root found handed (Err m)) same turn)
