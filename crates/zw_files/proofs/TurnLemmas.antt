-- The turn of a file.
use Rattle.std.proofs.Common.{◌≡◌, inl, inr, append_assoc, append-nil, length-append, zero, suc, ℕ, ◌+◌, ◌<◌, ◌≤◌, true, false, List, [], ◌∷◌, ◌++◌, length, sum, slice_get, nat_lt, Some, Ok, Err, MatchBool, refl, sym, ap, ◌∙◌, subst, arith}
use Rattle.std.specs.Prelude.{Result}
use Rattle.zw_base.specs.Outside.{IsAnswerAt}
use Rattle.zw_base.specs.declared.files.Handed.{Handed}
use Rattle.zw_base.specs.declared.stop.Place.{Place}
use Rattle.zw_base.specs.declared.stop.Refused.{Refused}
use Rattle.zw_base.specs.declared.stop.Refused.TheVariants as refused
use Rattle.zw_base.specs.declared.stop.Stop.{Stop}
use Rattle.zw_parse.specs.Syntax.{IsTreeOf, IsSyntaxRefusal}
use Rattle.zw_scope.specs.NameRules.{IsNameStop}
use Rattle.zw_token.specs.Tokens.{IsRefusal, Tokens}
use Rattle.zw_token.specs.declared.token.Token.{Token}
use Rattle.zw_base.specs.declared.files.Answer.{Answer}
use Rattle.zw_base.specs.declared.files.Answer.TheVariants.{Bytes, Absent, TooLong}
use Rattle.zw_tree.specs.Trees.{Forest}
use Rattle.zw_tree.specs.declared.ast.Entry.{Entry}
use Rattle.zw_files.specs.Discovery.{Found, Located, Paths, HasTree, IsStopOfText, IsNext, Leads, Reads, ReadsAnswer, Turn, Discovery, breaks_names, here, is_zig, next, no_tokens, no_tree, refused, root_place, text_of, start, stopped, Takes, stop, taken, followed, joined, follow_all, located, whole}
use Rattle.zw_files.specs.Imports.{imports}
use Rattle.zw_files.specs.declared.err.GatherErr.{GatherErr}
use Rattle.zw_files.specs.declared.err.GatherErr.TheVariants as gather
use Rattle.zw_files.specs.declared.stops.TheConstants.{FILE_LIMIT, TREE_LIMIT, TREE_LENGTH, FILE_ABSENT, FILE_LENGTH, IMPORT_PATH}
use Rattle.std.proofs.lemmas.Bool.Decides.{nat_tests}
use Rattle.zw_files.specs.Gathering.{IsReadRefusal, IsLocated, TurnStops, FileStops, FilePasses, Adds, Passes, PassesAll, PassesUpTo, IsFileSet, Gathers, past, within, nothing, begun}
use Rattle.zw_files.specs.declared.file_set.FileSet.{FileSet}

pub read-tokens : (number : ℕ) (text : List ℕ) (e : Refused) → IsRefusal number text e → IsReadRefusal number text e
read-tokens number text (refused.Stop stop) h = no_tokens h.0 h.1 h.2 h.3
read-tokens number text refused.Oom h = tt

pub read-tree : (number : ℕ) (text : List ℕ) (tokens : List Token) (e : Refused) → Tokens text tokens → IsSyntaxRefusal number text tokens e → IsReadRefusal number text e
read-tree number text tokens (refused.Stop stop) listed h = no_tree tokens listed h
read-tree number text tokens refused.Oom listed h = tt

pub read-names : (number : ℕ) (text : List ℕ) (tokens : List Token) (file : Forest Entry) (e : Refused) → Tokens text tokens → IsTreeOf number text tokens file
    → ((stop : Stop) → e ≡ refused.Stop stop → IsNameStop file stop) → IsReadRefusal number text e
read-names number text tokens file (refused.Stop stop) listed is h = breaks_names tokens file listed is (h stop refl)
read-names number text tokens file refused.Oom listed is h = tt

-- a stop with the path of its file
pub located-stops : (root : List ℕ) (found : Found) (path : List ℕ) (place : Place) (answer : Answer) (l : Located) (e : GatherErr) → Takes root found path place answer (Err l) → IsLocated l e → TurnStops root found path place answer e
located-stops root found path place answer l (gather.Stop stop word) takes is = subst (λ m. Takes root found path place answer (Err m)) is takes
located-stops root found path place answer l gather.Failed takes is = is
located-stops root found path place answer l gather.Oom takes is = tt

module _ (root : List ℕ) (found : Found) (path : List ℕ) (place : Place) (text : List ℕ) (short : length text ≤ FILE_LIMIT) where
  abbrev sum-now : ℕ
  sum-now = sum found.sizes + length text

  pub takes-past : TREE_LIMIT < sum found.sizes + length text → Takes root found path place (Bytes text) (Err (located found.paths.names (stop TREE_LENGTH place)))
  takes-past longer =
      let yes : nat_lt TREE_LIMIT sum-now ≡ true = grind (arith, nat_tests) in
      let read : Result (Forest Entry) Stop = Err (stop TREE_LENGTH place) in
      record {
        read = read;
        reads = (short, subst (λ b. MatchBool b (read ≡ Err (stop TREE_LENGTH place)) (Reads (length found.trees) text read)) (sym yes) refl);
        ends = refl;
      }

  reads-of : (read : Result (Forest Entry) Stop) → sum found.sizes + length text ≤ TREE_LIMIT → Reads (length found.trees) text read → ReadsAnswer (length found.trees) place (sum found.sizes) (Bytes text) read
  reads-of read fits reads =
      let no_more : nat_lt TREE_LIMIT sum-now ≡ false = grind (arith, nat_tests) in
      (short, subst (λ b. MatchBool b (read ≡ Err (stop TREE_LENGTH place)) (Reads (length found.trees) text read)) (sym no_more) reads)

  pub takes-text_stop : (s : Stop) → sum found.sizes + length text ≤ TREE_LIMIT → IsStopOfText (length found.trees) text s → Takes root found path place (Bytes text) (Err (located found.paths.names s))
  takes-text_stop s fits stops = record { read = Err s; reads = reads-of (Err s) fits stops; ends = refl }

  pub takes-import_stop : (file : Forest Entry) (s : Stop) → sum found.sizes + length text ≤ TREE_LIMIT → HasTree (length found.trees) text file
      → follow_all root path found.paths [] (imports file) ≡ Err s → Takes root found path place (Bytes text) (Err (s, path))
  takes-import_stop file s fits has stops =
      record { read = Ok file; reads = reads-of (Ok file) fits has; ends = sym (ap (followed found path text file) stops) }

  pub takes-whole : (file : Forest Entry) (named : Paths × List (ℕ × ℕ)) (new : Found) → sum found.sizes + length text ≤ TREE_LIMIT → HasTree (length found.trees) text file
      → follow_all root path found.paths [] (imports file) ≡ Ok named → new ≡ joined found text file named → Takes root found path place (Bytes text) (Ok new)
  takes-whole file named new fits has follows is =
      record { read = Ok file; reads = reads-of (Ok file) fits has; ends = ap Ok is ∙ sym (ap (followed found path text file) follows) }

-- a file that isn't there, or is too long
pub takes-absent : (root : List ℕ) (found : Found) (path : List ℕ) (place : Place) → Takes root found path place Absent (Err (located found.paths.names (stop FILE_ABSENT place)))
takes-absent root found path place = record { read = Err (stop FILE_ABSENT place); reads = refl; ends = refl }

pub takes-too_long : (root : List ℕ) (found : Found) (path : List ℕ) (place : Place) → Takes root found path place (TooLong FILE_LIMIT) (Err (located found.paths.names (stop FILE_LENGTH place)))
takes-too_long root found path place = record { read = Err (stop FILE_LENGTH place); reads = (refl, refl); ends = refl }

-- the stop of a file that was loaded with this answer
pub stops-file : (root : List ℕ) (found : Found) (path : List ℕ) (place : Place) (before after : List Handed) (answer : Answer) (e : GatherErr) → Adds before after path answer
    → IsAnswerAt FILE_LIMIT answer → TurnStops root found path place answer e → FileStops root found path place before after e
stops-file root found path place before after answer (gather.Stop stop word) adds at stops = (answer, adds, stops)
stops-file root found path place before after answer gather.Failed adds at stops = absurd stops
stops-file root found path place before after answer gather.Oom adds at stops = inr (answer, adds, at)

-- ---- the turns of files

pub leads-next : (root : List ℕ) (from found to : Found) (files : List Handed) (handed : Handed) → Leads root from files found → Turn root found handed (Ok to) → Leads root from (files ++ handed ∷ []) to
leads-next root from found to [] handed here turn = next turn here
leads-next root from found to (h ∷ files) handed (next first others) turn = next first (leads-next root _ found to files handed others turn)

module _ (root : List ℕ) (from found : Found) (first before after : List Handed) (passes : Passes root from first before found) where
  pub passes-next : (path : List ℕ) (place : Place) (to : Found) → IsNext found path place → FilePasses root found path place before after to → Passes root from first after to
  passes-next path place to there (answer, adds, takes) =
      let handed : Handed = record { path = path; answer = answer } in
      record {
        files = passes.files ++ handed ∷ [];
        loads = adds ∙ ap (λ l. l ++ handed ∷ []) passes.loads ∙ append_assoc first passes.files (handed ∷ []);
        leads = leads-next root from found to passes.files handed passes.leads (record { place = place; is_next = there; takes = takes });
      }

  pub stops-next : (path : List ℕ) (place : Place) (e : GatherErr) → IsNext found path place → length found.trees < length found.paths.names → FileStops root found path place before after e → PassesUpTo root from first after e
  stops-next path place (gather.Stop stop word) there left (answer, adds, takes) =
      let handed : Handed = record { path = path; answer = answer } in
      record {
        files = passes.files;
        found = found;
        handed = handed;
        loads = adds ∙ ap (λ l. l ++ handed ∷ []) passes.loads ∙ append_assoc first passes.files (handed ∷ []);
        leads = passes.leads;
        turn = record { place = place; is_next = there; takes = takes };
      }
  stops-next path place gather.Failed there left same =
      record { found = found; passes = record { files = passes.files; loads = same ∙ passes.loads; leads = passes.leads }; one_left = left }
  stops-next path place gather.Oom there left (inl same) = record { files = passes.files; loads = same ∙ passes.loads; begins = past passes.leads }
  stops-next path place gather.Oom there left (inr (answer, adds, at)) =
      let handed : Handed = record { path = path; answer = answer } in
      record {
        files = passes.files ++ handed ∷ [];
        loads = adds ∙ ap (λ l. l ++ handed ∷ []) passes.loads ∙ append_assoc first passes.files (handed ∷ []);
        begins = within handed place passes.leads there at;
      }

pub next-left : (found : Found) (path : List ℕ) (place : Place) → IsNext found path place → length found.trees < length found.paths.names
next-left found path place there = by found.paths.names (length found.trees) there.name
  where
    by : (names : List (List ℕ)) (n : ℕ) → slice_get names n ≡ Some path → n < length names
    by [] n h = absurd (cc)
    by (x ∷ xs) zero h = omega arith
    by (x ∷ xs) (suc n) h = let rest = by xs n h in omega arith

pub takes-grows : (root : List ℕ) (found : Found) (path : List ℕ) (place : Place) (answer : Answer) (to : Found) → Takes root found path place answer (Ok to) → length to.trees ≡ length found.trees + 1
takes-grows root found path place answer to takes = by takes.read takes.ends
  where
    deeper : (file : Forest Entry) (f : Result (Paths × List (ℕ × ℕ)) Stop) → Ok to ≡ followed found path (text_of answer) file f → length to.trees ≡ length found.trees + 1
    deeper file (Ok named) e = let same : to ≡ joined found (text_of answer) file named = cc in ap (λ (g : Found). length g.trees) same ∙ omega (arith, length-append found.trees (file ∷ []))
    deeper file (Err s) e = absurd (cc)

    by : (read : Result (Forest Entry) Stop) → Ok to ≡ taken root found path (text_of answer) read → length to.trees ≡ length found.trees + 1
    by (Ok file) e = deeper file (follow_all root path found.paths [] (imports file)) e
    by (Err s) e = absurd (cc)

-- ---- the whole

module _ (root : List ℕ) (before after : List Handed) (zig : is_zig root ≡ true) where
  pub gathers-whole : (found : Found) (set : FileSet) → PassesAll root (start root) before after found → IsFileSet found set → Gathers root before after (Ok set)
  gathers-whole found set all is = record { files = all.passes.files; loads = all.passes.loads; ends = (found, whole zig all.passes.leads all.none_left, is) }

  pub gathers-full : (found : Found) → PassesAll root (start root) before after found → Gathers root before after (Err gather.Oom)
  gathers-full found all = record { files = all.passes.files; loads = all.passes.loads; ends = begun zig (past all.passes.leads) }

  pub gathers-stop : (e : GatherErr) → PassesUpTo root (start root) before after e → Gathers root before after (Err e)
  gathers-stop (gather.Stop stop word) h = record { files = h.files ++ h.handed ∷ []; loads = h.loads; ends = stopped zig h.leads h.turn }
  gathers-stop gather.Failed h =
      record { files = h.passes.files; loads = h.passes.loads; ends = record { found = h.found; is_path = zig; leads = h.passes.leads; one_left = h.one_left } }
  gathers-stop gather.Oom h = record { files = h.files; loads = h.loads; ends = begun zig h.begins }

pub gathers-nothing : (root : List ℕ) (before : List Handed) → Gathers root before before (Err gather.Oom)
gathers-nothing root before = record { files = []; loads = sym (append-nil before); ends = nothing }

pub gathers-refused : (root : List ℕ) (before : List Handed) (e : GatherErr) → is_zig root ≡ false → IsLocated (stop IMPORT_PATH root_place, root) e → Gathers root before before (Err e)
gathers-refused root before (gather.Stop s word) no_zig is =
    record { files = []; loads = sym (append-nil before); ends = subst (λ (l : Located). Discovery root [] (Err l)) is (refused no_zig) }
gathers-refused root before gather.Failed no_zig is = absurd is
gathers-refused root before gather.Oom no_zig is = gathers-nothing root before
