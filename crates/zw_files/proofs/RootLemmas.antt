-- The text of the root is no longer than a file may be.
use Rattle.std.proofs.Common.{◌≡◌, ℕ, ◌≤◌, List, [], ◌∷◌, ◌++◌, length, slice_index_or, Ok, Err, sym, subst, lit≤}
use Rattle.std.specs.Prelude.{Result}
use Rattle.zw_base.specs.declared.files.Answer.{Answer}
use Rattle.zw_base.specs.declared.files.Answer.TheVariants.{Bytes, Absent, TooLong}
use Rattle.zw_base.specs.declared.files.Handed.{Handed}
use Rattle.zw_base.specs.declared.stop.Place.{Place}
use Rattle.zw_base.specs.declared.stop.Stop.{Stop}
use Rattle.zw_tree.specs.Trees.{Forest}
use Rattle.zw_tree.specs.declared.ast.Entry.{Entry}
use Rattle.zw_files.specs.Discovery.{Discovery, Found, Leads, Located, Paths, ReadsAnswer, Takes, follow_all, followed, here, joined, next, refused, root_text, start, stopped, taken, text_of, whole}
use Rattle.zw_files.specs.Imports.{imports}
use Rattle.zw_files.specs.declared.stops.TheConstants.{FILE_LIMIT}

abbrev IsShort : List ℕ → Type 0
IsShort text = length text ≤ FILE_LIMIT

short-behind : (texts : List (List ℕ)) (text : List ℕ) → IsShort (slice_index_or texts 0 []) → IsShort text → IsShort (slice_index_or (texts ++ text ∷ []) 0 [])
short-behind [] text h k = k
short-behind (x ∷ xs) text h k = h

short-answer : (number : ℕ) (place : Place) (before : ℕ) (answer : Answer) (read : Result (Forest Entry) Stop) → ReadsAnswer number place before answer read → IsShort (text_of answer)
short-answer number place before Absent read h = lit≤ tt
short-answer number place before (TooLong limit) read h = lit≤ tt
short-answer number place before (Bytes text) read h = h.0

module _ (root : List ℕ) where
  short-takes : (found to : Found) (path : List ℕ) (place : Place) (answer : Answer) → Takes root found path place answer (Ok to) → IsShort (root_text found) → IsShort (root_text to)
  short-takes found to path place answer takes h = by takes.read takes.ends
    where
      short : IsShort (text_of answer)
      short = short-answer _ _ _ answer takes.read takes.reads

      deeper : (file : Forest Entry) (f : Result (Paths × List (ℕ × ℕ)) Stop) → Ok to ≡ followed found path (text_of answer) file f → IsShort (root_text to)
      deeper file (Ok named) e =
          let same : to ≡ joined found (text_of answer) file named = cc in
          subst (λ (g : Found). IsShort (root_text g)) (sym same) (short-behind found.texts (text_of answer) h short)
      deeper file (Err s) e = absurd (cc)

      by : (read : Result (Forest Entry) Stop) → Ok to ≡ taken root found path (text_of answer) read → IsShort (root_text to)
      by (Ok file) e = deeper file (follow_all root path found.paths [] (imports file)) e
      by (Err s) e = absurd (cc)

  short-leads : (from to : Found) (files : List Handed) → Leads root from files to → IsShort (root_text from) → IsShort (root_text to)
  short-leads from to [] here h = h
  short-leads from to (handed ∷ files) (next {found = found} turn others) h =
      short-leads found to files others (short-takes from found handed.path turn.place handed.answer turn.takes h)

pub root-short : (root : List ℕ) (files : List Handed) (end : Result Found Located) (found : Found) → Discovery root files end → end ≡ Ok found → IsShort (root_text found)
root-short root files end found (refused no_zig) e = absurd (cc)
root-short root files end found (whole {found = to} zig leads past) e =
    let same : to ≡ found = cc in subst (λ (g : Found). IsShort (root_text g)) same (short-leads root (start root) to files leads (lit≤ tt))
root-short root files end found (stopped zig leads turn) e = absurd (cc)
