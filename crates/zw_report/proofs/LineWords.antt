-- Each line is words of visible ASCII, with LF at its end.
use Rattle.std.proofs.Common.{◌≡◌, ℕ, ◌≤◌, Bool, true, false, List, [], ◌∷◌, ◌++◌, refl, sym, ap, ◌∙◌, append_assoc, append-nil, codes}
use Rattle.std.specs.Prelude.{Option, Some, None, if◌then◌else◌, nat_eq}
use Rattle.std.specs.Fmt.{decimal}
use Rattle.std.specs.List.{AllByRecursion, flat_map, list_all}
use Rattle.std.proofs.lemmas.Bool.{and_from}
use Rattle.hex.specs.Hex.{IsBytes}
use Rattle.zw_base.specs.declared.stop.Stop.{Stop}
use Rattle.zw_report.specs.declared.arg.Arg.{Arg}
use Rattle.zw_report.specs.declared.item.ItemTy.{ItemTy}
use Rattle.zw_report.specs.declared.item.ItemTy.TheVariants.{Int, Bool as Logical, Bytes, Void}
use Rattle.zw_report.specs.Lines.{argument, argument_text, begin, bytes_text, call_line, cause_name, event_line, is_plain, items, panic_line, result_line, shown, value_text, word}
use Rattle.zw_report.specs.StopLines.{IsNamed, class_of, name_of, number_of, stop_line}
use Rattle.zw_report.specs.Words.{IsLine}
use Rattle.zw_report.proofs.Plain.{plain-append, plain-argument, plain-bytes, plain-cause, plain-class, plain-decimal, plain-name, plain-shown, plain-value}
use Rattle.zw_wasm.specs.declared.num.Num.{Num}
use Rattle.zw_wasm_run.specs.declared.event.Event.{Event}

-- words, each behind a blank
abbrev pub AreWords : List ℕ → Type 0
AreWords text = (words : List (List ℕ)) × (list_all is_plain words ≡ true) × (text ≡ flat_map word words)

-- a first word, others and LF are a line
line : (first others bytes : List ℕ) → is_plain first ≡ true → AreWords others → bytes ≡ first ++ others ++ codes "\n" → IsLine bytes
line first others bytes p w e = (first, w.0, and_from _ _ p w.1, e ∙ ap (λ (l : List ℕ). first ++ l ++ codes "\n") w.2)

no_words : AreWords []
no_words = ([], refl, refl)

words-cons : (text rest : List ℕ) → is_plain text ≡ true → AreWords rest → AreWords (word text ++ rest)
words-cons text rest p w = (text ∷ w.0, and_from _ _ p w.1, ap (λ (l : List ℕ). word text ++ l) w.2)

one_word : (text : List ℕ) → is_plain text ≡ true → AreWords (word text)
one_word text p = (text ∷ [], and_from _ _ p refl, sym (append-nil (word text)))

arguments_are_words : (args : List Arg) → AreWords (flat_map argument args)
arguments_are_words [] = no_words
arguments_are_words (a ∷ args) = words-cons (argument_text a) (flat_map argument args) (plain-argument a) (arguments_are_words args)

items_are_words : (tys : List ItemTy) (numbers : List Num) (texts : List (List ℕ)) → AllByRecursion IsBytes texts → AreWords (items tys numbers texts)
items_are_words [] numbers texts h = no_words
items_are_words (Bytes ∷ tys) numbers [] h = no_words
items_are_words (Bytes ∷ tys) numbers (text ∷ texts) h = words-cons (bytes_text text) (items tys numbers texts) (plain-bytes text h.0) (items_are_words tys numbers texts h.1)
items_are_words (Int s b ∷ tys) [] texts h = no_words
items_are_words (Int s b ∷ tys) (n ∷ numbers) texts h = words-cons (value_text (Int s b) n) (items tys numbers texts) (plain-value (Int s b) n) (items_are_words tys numbers texts h)
items_are_words (Logical ∷ tys) [] texts h = no_words
items_are_words (Logical ∷ tys) (n ∷ numbers) texts h = words-cons (value_text Logical n) (items tys numbers texts) (plain-value Logical n) (items_are_words tys numbers texts h)
items_are_words (Void ∷ tys) [] texts h = no_words
items_are_words (Void ∷ tys) (n ∷ numbers) texts h = words-cons (value_text Void n) (items tys numbers texts) (plain-value Void n) (items_are_words tys numbers texts h)

-- a line of a first word, a name and words
named : (first name others : List ℕ) → is_plain first ≡ true → IsBytes name → AreWords others → IsLine (begin first name ++ others ++ codes "\n")
named first name others p h w =
    line first (word (shown name) ++ others) (begin first name ++ others ++ codes "\n") p (words-cons (shown name) others (plain-shown name h) w)
    (ap (λ (l : List ℕ). l ++ codes "\n") (append_assoc first (word (shown name)) others))

pub call_is_line : (name : List ℕ) (args : List Arg) → IsBytes name → IsLine (call_line name args)
call_is_line name args h = named (codes "call") name (flat_map argument args) refl h (arguments_are_words args)

pub event_is_line : (name : List ℕ) (tys : List ItemTy) (event : Event) → IsBytes name → AllByRecursion IsBytes event.shown → IsLine (event_line name tys event)
event_is_line name tys event h t = named (codes "host") name (items tys event.args event.shown) refl h (items_are_words tys event.args event.shown t)

pub result_is_line : (ty : ItemTy) (number : Option Num) → IsLine (result_line ty number)
result_is_line ty None = (codes "result", codes "void" ∷ [], refl, refl)
result_is_line ty (Some n) = line (codes "result") (word (value_text ty n)) (result_line ty (Some n)) refl (one_word (value_text ty n) (plain-value ty n)) refl

message_is_words : (b : Bool) (message : List ℕ) → IsBytes message → AreWords (if b then word (bytes_text message) else [])
message_is_words true message h = one_word (bytes_text message) (plain-bytes message h)
message_is_words false message h = no_words

pub panic_is_line : (cause : ℕ) (message : List ℕ) → 1 ≤ cause → cause ≤ 19 → IsBytes message → IsLine (panic_line cause message)
panic_is_line cause message low high h =
    let tail = if nat_eq cause 18 then word (bytes_text message) else [] in
    let others = word (decimal cause) ++ (word (cause_name cause) ++ tail) in
    line (codes "panic") others (panic_line cause message) refl
    (words-cons (decimal cause) (word (cause_name cause) ++ tail) (plain-decimal cause)
    (words-cons (cause_name cause) tail (plain-cause cause low high) (message_is_words (nat_eq cause 18) message h)))
    (ap (λ (l : List ℕ). l ++ codes "\n")
    (append_assoc (codes "panic" ++ word (decimal cause)) (word (cause_name cause)) tail ∙ append_assoc (codes "panic") (word (decimal cause)) (word (cause_name cause) ++ tail)))

-- the first word of a stop's line: the path and the place
abbrev placed : List ℕ → List ℕ → List ℕ → List ℕ
placed path row column = path ++ (codes ":" ++ (row ++ (codes ":" ++ (column ++ codes ":"))))

plain-placed : (path row column : List ℕ) → is_plain path ≡ true → is_plain row ≡ true → is_plain column ≡ true → is_plain (placed path row column) ≡ true
plain-placed path row column p r c =
    plain-append path (codes ":" ++ (row ++ (codes ":" ++ (column ++ codes ":")))) p
    (plain-append (codes ":") (row ++ (codes ":" ++ (column ++ codes ":"))) refl
    (plain-append row (codes ":" ++ (column ++ codes ":")) r
    (plain-append (codes ":") (column ++ codes ":") refl (plain-append column (codes ":") c refl))))

placed-then : (path row column rest : List ℕ) → placed path row column ++ rest ≡ path ++ (codes ":" ++ (row ++ (codes ":" ++ (column ++ (codes ":" ++ rest)))))
placed-then path row column rest = simp append_assoc

words-then : (class number name rest : List ℕ) → (word class ++ (word number ++ word name)) ++ rest ≡ word class ++ (word number ++ (word name ++ rest))
words-then class number name rest =
    append_assoc (word class) (word number ++ word name) rest ∙ ap (λ (l : List ℕ). word class ++ l) (append_assoc (word number) (word name) rest)

regrouped : (path row column class number name : List ℕ)
    → path ++ (codes ":" ++ (row ++ (codes ":" ++ (column ++ (codes ": " ++ (class ++ (codes " " ++ (number ++ (codes " " ++ (name ++ codes "\n"))))))))))
    ≡ placed path row column ++ (word class ++ (word number ++ word name)) ++ codes "\n"
regrouped path row column class number name =
    let words = word class ++ (word number ++ word name) in
    sym
    (append_assoc (placed path row column) words (codes "\n")
    ∙ (placed-then path row column (words ++ codes "\n")
    ∙ ap (λ (l : List ℕ). path ++ (codes ":" ++ (row ++ (codes ":" ++ (column ++ (codes ":" ++ l)))))) (words-then class number name (codes "\n"))))

pub stop_is_line : (path : List ℕ) (stop : Stop) → IsBytes path → IsNamed stop.kind → IsLine (stop_line path stop)
stop_is_line path stop h named =
    let row = decimal stop.place.line in
    let column = decimal stop.place.column in
    let number = decimal (number_of stop.kind) in
    let name = name_of stop.kind in
    line (placed (shown path) row column) (word (class_of stop.kind) ++ (word number ++ word name)) (stop_line path stop)
    (plain-placed (shown path) row column (plain-shown path h) (plain-decimal stop.place.line) (plain-decimal stop.place.column))
    (words-cons (class_of stop.kind) (word number ++ word name) (plain-class stop.kind)
    (words-cons number (word name) (plain-decimal (number_of stop.kind)) (one_word name (plain-name stop.kind named))))
    (regrouped (shown path) row column (class_of stop.kind) number name)
