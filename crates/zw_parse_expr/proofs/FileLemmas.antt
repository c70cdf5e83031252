-- Files over their tokens: a list of tokens that ends once is a file, or has one first token after which no file goes on.
use Rattle.std.proofs.Common.{◌≡◌, ℕ, zero, suc, ◌-◌, ◌<◌, ◌≤◌, Bool, true, false, ◌==◌, List, [], ◌∷◌, ◌++◌, length, take, drop, Option, Some, None, refl, sym, ap, ◌∙◌, subst, append_assoc, arith, ◌⊎◌, inl, inr}
use Rattle.std.proofs.lemmas.Bool.{eqb-true, eq-eqb, cases_lt}
use Rattle.std.proofs.lemmas.List.{take-append-drop}
use Rattle.zw_grammar.specs.declared.grammar.Symbol.{Symbol}
use Rattle.zw_grammar.specs.declared.builder.Builder.{Builder}
use Rattle.zw_grammar.specs.declared.machine.End.{End}
use Rattle.zw_grammar.specs.declared.machine.End.TheVariants as ends
use Rattle.zw_grammar.specs.Building.{Building}
use Rattle.zw_grammar.specs.Ends.{IsRead, StopsAt}
use Rattle.zw_grammar.specs.Grammars.{all_end}
use Rattle.zw_grammar.specs.Reading.{Reading, Leads, after}
use Rattle.zw_grammar.specs.Texts.{begins, Reads, IsWrong}
use Rattle.zw_grammar.proofs.LawLemmas.{one_final, not_nested, nested_once, nested_or_flat}
use Rattle.zw_grammar.proofs.LeadLemmas.{one_way, no_way}
use Rattle.zw_grammar.proofs.StepLemmas.{truth}
use Rattle.zw_grammar.proofs.TakeLemmas.{stuck_somewhere}
use Rattle.zw_parse_expr.specs.Files.{file_start, IsFile, IsWrongFile, IsNestedFile, StopsFile, FileEnds}
use Rattle.zw_parse_expr.specs.Lexemes.{Lexeme, terminals_of, EndsOnce}
use Rattle.zw_parse_expr.specs.Rules.{rules}
use Rattle.zw_parse_expr.proofs.Checks.{all_rules_end}
use Rattle.zw_parse_expr.proofs.LexemeLemmas.{length-terminals, goes_behind, ends_there}
use Rattle.zw_parse_expr.proofs.PartLemmas.{Sound, part_goes, part_within, reads_no_further, stops_reading}

pub start_sound : Sound file_start
start_sound = record { fitting = refl; spelled = refl; kept = refl }

some_length : (list : List Lexeme) → EndsOnce list → 0 < length list
some_length [] ends = absurd ends
some_length (lexeme ∷ others) ends = omega arith

-- where a reading of a list can't go on, no file goes on behind the next token, unless the list is a file
file_stops : (list : List Lexeme) (r : Reading) → EndsOnce list → Leads rules (terminals_of list) (begins file_start 0) r → after rules (terminals_of list) r ≡ None →
    r.next < length list → (r.stack ≡ [] → r.next ≡ length list - 1 → ⊥) → (more : List Lexeme) (b : Building) → IsFile (take (suc r.next) list ++ more) b → ⊥
file_stops list r ends leads stuck less unread more b file =
    let place = r.next in
    let T = terminals_of list in
    let whole = take (suc place) list ++ more in
    elim (cases_lt (suc place) (length list)) [
      | inl inside ↦
          let beyond = goes_behind place list more ends inside file.ends in
          reads_no_further file_start list more 0 (length whole - 1) b r start_sound leads stuck less (omega arith) file.reads
      | inr last ↦
          let long : length list ≡ suc place = omega arith in
          let same : whole ≡ list = ends_there place list more ends long file.ends in
          let own = subst (λ (l : List Lexeme). Leads rules (terminals_of l) (begins file_start 0) (record { stack = []; next = length l - 1; building = b })) same file.reads.leads in
          let end : Reading = record { stack = []; next = length list - 1; building = b } in
          let apart : r ≡ end → ⊥ = λ e. unread (ap (λ (q : Reading). q.stack) e) (ap (λ (q : Reading). q.next) e) in
          elim (one_way rules T (begins file_start 0) r end leads own) [
            | inl p ↦ apart (no_way rules T r end stuck p)
            | inr p ↦ apart (sym (no_way rules T end r refl p))
          ]
    ]

pub stuck_wrong : (list : List Lexeme) (r : Reading) → EndsOnce list → Leads rules (terminals_of list) (begins file_start 0) r → after rules (terminals_of list) r ≡ None →
    (r.stack ≡ [] → r.next ≡ length list - 1 → ⊥) → IsWrongFile list r.next
stuck_wrong list r ends leads stuck unread =
    let less = part_within file_start list 0 r start_sound ends (some_length list ends) leads in
    let goes = part_goes r.next file_start list 0 r.next r start_sound ends leads (omega arith) (omega arith) less in
    record {
      within = less;
      goes = (goes.0, goes.1.building, record { ends = goes.1.ends; reads = goes.1.reads });
      stops = file_stops list r ends leads stuck less unread;
    }

-- a list that ends once is a file, or has a wrong token
pub file_or_wrong : (list : List Lexeme) → EndsOnce list → ((b : Building) × IsFile list b) ⊎ ((place : ℕ) × IsWrongFile list place)
file_or_wrong list ends =
    let T = terminals_of list in
    let n = stuck_somewhere (length T) rules T (begins file_start 0) (truth (all_end rules rules) all_rules_end) (omega arith) in
    let r = n.at in
    let wrong : (r.stack ≡ [] → r.next ≡ length list - 1 → ⊥) → ((b : Building) × IsFile list b) ⊎ ((place : ℕ) × IsWrongFile list place) =
    λ unread. inr (r.next, stuck_wrong list r ends n.leads n.stuck unread) in
    let same = length-terminals list in
    let less = part_within file_start list 0 r start_sound ends (some_length list ends) n.leads in
    let Q : List Symbol → Type 0 = λ s. r.stack ≡ s → ((b : Building) × IsFile list b) ⊎ ((place : ℕ) × IsWrongFile list place) in
    let P : Bool → Type 0 = λ b. (r.next == length list - 1) ≡ b → r.stack ≡ [] → ((b : Building) × IsFile list b) ⊎ ((place : ℕ) × IsWrongFile list place) in
    let at_end : (b : Bool) → P b = λ b. elim b as P [
      | true ↦ λ e empty.
          let next_is = eqb-true r.next (length list - 1) e in
          let is : r ≡ record { stack = []; next = length list - 1; building = r.building } =
          ap (λ (s : List Symbol). record { stack = s; next = r.next; building = r.building }) empty
          ∙ ap (λ (k : ℕ). record { stack = []; next = k; building = r.building }) next_is in
          let within : length list - 1 < length T = omega arith in
          inl (r.building, record { ends = ends; reads = record { leads = subst (λ (q : Reading). Leads rules T (begins file_start 0) q) is n.leads; before = within } })
      | false ↦ λ e empty. wrong (λ f next_is. let yes : (r.next == length list - 1) ≡ true = eq-eqb r.next (length list - 1) next_is in let clash : false ≡ true = sym e ∙ yes in absurd (cc))
    ] in
    let go : (s : List Symbol) → Q s = λ s. elim s as Q [
      | [] ↦ λ empty. at_end (r.next == length list - 1) refl empty
      | x ∷ xs ↦ λ some. wrong (λ empty next_is. let clash : x ∷ xs ≡ [] = sym some ∙ empty in absurd (cc))
    ] in
    go r.stack refl

-- a list is one file at most
pub one_file : (list : List Lexeme) (b c : Building) → IsFile list b → IsFile list c → b ≡ c
one_file list b c f g = (one_final rules file_start (terminals_of list) 0 (length list - 1) (length list - 1) b c f.reads g.reads).1

-- a file has no wrong token
pub file_not_wrong : (list : List Lexeme) (b : Building) (place : ℕ) → IsFile list b → IsWrongFile list place → ⊥
file_not_wrong list b place file wrong =
    wrong.stops (drop (suc place) list) b (subst (λ (l : List Lexeme). IsFile l b) (sym (take-append-drop (suc place) list)) file)

longer_front : (m n : ℕ) (list : List Lexeme) → m ≤ n → take n list ≡ take m list ++ drop m (take n list)
longer_front zero n list le = refl
longer_front (suc m) zero list le = absurd (omega arith)
longer_front (suc m) (suc n) [] le = refl
longer_front (suc m) (suc n) (x ∷ xs) le = ap (λ (l : List Lexeme). x ∷ l) (longer_front m n xs (omega arith))

not_later : (list : List Lexeme) (place other : ℕ) → IsWrongFile list place → IsWrongFile list other → place < other → ⊥
not_later list place other w v less =
    let g = v.goes in
    let rest = drop (suc place) (take other list) in
    let same : take other list ++ g.0 ≡ take (suc place) list ++ (rest ++ g.0) =
    ap (λ (l : List Lexeme). l ++ g.0) (longer_front (suc place) other list (omega arith)) ∙ append_assoc (take (suc place) list) rest g.0 in
    w.stops (rest ++ g.0) g.1 (subst (λ (l : List Lexeme). IsFile l g.1) same g.2)

-- a list has one wrong token at most
pub one_wrong_file : (list : List Lexeme) (place other : ℕ) → IsWrongFile list place → IsWrongFile list other → place ≡ other
one_wrong_file list place other w v =
    let first = not_later list place other w v in
    let second = not_later list other place v w in
    omega (arith, first, second)

-- and one that begins the first rule nested too deep
pub one_nested_file : (list : List Lexeme) (place other : ℕ) → IsNestedFile list place → IsNestedFile list other → place ≡ other
one_nested_file list place other n m = nested_once rules file_start (terminals_of list) 0 place other n m

-- what is read before the end of a list is wrong where the reading ends
pub read_wrong : (list : List Lexeme) (to : ℕ) (b : Building) → EndsOnce list → Reads rules file_start (terminals_of list) 0 to b → (to ≡ length list - 1 → ⊥) → IsWrongFile list to
read_wrong list to b ends reads unread =
    stuck_wrong list (record { stack = []; next = to; building = b }) ends reads.leads refl (λ empty next_is. unread next_is)

-- what is wrong over terminals is wrong over tokens
pub wrong_file : (list : List Lexeme) (place : ℕ) → EndsOnce list → IsWrong rules file_start (terminals_of list) 0 place → IsWrongFile list place
wrong_file list place ends wrong =
    let s = stops_reading file_start list 0 place start_sound ends (some_length list ends) wrong in
    subst (IsWrongFile list) s.next_is (stuck_wrong list s.at ends s.leads s.stuck (λ empty next_is. s.unread empty))

-- a file with no rule nested too deep has no place of one
pub file_not_nested : (list : List Lexeme) (b : Building) (place : ℕ) → IsFile list b → b.passed ≡ None → IsNestedFile list place → ⊥
file_not_nested list b place file flat nested = not_nested rules file_start (terminals_of list) 0 (length list - 1) place b file.reads flat nested

-- one end of a reading is due
pub end_once : (list : List Lexeme) (a b : Builder) (end other : End) → FileEnds list a end → FileEnds list b other → end ≡ other
end_once list a b (ends.Read to) (ends.Read from) e f = ap ends.Read (e.at_end ∙ sym f.at_end)
end_once list a b (ends.Read to) (ends.Wrong place) e f = absurd (file_not_wrong list e.building place e.file f.wrong)
end_once list a b (ends.Read to) (ends.Nested place) e f = absurd (file_not_nested list e.building place e.file e.flat f)
end_once list a b (ends.Wrong place) (ends.Read to) e f = absurd (file_not_wrong list f.building place f.file e.wrong)
end_once list a b (ends.Wrong place) (ends.Wrong other) e f = ap ends.Wrong (one_wrong_file list place other e.wrong f.wrong)
end_once list a b (ends.Wrong place) (ends.Nested other) e f = absurd (e.flat other f)
end_once list a b (ends.Nested place) (ends.Read to) e f = absurd (file_not_nested list f.building place f.file f.flat e)
end_once list a b (ends.Nested place) (ends.Wrong other) e f = absurd (f.flat place e)
end_once list a b (ends.Nested place) (ends.Nested other) e f = ap ends.Nested (one_nested_file list place other e f)

-- how a reading of the members ends, and that of a file
pub read_to_end : (list : List Lexeme) (builder : Builder) (to : ℕ) → EndsOnce list → IsRead rules file_start (terminals_of list) 0 to [] builder → to ≡ length list - 1 → FileEnds list builder (ends.Read to)
read_to_end list builder to ends read at_end = record {
  building = read.building;
  file = record { ends = ends; reads = subst (λ (n : ℕ). Reads rules file_start (terminals_of list) 0 n read.building) at_end read.reads };
  flat = read.flat;
  holds = read.holds;
  at_end = at_end;
}

pub read_before_end : (list : List Lexeme) (builder : Builder) (to : ℕ) → EndsOnce list → IsRead rules file_start (terminals_of list) 0 to [] builder → (to ≡ length list - 1 → ⊥) → FileEnds list builder (ends.Wrong to)
read_before_end list builder to ends read unread = record {
  wrong = read_wrong list to read.building ends read.reads unread;
  flat = λ other nested. not_nested rules file_start (terminals_of list) 0 to other read.building read.reads read.flat nested;
}

pub stops_file : (list : List Lexeme) (builder : Builder) (place : ℕ) → EndsOnce list → StopsAt rules file_start (terminals_of list) 0 place → FileEnds list builder (ends.Wrong place)
stops_file list builder place ends stops = record { wrong = wrong_file list place ends stops.wrong; flat = stops.flat }

-- what is told of a list of tokens: a file with no rule nested too deep, or one is, or a token is wrong before any is
abbrev IsTold : List Lexeme → Type 0
IsTold list = ((b : Building) × IsFile list b × (b.passed ≡ None)) ⊎ (((place : ℕ) × IsNestedFile list place) ⊎ ((place : ℕ) × StopsFile list place))

file_told : (list : List Lexeme) (b : Building) → IsFile list b → (o : Option ℕ) → b.passed ≡ o → IsTold list
file_told list b file None e = inl (b, file, e)
file_told list b file (Some place) e =
    inr (inl (place, record { reading = record { stack = []; next = length list - 1; building = b }; leads = file.reads.leads; passed = e; taken = inr refl }))

-- a list that ends once is told of
pub file_or_stopped : (list : List Lexeme) → EndsOnce list → IsTold list
file_or_stopped list ends =
    let T = terminals_of list in
    let n = stuck_somewhere (length T) rules T (begins file_start 0) (truth (all_end rules rules) all_rules_end) (omega arith) in
    elim (file_or_wrong list ends) [
      | inl file ↦ file_told list file.0 file.1 (file.0).passed refl
      | inr wrong ↦ elim (nested_or_flat rules file_start T 0 n.at n.leads n.stuck) [
        | inl nested ↦ inr (inl nested)
        | inr flat ↦ inr (inr (wrong.0, record { wrong = wrong.1; flat = flat }))
      ]
    ]
