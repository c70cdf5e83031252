-- Small texts and the rules that their names break, worked out by hand: the errors, each with the number of the token where it is told.
use Rattle.std.specs.Prelude.{◌≡◌, ℕ, ◌+◌, ◌-◌, List, [], ◌∷◌, ◌++◌, map, None}
use Rattle.zw_tree.specs.Trees.{Forest, none, tree, beside}
use Rattle.zw_tree.specs.declared.ast.Entry.{Entry}
use Rattle.zw_tree.specs.declared.kind.NodeKind.{NodeKind}
use Rattle.zw_tree.specs.declared.kind.NodeKind.TheVariants.{Root, Function, ExternWord, InferredErrorsWord, Name, QuotedName, Blank, Parameter, Identifier, QuotedIdentifier, Block, Return, Number, Const, Field, Struct, Enum, Label, While, Break, Continue, Defer, If, Capture, Else, For, ContinueExpression, Try, ErrorSet, Test, ComptimeBlock}
use Rattle.zw_scope.specs.NameRules.{Violation, violations}

-- a tree: a node of this kind that begins with this token, its name, and the trees below it
abbrev pub row : List (Forest Entry) → Forest Entry
row [] = none
row (first ∷ others) = beside first (row others)

abbrev pub node : NodeKind → ℕ → List ℕ → List (Forest Entry) → Forest Entry
node kind first name below = tree (record { node = record { kind = kind; place = record { file = 0; line = 1; column = 1 }; first = first; last = first }; name = name; number = None }) (row below) none

abbrev pub form : NodeKind → ℕ → List (Forest Entry) → Forest Entry
form kind first below = node kind first [] below

-- names of one letter, and that of a primitive type
abbrev pub a : List ℕ
a = 97 ∷ []

abbrev pub b : List ℕ
b = 98 ∷ []

abbrev pub u8 : List ℕ
u8 = 117 ∷ 56 ∷ []

abbrev pub name : ℕ → List ℕ → Forest Entry
name first text = node Name first text []

abbrev pub mention : ℕ → List ℕ → Forest Entry
mention first text = node Identifier first text []

-- `text: u8` from this token on
abbrev pub parameter : ℕ → List ℕ → Forest Entry
parameter first text = form Parameter first (name first text ∷ mention (2 + first) u8 ∷ [])

pub record Told : Type 0 where
  pub error : ℕ
  pub token : ℕ

abbrev pub at : ℕ → ℕ → Told
at error token = record { error = error; token = token }

abbrev pub told_in : List (Forest Entry) → List Told
told_in members = map (λ (v : Violation). at v.error v.at.node.first) (violations (form Root 0 members))

-- `fn b(…) … {…}` with this type of the result, these parameters and statements, of which the block begins with this token
abbrev pub function_to : List (Forest Entry) → List (Forest Entry) → ℕ → List (Forest Entry) → Forest Entry
function_to result parameters brace statements = form Function 0 ((name 1 b ∷ parameters) ++ (result ++ form Block brace statements ∷ []))

-- `fn b(…) void {…}` with these parameters and statements, of which the block begins with this token
abbrev pub function : List (Forest Entry) → ℕ → List (Forest Entry) → Forest Entry
function parameters brace statements =
    form Function 0 ((name 1 b ∷ parameters) ++ (mention (brace - 1) (118 ∷ 111 ∷ 105 ∷ 100 ∷ []) ∷ form Block brace statements ∷ []))

pub record WorkedNames : Type 0 where
  -- `fn b(a: u8) void { a; }`
  pub mentioned : told_in (function (parameter 3 a ∷ []) 8 (mention 9 a ∷ []) ∷ []) ≡ []
  -- `fn b(a: u8) void { }`
  pub unused : told_in (function (parameter 3 a ∷ []) 8 [] ∷ []) ≡ at 10 3 ∷ []
  -- `extern fn b(a: u8) void;` needs no mention
  pub extern_unused : told_in (form Function 0 (name 2 b ∷ parameter 4 a ∷ mention 8 u8 ∷ []) ∷ []) ≡ []
  -- `extern fn b(a: u8) {};`: the block is the type of the result
  pub extern_block : told_in (form Function 0 (node ExternWord 0 [] [] ∷ name 2 b ∷ parameter 4 a ∷ form Block 8 [] ∷ []) ∷ []) ≡ []
  -- `fn b(a: u8) { a; } { }`: so is the first block here, in which `a` is a mention as any
  pub mentioned_in_result : told_in (function_to (form Block 7 (mention 8 a ∷ []) ∷ []) (parameter 3 a ∷ []) 11 [] ∷ []) ≡ []
  -- `fn b(_: u8) void { }`
  pub blank : told_in (function (form Parameter 3 (node Blank 3 (95 ∷ []) [] ∷ mention 5 u8 ∷ []) ∷ []) 8 [] ∷ []) ≡ []
  -- `fn b(a: u8, a: u8) void { a; }`: repeated alone
  pub two_parameters : told_in (function (parameter 3 a ∷ parameter 7 a ∷ []) 12 (mention 13 a ∷ []) ∷ []) ≡ at 11 7 ∷ []
  -- `fn b(b: u8) void { b; }`: the function is visible
  pub shadows_declaration : told_in (function (parameter 3 b ∷ []) 8 (mention 9 b ∷ []) ∷ []) ≡ at 8 3 ∷ []
  -- `fn b(u8: u8) void { }`: a mention of `u8` is one of the primitive
  pub shadows_primitive : told_in (function (parameter 3 u8 ∷ []) 8 [] ∷ []) ≡ at 8 3 ∷ at 10 3 ∷ []
  -- `fn b(@"u8": u8) void { @"u8"; }`
  pub quoted_primitive :
      told_in (function (form Parameter 3 (node QuotedName 3 u8 [] ∷ mention 5 u8 ∷ []) ∷ []) 8 (node QuotedIdentifier 9 u8 [] ∷ []) ∷ []) ≡ []
  -- `fn b() void { @"u8"; }`: quoted, it is no primitive
  pub quoted_unknown : told_in (function [] 5 (node QuotedIdentifier 6 u8 [] ∷ []) ∷ []) ≡ at 9 6 ∷ []
  -- `fn b() void { const a = a; }`: a local isn't visible in its own value
  pub own_value : told_in (function [] 5 (form Const 6 (name 7 a ∷ mention 9 a ∷ []) ∷ []) ∷ []) ≡ at 10 7 ∷ at 9 9 ∷ []
  -- `fn b() void { a; const a = 1; a; }`: nor before it
  pub before :
      told_in (function [] 5 (mention 6 a ∷ form Const 8 (name 9 a ∷ form Number 11 [] ∷ []) ∷ mention 13 a ∷ []) ∷ []) ≡ at 9 6 ∷ []
  -- `fn b() void { a; } const a = 1;`: a declaration is
  pub declaration_behind :
      told_in (function [] 5 (mention 6 a ∷ []) ∷ form Const 9 (name 10 a ∷ form Number 12 [] ∷ []) ∷ []) ≡ []
  -- `const a = 1; const a = 1;`
  pub two_declarations :
      told_in (form Const 0 (name 1 a ∷ form Number 3 [] ∷ []) ∷ form Const 5 (name 6 a ∷ form Number 8 [] ∷ []) ∷ []) ≡ at 11 6 ∷ []
  -- `a: u8, const a = 1;`: fields and declarations are one list
  pub field_and_declaration :
      told_in (form Field 0 (name 0 a ∷ mention 2 u8 ∷ []) ∷ form Const 4 (name 5 a ∷ form Number 7 [] ∷ []) ∷ []) ≡ at 11 5 ∷ []
  -- `a: u8, fn b() void { a; }`: no field is visible
  pub field : told_in (form Field 0 (name 0 a ∷ mention 2 u8 ∷ []) ∷ function [] 9 (mention 10 a ∷ []) ∷ []) ≡ at 9 10 ∷ []
  -- `fn b(a: u8) void { struct { const a = 1; }; a; }`: a declaration with the name of a visible local
  pub inner_declaration :
      told_in (function (parameter 3 a ∷ []) 8 (form Struct 9 (form Const 11 (name 12 a ∷ form Number 14 [] ∷ []) ∷ []) ∷ mention 18 a ∷ []) ∷ []) ≡ at 8 12 ∷ []
  -- `const a = struct { const a = 1; };`: not one with the name of an outer declaration
  pub outer_declaration :
      told_in (form Const 0 (name 1 a ∷ form Struct 3 (form Const 5 (name 6 a ∷ form Number 8 [] ∷ []) ∷ []) ∷ []) ∷ []) ≡ []
  -- `const b = enum(a) { const a = 1; };`: what a container declares isn't visible before its braces
  pub brackets :
      told_in (form Const 0 (name 1 b ∷ form Enum 3 (mention 5 a ∷ form Const 8 (name 9 a ∷ form Number 11 [] ∷ []) ∷ []) ∷ []) ∷ []) ≡ at 9 5 ∷ []
  -- `fn b() void { if (b) |a| { } else a; }`
  pub capture_in_else :
      told_in (function [] 5 (form If 6 (mention 8 b ∷ form Capture 11 (name 11 a ∷ []) ∷ form Block 13 [] ∷ form Else 15 (mention 16 a ∷ []) ∷ []) ∷ []) ∷ [])
      ≡ at 10 11 ∷ at 9 16 ∷ []
  -- `fn b() void { for (b, b) |a, a| { a; } }`
  pub two_captures :
      told_in (function [] 5 (form For 6 (mention 8 b ∷ mention 10 b ∷ form Capture 13 (name 13 a ∷ []) ∷ form Capture 15 (name 15 a ∷ []) ∷ form Block 17 (mention 18 a ∷ []) ∷ []) ∷ []) ∷ [])
      ≡ at 8 15 ∷ at 10 15 ∷ []
  -- `const b = error{a, a};`
  pub two_errors : told_in (form Const 0 (name 1 b ∷ form ErrorSet 3 (name 5 a ∷ name 7 a ∷ []) ∷ []) ∷ []) ≡ at 11 7 ∷ []
  -- `test a { }`
  pub test_name : told_in (form Test 0 (mention 1 a ∷ form Block 2 [] ∷ []) ∷ []) ≡ at 9 1 ∷ []

-- a label before a block or a loop, and one behind `break` or `continue`
abbrev pub label : ℕ → List ℕ → Forest Entry
label first text = form Label first (name first text ∷ [])

abbrev pub named_label : ℕ → List ℕ → Forest Entry
named_label first text = form Label first (name (1 + first) text ∷ [])

-- what is told of these statements in a function's body
abbrev pub told_of : List (Forest Entry) → List Told
told_of statements = told_in (function [] 5 statements ∷ [])

pub record WorkedJumps : Type 0 where
  -- `a: { break :a; }`
  pub labelled_block : told_of (form Block 6 (label 6 a ∷ form Break 9 (named_label 10 a ∷ []) ∷ []) ∷ []) ≡ []
  -- `a: { continue :a; }`
  pub continues_block : told_of (form Block 6 (label 6 a ∷ form Continue 9 (named_label 10 a ∷ []) ∷ []) ∷ []) ≡ at 13 9 ∷ []
  -- `{ break :a; }`
  pub no_label : told_of (form Block 6 (form Break 7 (named_label 8 a ∷ []) ∷ []) ∷ []) ≡ at 12 9 ∷ []
  -- `a: { a: { } }`
  pub label_again : told_of (form Block 6 (label 6 a ∷ form Block 9 (label 9 a ∷ []) ∷ []) ∷ []) ≡ at 12 9 ∷ []
  -- `a: { } a: { }`
  pub label_behind : told_of (form Block 6 (label 6 a ∷ []) ∷ form Block 10 (label 10 a ∷ []) ∷ []) ≡ []
  -- `while (b) : (break) { continue; } else break;`: the step is the loop's, what stands behind `else` isn't
  pub loop :
      told_of (form While 6 (mention 8 b ∷ form ContinueExpression 10 (form Break 12 [] ∷ []) ∷ form Block 14 (form Continue 15 [] ∷ []) ∷ form Else 18 (form Break 19 [] ∷ []) ∷ []) ∷ [])
      ≡ at 13 19 ∷ []
  -- `while (break) { }`
  pub condition : told_of (form While 6 (form Break 8 [] ∷ form Block 10 [] ∷ []) ∷ []) ≡ at 13 8 ∷ []
  -- `a: while (a: { break :a; }) { break :a; }`: in its condition a loop's label isn't open
  pub label_in_condition :
      told_of (form While 6 (label 6 a ∷ form Block 10 (label 10 a ∷ form Break 13 (named_label 14 a ∷ []) ∷ []) ∷ form Block 19 (form Break 20 (named_label 21 a ∷ []) ∷ []) ∷ []) ∷ []) ≡ []
  -- `defer return;`
  pub leaves_defer : told_of (form Defer 6 (form Return 7 [] ∷ []) ∷ []) ≡ at 13 7 ∷ []
  -- `a: { defer { break :a; } }`
  pub breaks_defer :
      told_of (form Block 6 (label 6 a ∷ form Defer 9 (form Block 10 (form Break 11 (named_label 12 a ∷ []) ∷ []) ∷ []) ∷ []) ∷ []) ≡ at 13 11 ∷ []
  -- `defer while (b) { break; }`
  pub inside_defer : told_of (form Defer 6 (form While 7 (mention 9 b ∷ form Block 11 (form Break 12 [] ∷ []) ∷ []) ∷ []) ∷ []) ≡ []
  -- `while (b) { struct { const a = break; }; }`: a container ends what takes a jump
  pub container : told_of (form While 6 (mention 8 b ∷ form Block 10 (form Struct 11 (form Const 13 (name 14 a ∷ form Break 16 [] ∷ []) ∷ []) ∷ []) ∷ []) ∷ []) ≡ at 13 16 ∷ []
  -- `fn b() { return; } {}` and `fn b() !{ return; } {}`: the first block is the type of the result
  pub result_block : told_in (function_to (form Block 4 (form Return 5 [] ∷ []) ∷ []) [] 8 [] ∷ []) ≡ at 13 5 ∷ []
  pub result_block_or_error : told_in (function_to (form InferredErrorsWord 4 [] ∷ form Block 5 (form Return 6 [] ∷ []) ∷ []) [] 9 [] ∷ []) ≡ at 13 6 ∷ []
  -- `extern fn b() { return; };`
  pub extern_result_block : told_in (form Function 0 (node ExternWord 0 [] [] ∷ name 2 b ∷ form Block 5 (form Return 6 [] ∷ []) ∷ []) ∷ []) ≡ at 13 6 ∷ []
  -- `const a = try b;`, `comptime { return; }` and `test { try b; }`, as members of a file that has `b`
  pub members :
      told_in (form Const 0 (name 1 a ∷ form Try 3 (mention 4 a ∷ []) ∷ []) ∷ form ComptimeBlock 6 (form Block 7 (form Return 8 [] ∷ []) ∷ []) ∷ form Test 11 (form Block 12 (form Try 13 (mention 14 a ∷ []) ∷ []) ∷ []) ∷ [])
      ≡ at 13 3 ∷ at 13 8 ∷ []
