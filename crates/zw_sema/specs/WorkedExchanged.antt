-- A declaration that isn't reached, and another one of fewer nodes in its place, worked out by hand.
use Rattle.std.specs.Prelude.{◌≡◌, false, List, [], ◌∷◌, None, codes}
use Rattle.zw_session.specs.Sessions as session
use Rattle.zw_session.specs.Sessions.{Finished}
use Rattle.zw_tree.specs.Trees.{Forest, none}
use Rattle.zw_tree.specs.Numbering.{inside_first}
use Rattle.zw_tree.specs.declared.ast.Entry.{Entry}
use Rattle.zw_tree.specs.declared.kind.NodeKind.{NodeKind}
use Rattle.zw_tree.specs.declared.kind.NodeKind.TheVariants as kind
use Rattle.zw_env.specs.Children.{members}
use Rattle.zw_sema.specs.Files.{analysed, is_reached}
use Rattle.zw_sema.specs.Exchanged.{Parted, whole, number_in, IsExchanged}
use Rattle.zw_sema.specs.Building.{row, mention, number, export_of, extern_of, return_of, typed_const, plain_const, enough, file, called, run, n, shows, gives, ends}
use Rattle.zw_sema.specs.WorkedExpressions.{b, f, u8}
use Rattle.zw_sema.specs.WorkedHost.{h, call}

-- `extern fn h() u8; export fn f() u8 { return h(); }` from column 21 on
abbrev pub asking : List (Forest Entry)
asking = extern_of 21 h [] 35 u8 ∷ export_of 39 f [] 53 u8 (return_of 58 (call 65 []) ∷ []) ∷ []

-- `const b: u8 = true;` and `const b = 1;`
abbrev pub typed : Forest Entry
typed = typed_const 1 b u8 (mention 15 (codes "true"))

abbrev pub plain : Forest Entry
plain = plain_const 1 b (number 11 1)

-- what a node of this kind in column 1 says
abbrev pub says : NodeKind → Entry
says kind = record { node = record { kind = kind; place = record { file = 0; line = 1; column = 1 }; first = 0; last = 0 }; name = []; number = None }

-- the file with such a constant in front of the functions
abbrev pub with_constant : Forest Entry → Parted
with_constant constant = record { root = says kind.Root; front = none; declaration = says kind.Const; inside = inside_first constant; behind = row asking }

-- `f()` with 44 as the reply
abbrev pub run_asking : Forest Entry → session.Session
run_asking constant = run (constant ∷ asking) (called f [] ∷ []) (44 ∷ [])

pub record WorkedExchanged : Type 0 where
  pub text : whole (with_constant typed) ≡ file (typed ∷ asking)
  pub other_text : whole (with_constant plain) ≡ file (plain ∷ asking)
  pub exchanged : IsExchanged (with_constant typed) (with_constant plain)
  pub not_reached : is_reached (number_in (with_constant typed)) (analysed enough (whole (with_constant typed))) ≡ false
  -- the functions behind the constant have other numbers
  pub numbers : members (file (typed ∷ asking)) ≡ 1 ∷ 5 ∷ 9 ∷ []
  pub other_numbers : members (file (plain ∷ asking)) ≡ 1 ∷ 4 ∷ 8 ∷ []
  -- the call comes to the same function of the host
  pub asks : run_asking typed ≡ ends (shows h [] ∷ gives (n 44) ∷ []) Finished
  pub asks_too : run_asking plain ≡ ends (shows h [] ∷ gives (n 44) ∷ []) Finished
