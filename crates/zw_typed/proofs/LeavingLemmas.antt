-- The program with a block that is left is well-formed, and those that differ from it in one number aren't.
use Rattle.std.proofs.Common.{◌≡◌, refl, ℕ, List, [], ◌∷◌, None, Some, inl, inr, sym, subst, arith}
use Rattle.std.specs.Prelude.{true, false, Ok}
use Rattle.std.proofs.lemmas.List.Elements.{All-nil, All-cons, All-head}
use Rattle.std.proofs.lemmas.List.Kept.{AllPairs-cons}
use Rattle.zw_layout.specs.Sizes.{integer_layout, integer}
use Rattle.zw_types.specs.TypeTrees as tree
use Rattle.zw_types.specs.TypeTrees.{TypeTree}
use Rattle.zw_values.specs.Coercions.{coercion}
use Rattle.zw_values.specs.Sameness.{is_same}
use Rattle.zw_typed.specs.declared.program.Export.{Export}
use Rattle.zw_typed.specs.WorkedPrograms.{byte, id}
use Rattle.zw_typed.specs.FlowNodes as flow
use Rattle.zw_typed.specs.FlowNodes.{Variable, FlowNode, node, Function}
use Rattle.zw_typed.specs.FlowMachines.{Functions}
use Rattle.zw_typed.specs.FlowTypes.{Context, Opened, Fits, context_in, with_parameters}
use Rattle.zw_typed.specs.FlowNeeds.{IsFunctionPaid}
use Rattle.zw_typed.specs.FlowPrograms.{Read, Leave, Target, Return, NumberedNode, HasForm, IsNumbered, IsInside, IsFunction, IsHostFunction, IsExport, IsWellFormed}
use Rattle.zw_typed.specs.WorkedFlowPrograms.{numbered, leaving, leaving_outside, needing_later, read_body, WorkedFlowPrograms}
use Rattle.zw_typed.proofs.CallingLemmas.{none_pairs, one, types}

byte_form : HasForm leaving (id 0)
byte_form = record { there = omega arith; layout = integer_layout 8; is = integer false 8 false }

-- a byte becomes a byte by the first row
byte_row : coercion byte None byte ≡ Ok 1
unfolding is_same
byte_row = refl

abbrev whole : ℕ → Function
whole t = record { params = byte ∷ []; result = byte; vars = []; body = read_body t }

abbrev within : Context
within = context_in (whole 0 ∷ []) (whole 0)

abbrev opened : List Opened
opened = record { target = 0; ty = byte } ∷ []

abbrev gets : FlowNode
gets = node true byte (flow.Read (Variable 0))

abbrev leaves : FlowNode
leaves = node true tree.NoReturnType (flow.Leave 0 gets)

abbrev block : FlowNode
block = node true byte (flow.Target 0 leaves)

abbrev live : List ℕ
live = 0 ∷ []

gets_fits : (around : List Opened) → Fits within around live gets
gets_fits around = (omega arith, record { declared = refl; there = refl })

leaves_fits : Fits within opened live leaves
leaves_fits = (tt, (refl, (byte, refl, inr (1, byte_row)), gets_fits opened))

block_fits : Fits within [] live block
block_fits = (omega arith, (refl, inl refl, leaves_fits))

body_fits : Fits within [] live (read_body 0)
body_fits = (tt, (refl, inr (1, byte_row), block_fits))

-- the body needs 4 + 4 + 4 + 4 of work, and begins with four visits
body_paid : IsFunctionPaid (whole 0)
body_paid = record { turns = tt; body = omega arith }

abbrev Numbered : NumberedNode → Type 0
Numbered n = IsNumbered leaving n

abbrev Inside : FlowNode → Type 0
Inside m = IsInside within m

abbrev reading : NumberedNode
reading = numbered (Read 0) 0 []

abbrev going : NumberedNode
going = numbered (Leave 0) 1 (0 ∷ [])

abbrev taking : NumberedNode
taking = numbered (Target 0) 0 (1 ∷ [])

abbrev giving : NumberedNode
giving = numbered Return 1 (2 ∷ [])

leaving-well_formed : IsWellFormed leaving
leaving-well_formed = record {
  types = types;
  errors = omega arith;
  read = record { functions = whole 0 ∷ []; exports = _ };
  is = refl;
  functions = one (IsFunction leaving (whole 0 ∷ [])) _ (record {
    params = one (HasForm leaving) (id 0) byte_form;
    vars = All-nil (HasForm leaving);
    result = inl byte_form;
    few = omega arith;
    nodes = All-cons Numbered reading (going ∷ taking ∷ giving ∷ []) (record { types = tt; form_listed = tt; kids_listed = omega arith })
        (All-cons Numbered going (taking ∷ giving ∷ []) (record { types = tt; form_listed = tt; kids_listed = omega arith })
        (All-cons Numbered taking (giving ∷ []) (record { types = tt; form_listed = tt; kids_listed = omega arith }) (one Numbered giving (record { types = tt; form_listed = tt; kids_listed = omega arith }))));
    nodes_listed = omega arith;
    trees = gets ∷ leaves ∷ block ∷ read_body 0 ∷ [];
    trees_are = refl;
    read = whole 0;
    is = refl;
    each = All-cons Inside gets (leaves ∷ block ∷ read_body 0 ∷ []) (record { around = []; live = live; fits = gets_fits [] })
        (All-cons Inside leaves (block ∷ read_body 0 ∷ []) (record { around = opened; live = live; fits = leaves_fits })
        (All-cons Inside block (read_body 0 ∷ []) (record { around = []; live = live; fits = block_fits }) (one Inside (read_body 0) (record { around = []; live = live; fits = body_fits }))));
    fits = record { body = body_fits; ends = inr refl };
    paid = body_paid;
  });
  imports = All-nil (IsHostFunction leaving);
  exports = one (IsExport (whole 0 ∷ [])) _ (record { func = (refl, refl); name = refl; name_listed = omega arith });
  names = AllPairs-cons (λ (a b : Export). a.name ≡ b.name → ⊥) _ [] (All-nil _) (none_pairs (λ (a b : Export). a.name ≡ b.name → ⊥));
  types_listed = omega arith;
  functions_listed = omega arith;
  imports_listed = omega arith;
  exports_listed = omega arith;
}

same_function : (f g : Function) → Some f ≡ Some g → f ≡ g
same_function f g e = cc

none_open : (to : TypeTree) → None ≡ Some to → ⊥
none_open to e = cc

never_fits : (functions : List Function) → Fits (context_in functions (whole 1)) [] live (read_body 1) → ⊥
never_fits functions h = none_open h.1.2.1.2.1.1.0 h.1.2.1.2.1.1.1

not_outside : IsWellFormed leaving_outside → ⊥
not_outside w =
    let f = All-head (IsFunction leaving_outside w.read.functions) _ [] w.functions in
    never_fits w.read.functions
    (subst (λ (g : Function). Fits (context_in w.read.functions g) [] (with_parameters [] 0 g.params) g.body) (sym (same_function (whole 1) f.read f.is)) f.fits.body)

none_read : (read : Functions) → None ≡ Some read → ⊥
none_read read e = cc

not_later : IsWellFormed needing_later → ⊥
not_later w = none_read w.read w.is

pub flow_programs : WorkedFlowPrograms
flow_programs = record { read = refl; unread = refl; well_formed = leaving-well_formed; outside = not_outside; later = not_later }
