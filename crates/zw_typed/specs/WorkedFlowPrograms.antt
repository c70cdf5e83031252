-- A program by numbers with a block that is left, worked out by hand, and two that differ from it in one number.
use Rattle.std.specs.Prelude.{◌≡◌, ℕ, true, List, [], ◌∷◌, None, Some, codes}
use Rattle.zw_types.specs.TypeTrees as tree
use Rattle.zw_typed.specs.WorkedPrograms.{byte, id}
use Rattle.zw_typed.specs.FlowNodes as flow
use Rattle.zw_typed.specs.FlowNodes.{Variable, FlowNode, node}
use Rattle.zw_typed.specs.FlowPrograms.{NodeForm, Read, Target, Leave, Return, NumberedNode, NumberedFunction, FlowProgram, program_read, IsWellFormed}

-- a node of the source by what it does, the number of its type, and its kids
abbrev pub numbered : NodeForm → ℕ → List ℕ → NumberedNode
numbered form ty kids = record { counts = true; ty = id ty; form = form; kids = kids }

-- the function of a `u8` that gives one, with these nodes, the last one its body
abbrev pub of_byte : NumberedNode → NumberedNode → NumberedNode → NumberedNode → NumberedFunction
of_byte a b c d = record { params = id 0 ∷ []; result = id 0; vars = []; nodes = a ∷ b ∷ c ∷ d ∷ []; body = 3 }

-- an exported `f`, with types 0 `u8` and 1 `noreturn`
abbrev pub exporting : NumberedFunction → FlowProgram
exporting f = record {
  types = record { trees = byte ∷ tree.NoReturnType ∷ []; shapes = None ∷ None ∷ []; errors = [] };
  functions = f ∷ [];
  imports = [];
  exports = record { name = codes "f"; func = 0 } ∷ [];
}

-- `export fn f(a: u8) u8 { return b: { break :b a; }; }`, where each block with one statement is that statement
abbrev pub leaving : FlowProgram
leaving = exporting (of_byte (numbered (Read 0) 0 []) (numbered (Leave 0) 1 (0 ∷ [])) (numbered (Target 0) 0 (1 ∷ [])) (numbered Return 1 (2 ∷ [])))

-- it leaves to a target that isn't open
abbrev pub leaving_outside : FlowProgram
leaving_outside = exporting (of_byte (numbered (Read 0) 0 []) (numbered (Leave 1) 1 (0 ∷ [])) (numbered (Target 0) 0 (1 ∷ [])) (numbered Return 1 (2 ∷ [])))

-- a node needs one that stands behind it
abbrev pub needing_later : FlowProgram
needing_later = exporting (of_byte (numbered (Read 0) 0 []) (numbered (Leave 0) 1 (2 ∷ [])) (numbered (Target 0) 0 (1 ∷ [])) (numbered Return 1 (2 ∷ [])))

abbrev pub read_body : ℕ → FlowNode
read_body t = node true tree.NoReturnType (flow.Return (node true byte (flow.Target 0 (node true tree.NoReturnType (flow.Leave t (node true byte (flow.Read (Variable 0))))))))

pub record WorkedFlowPrograms : Type 0 where
  -- each node is read as the tree of what it needs
  pub read : program_read leaving ≡ Some (record {
    functions = record { params = byte ∷ []; result = byte; vars = []; body = read_body 0 } ∷ [];
    exports = record { name = codes "f"; func = 0 } ∷ [];
  })
  -- one can't be read where a node needs a later one
  pub unread : program_read needing_later ≡ None
  -- types stand once in the table, the leaving stands inside its target, and a `u8` arrives
  pub well_formed : IsWellFormed leaving
  -- no target 1 is open where it is named
  pub outside : IsWellFormed leaving_outside → ⊥
  pub later : IsWellFormed needing_later → ⊥
