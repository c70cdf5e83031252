-- A program written down by hand, and the functions that it is read as.
use Rattle.std.specs.Prelude.{◌≡◌, ℕ, false, List, [], ◌∷◌, None, codes}
use Rattle.zw_num.specs.declared.operator.Arithmetic.TheVariants as sum
use Rattle.zw_num.specs.declared.operator.Operator.TheVariants as family
use Rattle.zw_types.specs.TypeTrees as tree
use Rattle.zw_types.specs.TypeTrees.{TypeTree}
use Rattle.zw_types.specs.declared.value.TypeId.{TypeId}
use Rattle.zw_typed.specs.declared.program.NodeOp.{NodeOp}
use Rattle.zw_typed.specs.declared.program.NodeOp.TheVariants as op
use Rattle.zw_typed.specs.declared.program.Node.{Node}
use Rattle.zw_typed.specs.declared.program.Program.{Program}
use Rattle.zw_typed.specs.Nodes.{Argument, Operate, CallHost, InOrder, Return, node, no_nodes, node_and}
use Rattle.zw_typed.specs.Weights.{weight_of}
use Rattle.zw_typed.specs.Programs.{exports_of, imports_read, imports_of, IsWellFormed}

abbrev pub byte : TypeTree
byte = tree.IntType false 8 false

abbrev pub id : ℕ → TypeId
id n = record { 0 = n }

-- a node by what it does, the number of its type, and its kids
abbrev pub does : NodeOp → ℕ → List ℕ → Node
does what ty kids = record { op = what; ty = id ty; kids = kids }

-- `extern fn h(x: u8) u8; export fn f(a: u8) u8 { return h(a) + a; }`: types 0 `u8`, 1 `noreturn`
abbrev pub calling : Program
calling = record {
  types = record { trees = byte ∷ tree.NoReturnType ∷ []; shapes = None ∷ None ∷ []; errors = [] };
  funcs = record {
    place = record { file = 0; line = 1; column = 24 };
    params = id 0 ∷ [];
    result = id 0;
    vars = [];
    nodes = does (op.Argument 0) 0 [] ∷ does (op.CallHost 0) 0 (0 ∷ []) ∷ does (op.Argument 0) 0 [] ∷
        does (op.Operate (family.Arithmetic sum.Add)) 0 (1 ∷ 2 ∷ []) ∷ does op.Return 1 (3 ∷ []) ∷ does op.InOrder 1 (4 ∷ []) ∷ [];
    body = 5;
  } ∷ [];
  imports = record { name = codes "h"; params = id 0 ∷ []; result = id 0 } ∷ [];
  exports = record { name = codes "f"; func = 0 } ∷ [];
}

pub record WorkedPrograms : Type 0 where
  -- each node is read as the tree of what it needs
  pub read : exports_of calling ≡ record {
    name = codes "f";
    params = byte ∷ [];
    result = byte;
    body = node InOrder tree.NoReturnType (node_and (node Return tree.NoReturnType (node_and (node (Operate (family.Arithmetic sum.Add)) byte
        (node_and (node (CallHost (record { name = codes "h"; params = byte ∷ []; result = byte })) byte (node_and (node (Argument 0) byte no_nodes) no_nodes))
        (node_and (node (Argument 0) byte no_nodes) no_nodes))) no_nodes)) no_nodes);
  } ∷ []
  -- a parameter takes whole words of its frame: 8 bytes for one of 1, 4 or 8 bytes, none for one of no bits
  pub words : weight_of (byte ∷ tree.IntType false 64 false ∷ tree.BoolType ∷ []) ≡ 24
  pub no_bits : weight_of (tree.IntType false 0 false ∷ []) ≡ 0
  -- the function of the host is the one that is called
  pub imports : imports_read calling ≡ imports_of (exports_of calling)
  -- numbers name what is there, nodes have kids that fit them, and types stand once in the table
  pub well_formed : IsWellFormed calling
