-- WorkedSegments: which segment is the first outside, worked out by hand on a table of four places and a memory of one page.
use Rattle.std.specs.Prelude.{◌≡◌, ℕ, pos, negsuc, false, List, [], ◌∷◌, None, Some}
use Rattle.zw_wasm.specs.declared.module.DataSegment.{DataSegment}
use Rattle.zw_wasm.specs.declared.module.Element.{Element}
use Rattle.zw_wasm.specs.declared.module.Instr.{Instr}
use Rattle.zw_wasm.specs.declared.module.Instr.TheVariants.{End, GlobalGet, I32Const}
use Rattle.zw_wasm.specs.declared.module.Module.{Module}
use Rattle.zw_wasm.specs.declared.module.ValType.TheVariants.{I32}
use Rattle.zw_wasm_words.specs.Segments.{first_outside}

abbrev pub functions_at : List Instr → List ℕ → Element
functions_at place funcs = record { table = 0; at = place; funcs = funcs }

abbrev pub bytes_at : List Instr → List ℕ → DataSegment
bytes_at place bytes = record { memory = 0; at = place; bytes = bytes }

abbrev pub at_place : ℕ → List Instr
at_place n = I32Const (pos n) ∷ End ∷ []

-- a module of these segments, whose one global is 65,535
abbrev pub with_parts : List Element → List DataSegment → Module
with_parts elements datas = record {
  types = [];
  imports = [];
  funcs = [];
  tables = record { least = 4; greatest = None } ∷ [];
  memories = record { least = 1; greatest = Some 1 } ∷ [];
  globals = record { ty = I32; mutable = false; init = at_place 65535 } ∷ [];
  exports = [];
  start = None;
  elements = elements;
  codes = [];
  datas = datas;
}

pub record WorkedSegments : Type 0 where
  pub none : first_outside (with_parts [] []) ≡ None
  -- up to the end, and one place past it
  pub last_places : first_outside (with_parts (functions_at (at_place 2) (0 ∷ 0 ∷ []) ∷ []) (bytes_at (at_place 65534) (1 ∷ 2 ∷ []) ∷ [])) ≡ None
  pub past_the_table : first_outside (with_parts (functions_at (at_place 3) (0 ∷ 0 ∷ []) ∷ []) []) ≡ Some 0
  pub past_the_memory : first_outside (with_parts [] (bytes_at (at_place 65535) (1 ∷ 2 ∷ []) ∷ [])) ≡ Some 0
  -- a place in a global
  pub by_a_global : first_outside (with_parts [] (bytes_at (GlobalGet 0 ∷ End ∷ []) (1 ∷ []) ∷ [])) ≡ None
  pub past_by_a_global : first_outside (with_parts [] (bytes_at (GlobalGet 0 ∷ End ∷ []) (1 ∷ 2 ∷ []) ∷ [])) ≡ Some 0
  -- a place is read without a sign
  pub below_nothing : first_outside (with_parts [] (bytes_at (I32Const (negsuc 0) ∷ End ∷ []) (1 ∷ []) ∷ [])) ≡ Some 0
  -- nothing, at the end and past it
  pub nothing_at_the_end : first_outside (with_parts [] (bytes_at (at_place 65536) [] ∷ [])) ≡ None
  pub nothing_past_the_end : first_outside (with_parts [] (bytes_at (at_place 65537) [] ∷ [])) ≡ Some 0
  -- segments of the table are counted first, and the first outside is told
  pub table_first : first_outside (with_parts (functions_at (at_place 0) [] ∷ functions_at (at_place 5) [] ∷ []) (bytes_at (at_place 65537) [] ∷ [])) ≡ Some 1
  pub memory_behind : first_outside (with_parts (functions_at (at_place 0) [] ∷ []) (bytes_at (at_place 0) [] ∷ bytes_at (at_place 65537) [] ∷ bytes_at (at_place 65537) [] ∷ [])) ≡ Some 2
