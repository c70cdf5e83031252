-- Segments: the parts of tables and memories that a module sets before it runs (WebAssembly Core Specification 1.0, 4.5.4).
use Rattle.std.specs.Prelude.{ℕ, suc, ◌+◌, ◌*◌, nat_le, Bool, true, false, List, [], ◌∷◌, ◌++◌, length, map, Option, Some, None}
use Rattle.std.specs.Option.{option_map}
use Rattle.zw_wasm.specs.declared.module.DataSegment.{DataSegment}
use Rattle.zw_wasm.specs.declared.module.Element.{Element}
use Rattle.zw_wasm.specs.declared.module.Module.{Module}
use Rattle.zw_wasm.specs.declared.num.Num.{Num}
use Rattle.zw_wasm.specs.ModuleMachine.{constant_of, first_sizes, first_values}
use Rattle.zw_wasm.specs.Reduction.{page_size}

-- whether a segment lies inside a table, or a memory, of so many places
abbrev pub element_fits : List Num → ℕ → Element → Bool
element_fits globals size e = nat_le (constant_of globals e.at + length e.funcs) size

abbrev pub data_fits : List Num → ℕ → DataSegment → Bool
data_fits globals size d = nat_le (constant_of globals d.at + length d.bytes) size

-- the number of the first that isn't true
abbrev pub first_false : List Bool → Option ℕ
first_false [] = None
first_false (false ∷ bs) = Some 0
first_false (true ∷ bs) = option_map (λ n. suc n) (first_false bs)

-- which segments of the table, and of the memory, lie inside
abbrev pub elements_inside : Module → List Bool
elements_inside m = map (λ (e : Element). element_fits (first_values m) (first_sizes m.tables) e) m.elements

abbrev pub datas_inside : Module → List Bool
datas_inside m = map (λ (d : DataSegment). data_fits (first_values m) (first_sizes m.memories * page_size) d) m.datas

-- The number of the first segment outside, where those of the table are counted before those of the memory.
abbrev pub first_outside : Module → Option ℕ
first_outside m = first_false (elements_inside m ++ datas_inside m)
