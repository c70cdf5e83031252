-- Accesses: what loads and stores read and write, by their kinds (WebAssembly Core Specification 1.0, 2.4.4 and 4.3.1). In the
-- memory the lowest byte of a number comes first.
use Rattle.std.specs.Prelude.{ℕ, List}
use Rattle.std.specs.Int.{Width, w8, w16, w32, w64, w128, from_le_bytes, to_le_bytes}
use Rattle.zw_wasm.specs.declared.module.LoadKind.{LoadKind}
use Rattle.zw_wasm.specs.declared.module.LoadKind.TheVariants as load
use Rattle.zw_wasm.specs.declared.module.StoreKind.{StoreKind}
use Rattle.zw_wasm.specs.declared.module.StoreKind.TheVariants as store
use Rattle.zw_wasm.specs.declared.module.ValType.{ValType}
use Rattle.zw_wasm.specs.declared.module.ValType.TheVariants.{I32, I64}
use Rattle.zw_wasm.specs.Numerics.{extend_s}

-- the type of the value that a load gives
abbrev pub load_type : LoadKind → ValType
load_type load.I32 = I32
load_type load.I64 = I64
load_type load.I32S8 = I32
load_type load.I32U8 = I32
load_type load.I32S16 = I32
load_type load.I32U16 = I32
load_type load.I64S8 = I64
load_type load.I64U8 = I64
load_type load.I64S16 = I64
load_type load.I64U16 = I64
load_type load.I64S32 = I64
load_type load.I64U32 = I64

-- how wide the number is that it reads
abbrev pub load_width : LoadKind → Width
load_width load.I32 = w32
load_width load.I64 = w64
load_width load.I32S8 = w8
load_width load.I32U8 = w8
load_width load.I32S16 = w16
load_width load.I32U16 = w16
load_width load.I64S8 = w8
load_width load.I64U8 = w8
load_width load.I64S16 = w16
load_width load.I64U16 = w16
load_width load.I64S32 = w32
load_width load.I64U32 = w32

-- a number that was read, in the bits of the value: one that is narrower is extended with its sign or without
abbrev pub load_extended : LoadKind → ℕ → ℕ
load_extended load.I32 n = n
load_extended load.I64 n = n
load_extended load.I32S8 n = extend_s w8 w32 n
load_extended load.I32U8 n = n
load_extended load.I32S16 n = extend_s w16 w32 n
load_extended load.I32U16 n = n
load_extended load.I64S8 n = extend_s w8 w64 n
load_extended load.I64U8 n = n
load_extended load.I64S16 n = extend_s w16 w64 n
load_extended load.I64U16 n = n
load_extended load.I64S32 n = extend_s w32 w64 n
load_extended load.I64U32 n = n

-- the bits of the value that a load gives of these bytes
abbrev pub bits_loaded : LoadKind → List ℕ → ℕ
bits_loaded kind bytes = load_extended kind (from_le_bytes (load_width kind) bytes)

-- the type of the value that a store takes
abbrev pub store_type : StoreKind → ValType
store_type store.I32 = I32
store_type store.I64 = I64
store_type store.I32Low8 = I32
store_type store.I32Low16 = I32
store_type store.I64Low8 = I64
store_type store.I64Low16 = I64
store_type store.I64Low32 = I64

-- how wide the number is that it writes
abbrev pub store_width : StoreKind → Width
store_width store.I32 = w32
store_width store.I64 = w64
store_width store.I32Low8 = w8
store_width store.I32Low16 = w16
store_width store.I64Low8 = w8
store_width store.I64Low16 = w16
store_width store.I64Low32 = w32

-- the bytes that a store writes of these bits: the lowest ones
abbrev pub bytes_stored : StoreKind → ℕ → List ℕ
bytes_stored kind n = to_le_bytes (store_width kind) n

-- the exponent to the base 2 of the natural alignment, which is the width in bytes (3.3.4)
abbrev pub natural_alignment : Width → ℕ
natural_alignment w8 = 0
natural_alignment w16 = 1
natural_alignment w32 = 2
natural_alignment w64 = 3
natural_alignment w128 = 4
