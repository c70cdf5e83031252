-- What the objects over memory hold, and which answer each call of them gives.
use Rattle.std.specs.Prelude.{◌≡◌, ◌⊎◌, ℕ, ◌+◌, ◌-◌, ◌^◌, ◌<◌, ◌≤◌, min, Bool, true, false, nat_eq, List, length, drop, reverse, find, Option, Some, None, Result, Ok, Err, Vec, vec_len, vec_capacity}
use Rattle.std.specs.List.{list_any}
use Rattle.std.specs.Str.{bytes_eq}
use Rattle.std.specs.Option.{option_map}
use Rattle.std.specs.declared.alloc.Global.{Global}
use Rattle.zw_base.specs.declared.files.Handed.{Handed}
use Rattle.zw_outside.specs.declared.failures.Failures.{Failures}
use Rattle.zw_outside.specs.declared.sink.MemSink.{MemSink}
use Rattle.zw_outside.specs.declared.sink.SureSink.{SureSink}
use Rattle.zw_outside.specs.declared.source.MemSource.{MemSource}
use Rattle.zw_outside.specs.declared.source.SureSource.{SureSource}
use Rattle.zw_outside.specs.declared.tree.HeldFile.{HeldFile}
use Rattle.zw_outside.specs.declared.tree.MemTree.{MemTree}
use Rattle.zw_outside.specs.declared.tree.SureTree.{SureTree}
use Rattle.zw_base.specs.declared.outside.Failed.{Failed}
use Rattle.zw_base.specs.declared.outside.LoadErr.{LoadErr}
use Rattle.zw_base.specs.declared.outside.LoadErr.TheVariants as load
use Rattle.zw_base.specs.declared.outside.PutErr.{PutErr}
use Rattle.zw_base.specs.declared.outside.PutErr.TheVariants as put

-- whether the next call is one of those that are to fail
abbrev pub is_due : Failures → Bool
is_due f = list_any (λ n. nat_eq n f.next) f.numbers

-- one call later; both counts stay at the last value of their type
abbrev pub after_call : Failures → Failures
after_call f = record f { next = min (f.next + 1) (2 ^ 64 - 1) }

abbrev pub after_fault : Failures → Failures
after_fault f = record f { faults = min (f.faults + 1) (2 ^ 64 - 1) }

abbrev pub tree_failures : MemTree → Failures
tree_failures tree = tree.failures

-- the bytes of the file that was set last at this path
abbrev pub held_in : SureTree → List ℕ → Option (List ℕ)
held_in tree path = option_map (λ (file : HeldFile). file.bytes) (find (λ (file : HeldFile). bytes_eq file.path path) (reverse tree.files))

abbrev pub handed_by : SureTree → List Handed
handed_by tree = tree.handed

-- the same of a tree that fails at some calls
abbrev pub held : MemTree → List ℕ → Option (List ℕ)
held tree path = held_in tree.tree path

abbrev pub handed_of : MemTree → List Handed
handed_of tree = tree.tree.handed

-- Which answer a load gives by what is held, where no call fails. Want of memory may come at any call.
abbrev pub LoadsHeld : SureTree → List ℕ → ℕ → Result (Vec ℕ Global) LoadErr → Type 0
LoadsHeld tree path limit (Ok bytes) = (held_in tree path ≡ Some bytes.items) × (length bytes.items ≤ limit)
LoadsHeld tree path limit (Err load.Absent) = held_in tree path ≡ None
LoadsHeld tree path limit (Err load.TooLong) = (bytes : List ℕ) × (held_in tree path ≡ Some bytes) × (limit < length bytes)
LoadsHeld tree path limit (Err load.Failed) = ⊥
LoadsHeld tree path limit (Err load.Oom) = Unit {0}

-- Which answer a load gives: it fails exactly at a call that is to fail, and else answers by what is held. Want of
-- memory may come at any other call.
abbrev pub LoadsFromMemory : MemTree → List ℕ → ℕ → Result (Vec ℕ Global) LoadErr → Type 0
LoadsFromMemory tree path limit (Ok bytes) = (is_due tree.failures ≡ false) × (held tree path ≡ Some bytes.items) × (length bytes.items ≤ limit)
LoadsFromMemory tree path limit (Err load.Absent) = (is_due tree.failures ≡ false) × (held tree path ≡ None)
LoadsFromMemory tree path limit (Err load.TooLong) = (is_due tree.failures ≡ false) × ((bytes : List ℕ) × (held tree path ≡ Some bytes) × (limit < length bytes))
LoadsFromMemory tree path limit (Err load.Failed) = is_due tree.failures ≡ true
LoadsFromMemory tree path limit (Err load.Oom) = is_due tree.failures ≡ false

abbrev pub source_failures : MemSource → Failures
source_failures source = source.failures

-- the bytes still to come
abbrev pub left_in : SureSource → List ℕ
left_in source = drop source.at source.bytes.items

abbrev pub left_of : MemSource → List ℕ
left_of source = left_in source.source

-- Which answer a read into a buffer of this size gives, where no call fails.
abbrev pub ReadsLeft : SureSource → ℕ → Result ℕ Failed → Type 0
ReadsLeft source size (Ok n) = n ≡ min size (length (left_in source))
ReadsLeft source size (Err e) = ⊥

-- Which answer a read into a buffer of this size gives: it fails exactly at a call that is to fail.
abbrev pub ReadsInMemory : MemSource → ℕ → Result ℕ Failed → Type 0
ReadsInMemory source size (Ok n) = (is_due source.failures ≡ false) × (n ≡ min size (length (left_of source)))
ReadsInMemory source size (Err e) = is_due source.failures ≡ true

abbrev pub sink_failures : MemSink → Failures
sink_failures sink = sink.failures

-- the bytes that it has taken
abbrev pub taken_by : SureSink → List ℕ
taken_by sink = sink.bytes.items

abbrev pub taken_of : MemSink → List ℕ
taken_of sink = taken_by sink.sink

abbrev pub cap_of : MemSink → ℕ
cap_of sink = sink.cap

-- how many bytes it may still take
abbrev pub room : MemSink → ℕ
room sink = sink.cap - length (taken_of sink)

-- how many bytes it can take without memory
abbrev pub spare_in : SureSink → ℕ
spare_in sink = vec_capacity sink.bytes - vec_len sink.bytes

abbrev pub spare : MemSink → ℕ
spare sink = spare_in sink.sink

-- Which answer a put gives, where no call fails and there is no cap. Want of memory may come at any call.
abbrev pub PutsWhole : List ℕ → Result ℕ PutErr → Type 0
PutsWhole piece (Ok n) = n ≡ length piece
PutsWhole piece (Err put.Failed) = ⊥
PutsWhole piece (Err put.Oom) = Unit {0}

-- Which answer a put gives: it fails exactly at a call that is to fail, and where a piece that isn't empty finds
-- no room. Want of memory may come at any other call.
abbrev pub PutsInMemory : MemSink → List ℕ → Result ℕ PutErr → Type 0
PutsInMemory sink piece (Ok n) = (is_due sink.failures ≡ false) × (n ≡ min (length piece) (room sink)) × (0 < length piece → 0 < room sink)
PutsInMemory sink piece (Err put.Failed) = (is_due sink.failures ≡ true) ⊎ ((room sink ≡ 0) × (0 < length piece))
PutsInMemory sink piece (Err put.Oom) = is_due sink.failures ≡ false
