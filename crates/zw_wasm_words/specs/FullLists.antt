-- FullLists: lists without room.
use Rattle.std.specs.Prelude.{◌≤◌, vec_capacity, Vec, length}
use Rattle.std.specs.declared.alloc.Global.{Global}

-- a list has no room for one more
abbrev pub IsFullList : {A : Type 0} → Vec A Global → Type 0
IsFullList v = vec_capacity v ≤ length v.items
