-- Locals: the runs of a body's locals, by where they end.
use Rattle.std.specs.Prelude.{ℕ, ◌-◌, List, [], ◌∷◌}
use Rattle.zw_wasm.specs.declared.module.ValType.{ValType}
use Rattle.zw_wasm_check.specs.declared.locals.Run.{Run}

abbrev pub end_of : Run → ℕ
end_of r = r.end

-- the runs that end so behind the first n locals, each with how many it has
abbrev pub runs_between : ℕ → List Run → List (ℕ × ValType)
runs_between n [] = []
runs_between n (r ∷ rs) = (r.end - n, r.ty) ∷ runs_between r.end rs
