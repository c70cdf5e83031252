-- Reaching: what a call reaches by instructions fits its module's depth, and so has few labels.
use Rattle.std.proofs.Common.{◌≡◌, ℕ, ◌*◌, ◌≤◌, List, refl, subst}
use Rattle.zw_wasm.specs.declared.module.Module.{Module}
use Rattle.zw_wasm.specs.declared.num.Num.{Num}
use Rattle.zw_wasm.specs.ModuleMachine.{idle}
use Rattle.zw_wasm.specs.Reduction.{Config, Goes, World, enter}
use Rattle.zw_wasm_reach.specs.Counts.{LabelsStayFew, active_frames, deepest, labels_of}
use Rattle.zw_wasm_reach.specs.Reaches.{Moves, Reaches, working}
use Rattle.zw_wasm_reach.specs.Reaches.Reaches.{here, further}
use Rattle.zw_wasm_reach.proofs.Acting.{ActionFits, done-fits, enter-fits}
use Rattle.zw_wasm_reach.proofs.Fitting.{FetchedFits, Fits, fits-few, next-fits}

module _ (m : Module) where
  pub moves-fit : (c d : Config) → Fits (deepest m) c → Moves m c d → Fits (deepest m) d
  moves-fit c d h s =
      let next = subst (FetchedFits (deepest m)) s.found (next-fits (deepest m) c h) in
      subst (ActionFits m) s.goes (done-fits m s.work (working s.frame s.below c) next.0 next.1)

  pub reaches-fit : (c : Config) (n : ℕ) (d : Config) → Fits (deepest m) c → Reaches m c n d → Fits (deepest m) d
  reaches-fit c n d h here = h
  reaches-fit c n d h (further k e f r s) = moves-fit e f (reaches-fit c k e h r) s

  -- how a call begins
  pub first-fits : (func : ℕ) (args : List Num) (w : World) (first : Config) → enter m func args (idle w) ≡ Goes first → Fits (deepest m) first
  first-fits func args w first e = subst (ActionFits m) e (enter-fits m func args (idle w) (refl, refl))

pub labels_few : (m : Module) (func : ℕ) (args : List Num) (w : World) (first d : Config) (n : ℕ) → enter m func args (idle w) ≡ Goes first → Reaches m first n d → labels_of d ≤ active_frames d * deepest m
labels_few m func args w first d n e r = fits-few (deepest m) d (reaches-fit m first n d (first-fits m func args w first e) r)

pub labels_stay_few : LabelsStayFew
labels_stay_few = record { by = labels_few }
