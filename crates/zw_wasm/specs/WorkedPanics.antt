-- Panics by the numbers of their state, worked out by hand: cause, pointer and length.
use Rattle.std.specs.Prelude.{◌≡◌, [], ◌∷◌, Some, None}
use Rattle.zw_session.specs.Sessions.{Panicked, Trapped}
use Rattle.zw_wasm.specs.ModuleMachine.{panic_of}

pub record WorkedPanics : Type 0 where
  pub overflow : panic_of [] (Some 1) (Some 0) (Some 0) ≡ Panicked 1 []
  -- pointer and length belong to a message alone
  pub pointer_left : panic_of [] (Some 1) (Some 7) (Some 0) ≡ Trapped 1
  pub length_left : panic_of [] (Some 1) (Some 0) (Some 9) ≡ Trapped 1
  pub message : panic_of (110 ∷ 111 ∷ []) (Some 18) (Some 0) (Some 2) ≡ Panicked 18 (110 ∷ 111 ∷ [])
  pub message_outside : panic_of (110 ∷ 111 ∷ []) (Some 18) (Some 1) (Some 2) ≡ Trapped 1
  pub last_cause : panic_of [] (Some 19) (Some 0) (Some 0) ≡ Panicked 19 []
  pub no_cause : panic_of [] (Some 0) (Some 0) (Some 0) ≡ Trapped 1
  pub past_causes : panic_of [] (Some 20) (Some 0) (Some 0) ≡ Trapped 1
  pub no_pointer : panic_of [] (Some 1) None (Some 0) ≡ Trapped 1
