-- The place behind bytes with which a text begins.
use Rattle.std.specs.Prelude.{ℕ, List, length}
use Rattle.zw_base.specs.declared.stop.Place.{Place}
use Rattle.zw_token.specs.Tokens.{place_at}

abbrev pub place_behind : ℕ → List ℕ → Place
place_behind file bytes = place_at file bytes (length bytes)
