-- What a source has left, from one read to the next.
use Rattle.std.proofs.Common.{◌∙◌, ℕ, ◌+◌, ◌≤◌, List, ◌++◌, length, Option, Some, None, ap, sym, append_assoc, length-append, arith}
use Rattle.std.specs.Prelude.{Result, Ok, Err, OnErr}
use Rattle.std.specs.Io.KnownBytes.{Consumes}
use Rattle.zw_calls.specs.Input.{IsFront}

-- two fronts one after the other are one front
pub consumes-append : (old mid new : Option (List ℕ)) (a b : List ℕ) → Consumes old mid a → Consumes mid new b → Consumes old new (a ++ b)
consumes-append None mid new a b h k = tt
consumes-append (Some xs) None new a b h k = absurd h
consumes-append (Some xs) (Some ys) None a b h k = absurd k
consumes-append (Some xs) (Some ys) (Some zs) a b h k = h ∙ ap (λ v. a ++ v) k ∙ sym (append_assoc a b zs)

-- a front behind another one
pub front : (old mid new : Option (List ℕ)) (bytes : List ℕ) (room most : ℕ) → Consumes old mid bytes → IsFront mid new room → length bytes + room ≤ most → IsFront old new most
front old mid new bytes room most h f fits = record {
  bytes = bytes ++ f.bytes;
  read = consumes-append old mid new bytes f.bytes h f.read;
  within = omega (arith, length-append bytes f.bytes, f.within);
}

pub on_err : {T E : Type 0} (P : Type 0) (r : Result T E) → P → OnErr r P
on_err P (Ok x) p = tt
on_err P (Err e) p = p
