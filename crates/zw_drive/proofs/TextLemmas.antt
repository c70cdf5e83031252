-- Writing the module of a text ends as the sink answers.
use Rattle.std.proofs.Common.{◌≡◌, ◌⊎◌, ℕ, List, [], take, Option, Err, refl, sym, subst, inl, inr}
use Rattle.std.specs.Io.KnownBytes.{Appends}
use Rattle.zw_base.specs.Outside.{AppendsFront}
use Rattle.zw_wasm.specs.Spelling.{spelling}
use Rattle.zw_wasm.specs.Writing.{IsSpelled}
use Rattle.zw_wasm.specs.declared.module.Module.{Module}
use Rattle.zw_drive.specs.Ends.{IsCompiled, WritesText}
use Rattle.zw_drive.specs.Meaning.{Builds}
use Rattle.zw_drive.specs.declared.build.BuildErr.TheVariants as build
use Rattle.zw_drive.proofs.BuildLemmas.{Appends-none}

-- the text is built to the module's shortest spelling
builds : (text : List ℕ) (m : Module) → IsCompiled text m → IsSpelled m → Builds text (spelling m)
builds text m right spelled = record { built = m; means = right.0; spelled = spelled right.1 }

-- the sink failed
pub text_cut : (root text : List ℕ) (m : Module) (old new : Option (List ℕ)) → IsCompiled text m → IsSpelled m → AppendsFront old new (spelling m) → WritesText root text old new (Err build.OutFault)
text_cut root text m old new right spelled took =
    (take took.0 (spelling m), took.1, (spelling m, builds text m right spelled, (took.0, refl)))

-- memory ran out
pub text_unwritten : (root text : List ℕ) (m : Module) (old new : Option (List ℕ)) → IsCompiled text m → IsSpelled m ⊎ (new ≡ old) → AppendsFront old new (spelling m) → WritesText root text old new (Err build.Oom)
text_unwritten root text m old new right (inl spelled) took =
    (take took.0 (spelling m), took.1, inr (spelling m, builds text m right spelled, (took.0, refl)))
text_unwritten root text m old new right (inr same) took =
    ([], subst (λ (t : Option (List ℕ)). Appends old t []) (sym same) (Appends-none old), inl refl)
