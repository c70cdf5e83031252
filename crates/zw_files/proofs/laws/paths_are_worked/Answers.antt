use Rattle.std.proofs.Common.{refl}
use Rattle.std.specs.Str.{is_utf8, chars}
use lib.Utf8.{encode}
use Rattle.zw_files.proofs.laws.paths_are_worked.Goals as goal

pub returns-clause-literals : goal.returns-clause-literals
unfolding is_utf8 chars encode
returns-clause-literals c = record { plain = refl; dot_zig = refl; no_ending = refl; std = refl; folder = refl; zero_byte = refl; no_text = refl; half_a_character = refl; two_bytes = refl }
