-- Bodies: where a body breaks a rule, in the words of the definition.
use Rattle.zw_wasm.specs.Typing as typing
use Rattle.zw_wasm_check.specs.declared.body.Place.{Place}
use Rattle.zw_wasm_check.specs.Stacks.{number_of}

abbrev pub place_of : Place → typing.Place
place_of p = record { at = p.at; code = number_of p.fault }
