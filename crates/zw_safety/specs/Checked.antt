-- What the code of an operator does, as `zw_safety_narrow` defines it.
pub use Rattle.zw_safety_narrow.specs.Checked.{u32, HasScratch, ScratchIsTyped, HasPanicState, IsNumberGlobal, PanicStateIsTyped, KeepsOthers, panic_globals, panicked, most_instructions}
