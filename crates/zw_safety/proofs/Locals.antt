-- Lists of locals in which some are written, as `zw_safety_narrow` has them.
pub use Rattle.zw_safety_narrow.proofs.Locals.{keeps-same}
