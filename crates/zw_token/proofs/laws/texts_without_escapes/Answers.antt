use Rattle.zw_token.proofs.PlainTexts.{plain_text}
use Rattle.zw_token.proofs.laws.texts_without_escapes.Goals as goal

pub returns : goal.returns
returns c = plain_text
