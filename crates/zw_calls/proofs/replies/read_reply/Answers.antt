use Rattle.zw_calls.proofs.ReplyLemmas.{reply-number}
use Rattle.zw_calls.proofs.replies.read_reply.Goals as goal

pub returns-in-None : goal.returns-in-None
returns-in-None c = λ e. c.in-None.ensures (reply-number c.args.line.now e)
