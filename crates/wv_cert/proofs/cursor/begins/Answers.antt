use Rattle.wv_cert.proofs.Words.{begins}
use Rattle.wv_cert.proofs.cursor.begins.Goals as goal

pub returns-clause-here : goal.returns-clause-here
returns-clause-here c = begins c.args.text.now c.args.word.now c.eq.result c.eq.ensures
