use Rattle.std.proofs.Common.{rules}
use Rattle.clap.specs.Words.{found_of}
use Rattle.wv_arguments.proofs.Numbers.{within, beyond}
use Rattle.wv_arguments.proofs.reading.number.Goals as goal

pub returns-in-Some : goal.returns-in-Some
returns-in-Some c = within c.args.least c.args.most (found_of c.args.matches.now) c.args.id.now c.in-Some.number (search rules) (search rules) (search rules)

pub returns-in_default : goal.returns-in_default
returns-in_default c = beyond c.args.least c.args.most (found_of c.args.matches.now) c.args.id.now c.get_one.result (search rules) (search rules)

pub returns-in_default-2 : goal.returns-in_default-2
returns-in_default-2 c = beyond c.args.least c.args.most (found_of c.args.matches.now) c.args.id.now c.get_one.result (search rules) (search rules)

pub returns-in_default-3 : goal.returns-in_default-3
returns-in_default-3 c = beyond c.args.least c.args.most (found_of c.args.matches.now) c.args.id.now c.get_one.result (search rules) (search rules)
