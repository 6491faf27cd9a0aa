use Rattle.std.proofs.Common.{rules, arith}
use Rattle.std.proofs.lemmas.Grind.{common_steps}
use Rattle.wv_author.specs.Demo.{demo_of}
use Rattle.wv_author.specs.Programs.{correct_program, faulty_program}
use Rattle.wv_author.proofs.Written.{writable_at}
use Rattle.wv_author.proofs.making.demo.Goals as goal

pub returns-clause-writable : goal.returns-clause-writable
unfolding demo_of correct_program faulty_program
returns-clause-writable c = writable_at c.args.number _ (first_of (search rules, grind (arith, common_steps)))
