use Rattle.demo_laws.proofs.ProgramTokens.{correct_tokens_of, faulty_tokens_of}
use Rattle.demo_laws.proofs.laws.demos_are_tokens.Goals as goal

pub returns-clause-correct : goal.returns-clause-correct
returns-clause-correct c = correct_tokens_of

pub returns-clause-faulty : goal.returns-clause-faulty
returns-clause-faulty c = faulty_tokens_of
