use Rattle.demo_laws.proofs.ProgramSources.{correct_found, faulty_found}
use Rattle.demo_laws.proofs.laws.demos_are_parsed.Goals as goal

pub returns-clause-correct : goal.returns-clause-correct
returns-clause-correct c = correct_found c.one_source.ensures c.source_or_syntax.ensures

pub returns-clause-faulty : goal.returns-clause-faulty
returns-clause-faulty c = faulty_found c.one_source.ensures c.source_or_syntax.ensures
