use Rattle.demo_laws.proofs.ProgramSources.{correct_source, faulty_source}
use Rattle.demo_laws.proofs.laws.demos_are_sources.Goals as goal

pub returns-clause-correct : goal.returns-clause-correct
returns-clause-correct c = correct_source

pub returns-clause-faulty : goal.returns-clause-faulty
returns-clause-faulty c = faulty_source
