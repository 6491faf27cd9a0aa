use Rattle.c_meaning.proofs.CellsFit.{cells_fit}
use Rattle.c_meaning.proofs.laws.cells_fit.Goals as goal

pub returns : goal.returns
returns c = cells_fit
