-- What requests, names and budgets stand for.
use Rattle.std.specs.Prelude.{option_map}
use Rattle.wv_arguments.specs.Words.{Command, Sources as Given, Label as Labelled, Budgets as Limits, Wanted, Asked as Stated}
use Rattle.wv_arguments.specs.Words.{Validate, Show, Normalise, Demo, Certify, Recheck, Author, Weed, Seek}
use Rattle.wv_arguments.specs.declared.request.Names.{Names}
use Rattle.wv_arguments.specs.declared.request.Budgets.{Budgets}
use Rattle.wv_arguments.specs.declared.request.Sources.{Sources}
use Rattle.wv_arguments.specs.declared.request.Label.{Label}
use Rattle.wv_arguments.specs.declared.request.Request.{Request}
use Rattle.wv_arguments.specs.declared.request.Request.TheVariants as request
use Rattle.wv_arguments.specs.declared.request.Asked.{Asked}

abbrev pub named : Names → Command
named names = record { program = names.program.now; property = names.property.now; witness = names.witness.now }

abbrev pub limits : Budgets → Limits
limits budgets = record { steps = budgets.steps; conflicts = budgets.conflicts }

abbrev pub given : Sources → Given
given sources = record { program = sources.program.now; property = sources.property.now; values = sources.values.now }

abbrev pub labelled : Label → Labelled
labelled label = record { model = label.model.now; uuid = label.uuid.now; time = label.time.now }

abbrev pub wanted : Request → Wanted
wanted (request.Validate names budgets) = Validate (named names) (limits budgets)
wanted (request.Show name) = Show name.now
wanted (request.Normalise name) = Normalise name.now
wanted (request.Demo number budgets) = Demo number (limits budgets)
wanted (request.Certify names conflicts) = Certify (named names) conflicts
wanted (request.Recheck names certificate) = Recheck (named names) certificate.now
wanted (request.Author sources label steps) = Author (given sources) (labelled label) steps
wanted (request.Weed names conflicts) = Weed (named names) conflicts
wanted (request.Seek names turns conflicts) = Seek (named names) turns conflicts

abbrev pub stated : Asked → Stated
stated asked = record { wanted = option_map wanted asked.request; json = asked.json }
