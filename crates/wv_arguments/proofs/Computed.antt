use Rattle.std.proofs.Common.{refl}
use Rattle.clap.proofs.OnLiterals.{clap_on_literals}
use Rattle.wv_arguments.specs.Examples.{ReadsModes, RefusesWords}

pub reads_modes : ReadsModes
unfolding clap_on_literals
reads_modes = record {
  validates = refl;
  shows = refl;
  makes = refl;
  certifies = refl;
  rechecks = refl;
  authors = refl;
  weeds = refl;
  seeks = refl;
  seeks_plainly = refl;
}

pub refuses_words : RefusesWords
unfolding clap_on_literals
refuses_words = record {
  no_words = refl;
  help = refl;
  version = refl;
  unknown = refl;
  no_steps = refl;
  no_turns = refl;
  many_turns = refl;
  twice = refl;
  no_mode = refl;
  no_program = refl;
  no_certificate = refl;
  no_values = refl;
}
