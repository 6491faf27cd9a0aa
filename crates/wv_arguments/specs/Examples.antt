-- Command lines of which what they ask for is computed.
use Rattle.std.specs.Prelude.{◌≡◌, List, [], ◌∷◌, true, false, Some, None, codes}
use Rattle.clap.specs.Words.{Text}
use Rattle.wv_arguments.specs.Words.{Command, Sources, Label, Validate, Show, Demo, Certify, Recheck, Author, Weed, Seek, asked_by}

abbrev pub validating : List Text
validating = codes "witval" ∷ codes "validate" ∷ codes "--program" ∷ codes "p" ∷ codes "--property=q" ∷ codes "--witness" ∷ codes "w" ∷ []

abbrev pub showing : List Text
showing = codes "witval" ∷ codes "--json" ∷ codes "show" ∷ codes "--witness" ∷ codes "w" ∷ codes "--number" ∷ codes "+7" ∷ []

abbrev pub making : List Text
making = codes "witval" ∷ codes "demo" ∷ codes "--number" ∷ codes "7" ∷ codes "--steps" ∷ codes "11" ∷ []

abbrev pub certifying : List Text
certifying = codes "witval" ∷ codes "certify" ∷ codes "--program=p" ∷ codes "--property=q" ∷ codes "--witness=w" ∷ codes "--conflicts=7" ∷ []

abbrev pub rechecking : List Text
rechecking = codes "witval" ∷ codes "recheck" ∷ codes "--program=p" ∷ codes "--property=q" ∷ codes "--witness=w" ∷ codes "--certificate" ∷ codes "c" ∷ []

abbrev pub authoring : List Text
authoring = codes "witval" ∷ codes "author" ∷ codes "--program=p" ∷ codes "--property=q" ∷ codes "--values=v" ∷ codes "--model=LP64" ∷ codes "--steps=11" ∷ []

abbrev pub weeding : List Text
weeding = codes "witval" ∷ codes "weed" ∷ codes "--program=p" ∷ codes "--property=q" ∷ codes "--witness=w" ∷ codes "--json" ∷ []

abbrev pub seeking : List Text
seeking = codes "witval" ∷ codes "seek" ∷ codes "--program=p" ∷ codes "--property=q" ∷ codes "--witness=w" ∷ codes "--bound" ∷ codes "64" ∷ codes "--conflicts=7" ∷ []

abbrev pub seeking_plainly : List Text
seeking_plainly = codes "witval" ∷ codes "seek" ∷ codes "--program=p" ∷ codes "--property=q" ∷ codes "--witness=w" ∷ []

-- the files of five of them
abbrev pub files : Command
files = record { program = codes "p"; property = codes "q"; witness = codes "w" }

-- the files of an authored witness, and what it says of itself
abbrev pub sources : Sources
sources = record { program = codes "p"; property = codes "q"; values = codes "v" }

abbrev pub label : Label
label = record { model = codes "LP64"; uuid = codes "01234567-89ab-4cde-8f01-23456789abcd"; time = codes "2024-04-10T12:00:00Z" }

-- one mode with each kind of option
pub record ReadsModes : Type 0 where
  pub validates : asked_by validating ≡ record {
    wanted = Some (Validate (record { program = codes "p"; property = codes "q"; witness = codes "w" }) (record { steps = 10000000; conflicts = 100000 }));
    json = false;
  }
  pub shows : asked_by showing ≡ record { wanted = Some (Show (codes "w")); json = true }
  pub makes : asked_by making ≡ record { wanted = Some (Demo 7 (record { steps = 11; conflicts = 100000 })); json = false }
  pub certifies : asked_by certifying ≡ record { wanted = Some (Certify files 7); json = false }
  pub rechecks : asked_by rechecking ≡ record { wanted = Some (Recheck files (codes "c")); json = false }
  pub authors : asked_by authoring ≡ record { wanted = Some (Author sources label 11); json = false }
  pub weeds : asked_by weeding ≡ record { wanted = Some (Weed files 100000); json = true }
  pub seeks : asked_by seeking ≡ record { wanted = Some (Seek files 64 7); json = false }
  pub seeks_plainly : asked_by seeking_plainly ≡ record { wanted = Some (Seek files 8 100000); json = false }

abbrev pub IsMisused : List Text → Type 0
IsMisused words = asked_by words ≡ record { wanted = None; json = false }

-- arguments for which clap has a fault: none, help and version, an unknown option, a number beyond its range, a flag given twice
pub record RefusesWords : Type 0 where
  pub no_words : IsMisused []
  pub help : IsMisused (codes "witval" ∷ codes "--help" ∷ [])
  pub version : IsMisused (codes "witval" ∷ codes "--version" ∷ [])
  pub unknown : IsMisused (codes "witval" ∷ codes "show" ∷ codes "--wit" ∷ codes "w" ∷ [])
  pub no_steps : IsMisused (codes "witval" ∷ codes "show" ∷ codes "--witness" ∷ codes "w" ∷ codes "--steps" ∷ codes "0" ∷ [])
  pub no_turns : IsMisused (codes "witval" ∷ codes "seek" ∷ codes "--program=p" ∷ codes "--property=q" ∷ codes "--witness=w" ∷ codes "--bound=0" ∷ [])
  pub many_turns : IsMisused (codes "witval" ∷ codes "seek" ∷ codes "--program=p" ∷ codes "--property=q" ∷ codes "--witness=w" ∷ codes "--bound=65" ∷ [])
  pub twice : IsMisused (codes "witval" ∷ codes "show" ∷ codes "--json" ∷ codes "--json" ∷ [])
  -- arguments that clap takes, but with a mode that isn't there, or without what the mode needs
  pub no_mode : asked_by (codes "witval" ∷ codes "judge" ∷ codes "--json" ∷ []) ≡ record { wanted = None; json = true }
  pub no_program : asked_by (codes "witval" ∷ codes "validate" ∷ codes "--json" ∷ []) ≡ record { wanted = None; json = true }
  pub no_certificate : asked_by (codes "witval" ∷ codes "recheck" ∷ codes "--program=p" ∷ codes "--property=q" ∷ codes "--witness=w" ∷ []) ≡ record { wanted = None; json = false }
  pub no_values : asked_by (codes "witval" ∷ codes "author" ∷ codes "--program=p" ∷ codes "--property=q" ∷ codes "--witness=w" ∷ []) ≡ record { wanted = None; json = false }
