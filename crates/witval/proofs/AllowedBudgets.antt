-- The budgets and the number of a command line are within their ranges.
use Rattle.std.proofs.Common.{◌≡◌, ◌≤◌, ℕ, List, [], ◌∷◌, Bool, true, false, Option, Some, None, refl, codes}
use Rattle.std.specs.Prelude.{IfSome, if◌then◌else◌, bytes_eq}
use Rattle.std.specs.Str.Parse.{digits_value, without_leading_plus}
use Rattle.clap.specs.Words.{Row, Text, fault_of, first_of, matches_of, one_of}
use Rattle.clap.specs.Kinds.{Kinds}
use Rattle.clap.specs.ValueTests.{accepts}
use Rattle.clap.specs.declared.builder.value_parser.ValueParser.TheVariants.{Unsigned}
use Rattle.clap.proofs.ValueTestLemmas.{accepts-Accepts}
use Rattle.wv_arguments.specs.Arguments.{command, most_conflicts, most_number, most_turns}
use Rattle.wv_arguments.specs.Words.{Budgets, Command, Label, Sources, Wanted, asked_by, asked_of, author_of, budgets_in, budgets_of, certify_of, command_in, conflicts_in, demo_of, label_in, made_number, mode_in, normalise_of, number_in, recheck_of, seek_of, show_of, sources_in, steps_in, turns_in, validate_of, wanted_as, weed_of}
use Rattle.witval.specs.inside.Allowed.{AreAllowed, IsAllowed}

abbrev IsWithin : ℕ → ℕ → ℕ → Type 0
IsWithin least most n = (least ≤ n) × (n ≤ most)

accepted : (least most : ℕ) (t : Text) (b : Bool) → accepts false (Unsigned least most) t ≡ b
    → IfSome (if b then Some (digits_value 10 (without_leading_plus t)) else None) (IsWithin least most)
accepted least most t true e =
    let inside = accepts-Accepts false (Unsigned least most) t e in
    (inside.2, inside.3)
accepted least most t false e = tt

-- a number is read where it is in range
read : (least most : ℕ) (o : Option Text) → IfSome (number_in least most o) (IsWithin least most)
read least most None = tt
read least most (Some t) = accepted least most t (accepts false (Unsigned least most) t) refl

both : (steps conflicts : Option ℕ) → IfSome conflicts (IsWithin 1 most_conflicts) → IfSome (budgets_of steps conflicts) IsAllowed
both None conflicts h = tt
both (Some n) None h = tt
both (Some n) (Some m) h = record { some = h.0; bounded = h.1 }

validated : (c : Option Command) (b : Option Budgets) → IfSome b IsAllowed → AreAllowed (validate_of c b)
validated None b h = tt
validated (Some c) None h = tt
validated (Some c) (Some b) h = h

shown : (o : Option Text) → AreAllowed (show_of o)
shown None = tt
shown (Some w) = tt

normalised : (o : Option Text) → AreAllowed (normalise_of o)
normalised None = tt
normalised (Some w) = tt

made : (n : Option ℕ) (b : Option Budgets) → IfSome n (IsWithin 0 most_number) → IfSome b IsAllowed → AreAllowed (demo_of n b)
made None b h k = tt
made (Some n) None h k = tt
made (Some n) (Some b) h k = (h.1, k)

certified : (c : Option Command) (n : Option ℕ) → IfSome n (IsWithin 1 most_conflicts) → AreAllowed (certify_of c n)
certified None n h = tt
certified (Some c) None h = tt
certified (Some c) (Some n) h = record { some = h.0; bounded = h.1 }

rechecked : (c : Option Command) (o : Option Text) → AreAllowed (recheck_of c o)
rechecked None o = tt
rechecked (Some c) None = tt
rechecked (Some c) (Some name) = tt

authored : (s : Option Sources) (l : Option Label) (n : Option ℕ) → AreAllowed (author_of s l n)
authored None l n = tt
authored (Some s) None n = tt
authored (Some s) (Some l) None = tt
authored (Some s) (Some l) (Some n) = tt

weeded : (c : Option Command) (n : Option ℕ) → IfSome n (IsWithin 1 most_conflicts) → AreAllowed (weed_of c n)
weeded None n h = tt
weeded (Some c) None h = tt
weeded (Some c) (Some n) h = record { some = h.0; bounded = h.1 }

searched : (c : Option Command) (k n : Option ℕ) → IfSome k (IsWithin 1 most_turns) → IfSome n (IsWithin 1 most_conflicts) → AreAllowed (seek_of c k n)
searched None k n g h = tt
searched (Some c) None n g h = tt
searched (Some c) (Some k) None g h = tt
searched (Some c) (Some k) (Some n) g h = record { within = g.1; some = h.0; bounded = h.1 }

either : (b : Bool) (x y : Option Wanted) → AreAllowed x → AreAllowed y → AreAllowed (if b then x else y)
either true x y h k = h
either false x y h k = k

of_mode : (mode : Text) (rows : List Row) → AreAllowed (wanted_as mode rows)
of_mode mode rows =
    either (bytes_eq mode (codes "validate")) _ _ (validated (command_in rows) (budgets_in rows) (both _ _ (read 1 most_conflicts (one_of (codes "conflicts") rows))))
    (either (bytes_eq mode (codes "show")) _ _ (shown (first_of (codes "witness") rows))
    (either (bytes_eq mode (codes "normalise")) _ _ (normalised (first_of (codes "witness") rows))
    (either (bytes_eq mode (codes "demo")) _ _ (made (made_number rows) (budgets_in rows) (read 0 most_number (one_of (codes "number") rows)) (both _ _ (read 1 most_conflicts (one_of (codes "conflicts") rows))))
    (either (bytes_eq mode (codes "certify")) _ _ (certified (command_in rows) (conflicts_in rows) (read 1 most_conflicts (one_of (codes "conflicts") rows)))
    (either (bytes_eq mode (codes "recheck")) _ _ (rechecked (command_in rows) (first_of (codes "certificate") rows))
    (either (bytes_eq mode (codes "author")) _ _ (authored (sources_in rows) (label_in rows) (steps_in rows))
    (either (bytes_eq mode (codes "weed")) _ _ (weeded (command_in rows) (conflicts_in rows) (read 1 most_conflicts (one_of (codes "conflicts") rows)))
    (either (bytes_eq mode (codes "seek")) _ None (searched (command_in rows) (turns_in rows) (conflicts_in rows) (read 1 most_turns (one_of (codes "bound") rows)) (read 1 most_conflicts (one_of (codes "conflicts") rows))) tt))))))))

of_kinds : (kinds : Kinds) (rows : List Row) → AreAllowed (asked_of kinds rows).wanted
of_kinds [] rows = of_mode (mode_in rows) rows
of_kinds (kind ∷ kinds) rows = tt

pub allowed : (words : List Text) → AreAllowed (asked_by words).wanted
allowed words = of_kinds (fault_of command words) (matches_of command words)
