use Rattle.std.proofs.Common.{◌≡◌, ◌∙◌, ◌-◌, ◌/◌, List, Some, slice_get, refl, sym, subst, arith}
use Rattle.std.proofs.lemmas.Option.{slice_get_read}
use Rattle.circuits.specs.declared.words.Word.{Word}
use Rattle.circuits.proofs.FactLaws.{digit_inside, digit_of}
use Rattle.circuits.proofs.words.Words.digit.Goals as goal

place : (c : goal.After-result-1) → slice_get c.args.self.now.list.items ((c.args.truth - 3) / 2) ≡ Some c.in_ok-word.word.now
place c =
    let word = c.in_ok-word.word.now in
    subst (λ (l : List Word). slice_get l ((c.args.truth - 3) / 2) ≡ Some word) c.deref.ensures.value
    (slice_get_read c.deref.result.now _ ((c.args.truth - 3) / 2) word refl c.in_ok-word.ensures.lookup.3.0 (c.in_ok-word.ensures.lookup.3.1 word))

pub returns-clause-is : goal.returns-clause-is
returns-clause-is c =
    digit_of c.args.self.now.list.items c.in_ok-word.word.now ((c.args.truth - 3) / 2) c.args.truth (place c) (sym c.as_slice.ensures.value ∙ c.in_ok-lowest.ensures.cases.0) (omega arith)

pub returns-clause-inside : goal.returns-clause-inside
returns-clause-inside c = λ net words.
    digit_inside c.args.self.now.list.items c.in_ok-word.word.now ((c.args.truth - 3) / 2) (place c) (sym c.as_slice.ensures.value ∙ c.in_ok-lowest.ensures.cases.0) words
