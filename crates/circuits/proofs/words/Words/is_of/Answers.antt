use Rattle.std.proofs.Common.{◌≡◌, ◌∙◌, List, Some, slice_get, refl, sym, subst}
use Rattle.std.proofs.lemmas.Option.{slice_get_read}
use Rattle.std.proofs.lemmas.Slice.Eq.{slice_eq-Decides}
use Rattle.circuits.specs.declared.words.Word.{Word}
use Rattle.circuits.proofs.Unknowns.{bits_decide, found_word}
use Rattle.circuits.proofs.words.Words.is_of.Goals as goal

pub returns-in-Some : goal.returns-in-Some
returns-in-Some c t =
    found_word c.args.self.now.list.items c.in-Some.word.now c.args.bits.now c.args.at
    (subst (λ (l : List Word). slice_get l c.args.at ≡ Some c.in-Some.word.now) c.deref.ensures.value
    (slice_get_read c.deref.result.now _ c.args.at c.in-Some.word.now refl c.in-Some.ensures.lookup.3.0 (c.in-Some.ensures.lookup.3.1 c.in-Some.word.now)))
    (sym c.as_slice.ensures.value ∙ (slice_eq-Decides bits_decide _ _ _ c.eq.ensures).0 t)
