use Rattle.std.proofs.Common.{subst, sym}
use Rattle.circuits.specs.Net.{holds}
use Rattle.circuits.specs.Chosen.{AreAlike}
use Rattle.circuits.proofs.ChosenLaws.{alike_then, alike_words}
use Rattle.circuits.proofs.chosen.settled.Goals.{else-loop-choice-test, then-loop-choice-test+in_default, then-loop-choice-test+in-Some+in_ok-word-2+then-not-is_told}
use Rattle.circuits.proofs.chosen.settled.Goals as goal

pub loop-choice-init : goal.loop-choice-init
loop-choice-init c =
    let net = c.args.nodes.now in
    subst (λ l. AreAlike net (λ v. holds v net c.args.live) c.args.bits.now l) (sym (c.in_ok-word.ensures.items_if_clones_equal (λ x y e. e))) (alike_words c.args.bits.now c.requires.bits_in)

pub loop-choice-preserved : goal.loop-choice-preserved
loop-choice-preserved c =
    let net = c.args.nodes.now in
    alike_then c.loop-choice.invariant (rw c.deref-in-loop-choice.ensures.value at (c.in_ok-word-2.ensures (λ v. holds v net c.args.live) (c.in-Some.ensures (λ v. holds v net c.args.live) c.in_ok-known.ensures)))

pub rest_of_word-requires-clause-word_in : goal.rest_of_word-requires-clause-word_in
rest_of_word-requires-clause-word_in c = rw c.deref-in-loop-choice.ensures.value c.loop-choice.invariant.inside

pub returns-then-not-is_word : goal.returns-then-not-is_word
returns-then-not-is_word c =
    let net = c.args.nodes.now in
    subst (λ l. AreAlike net (λ v. holds v net c.args.live) c.args.bits.now l) (sym (c.in_ok-same.ensures.items_if_clones_equal (λ x y e. e))) (alike_words c.args.bits.now c.requires.bits_in)

pub returns : goal.returns
returns c =
    let net = c.args.nodes.now in
    elim c.loop-choice-test.branch [
      | else-loop-choice-test w ↦ rw w.word-is c.loop-choice.invariant
      | then-loop-choice-test+in_default w ↦ rw w.word-is c.loop-choice.invariant
      | then-loop-choice-test+in-Some+in_ok-word-2+then-not-is_told w ↦
          rw w.word-is (alike_then c.loop-choice.invariant (rw w.deref-in-loop-choice.ensures.value at (w.in_ok-word-2.ensures (λ v. holds v net c.args.live) (w.in-Some.ensures (λ v. holds v net c.args.live) c.in_ok-known.ensures))))
    ]
