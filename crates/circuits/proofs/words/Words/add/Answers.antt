use Rattle.std.proofs.Common.{ap, ◌∙◌}
use Rattle.circuits.proofs.Unknowns.{bits_pushed, words_pushed}
use Rattle.circuits.proofs.words.Words.add.Goals as goal

pub returns-clause-words : goal.returns-clause-words
returns-clause-words c =
    words_pushed c.args.self.now.list.items _ c.args.bits.now (ap (λ l. l.items) c.put_last.ensures ∙ c.in_ok-push.ensures.items) (c.in_ok-bits.ensures.items_if_clones_equal (λ x y e. e))
    c.requires.words c.requires.bits_in c.requires.wide c.requires.tells

pub returns-clause-added : goal.returns-clause-added
returns-clause-added c =
    bits_pushed c.args.self.now.list.items _ c.args.bits.now (ap (λ l. l.items) c.put_last.ensures ∙ c.in_ok-push.ensures.items) (c.in_ok-bits.ensures.items_if_clones_equal (λ x y e. e))

pub returns-clause-more : goal.returns-clause-more
returns-clause-more c = record { more = _; is = ap (λ l. l.items) c.put_last.ensures ∙ c.in_ok-push.ensures.items }
