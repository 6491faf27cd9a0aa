use Rattle.std.proofs.Common.{◌∙◌, ap, sym, ◌==◌, ◌∷◌, ◌++◌, append-nil, ℕ, List, Option, Some, subst}
use Rattle.std.proofs.lemmas.Bool.{eqb-true, false_from_ne_true}
use Rattle.std.specs.String.{string_bytes}
use Rattle.std.specs.Char.{encode_utf8}
use Rattle.yaml_scalars.specs.Quoted.{if_simple}
use Rattle.yaml_scalars.specs.Gives.{Gives, stepped}
use Rattle.yaml_scalars.proofs.Quotes.{escape_number, escape_simple}
use Rattle.yaml_scalars.proofs.quoted.push_escape.Goals as goal

pub returns-then-count-gt0-clause-value : goal.returns-then-count-gt0-clause-value
returns-then-count-gt0-clause-value c =
    let P : Option (Option ℕ × List ℕ) → Type 0 = λ o. Gives (λ (r : Option ℕ). (r, string_bytes c.push_number.new.out)) c.push_number.result o in
    subst P (ap (stepped (string_bytes c.args.out.now)) (sym (escape_number c.args.text.now c.rest-rest.result c.first-first.result c.digits_after-count.result
    (c.first-first.ensures ∙ ap (λ xs. c.first-first.result ∷ xs) (sym c.rest-rest.ensures.value))
    (false_from_ne_true (c.first-first.result == 10) (λ h. c.if-first-eq10.false (eqb-true c.first-first.result 10 h))) c.digits_after-count.ensures.value c.if-count-gt0.true))) c.push_number.ensures.value

pub returns-clause-value : goal.returns-clause-value
returns-clause-value c =
    ap (stepped (string_bytes c.args.out.now)) (escape_simple c.args.text.now c.rest-rest.result c.first-first.result c.digits_after-count.result
    (c.first-first.ensures ∙ ap (λ xs. c.first-first.result ∷ xs) (sym c.rest-rest.ensures.value))
    (false_from_ne_true (c.first-first.result == 10) (λ h. c.if-first-eq10.false (eqb-true c.first-first.result 10 h))) c.digits_after-count.ensures.value c.if-count-gt0.false
    ∙ ap if_simple (sym c.in-Some.ensures))
    ∙ ap (λ xs. Some (Some 1, xs)) (ap (λ xs. string_bytes c.args.out.now ++ xs) (append-nil (encode_utf8 c.in-Some.c)) ∙ sym c.in_ok-push.ensures.bytes)
