use Rattle.std.proofs.Common.{rules, ◌≡◌, ap, sym, ◌∙◌, ℕ, List, is_none}
use Rattle.c_parser.specs.Tree as raw
use Rattle.c_parser.specs.View.{node_view}
use Rattle.c_parser.specs.declared.tree.RawNode.{RawNode}
use Rattle.c_parser.proofs.Views.{view_of_index, view_of_call}
use Rattle.check_rules.specs.Codes.{misused, miscalled, is_no_element, word_of}
use Rattle.check_rules.specs.Names.{named}
use Rattle.check_scope.specs.InScope.{all_of}
use Rattle.check_scope.specs.Sources.{items_of}
use Rattle.check_types.specs.Words.{word_at, word_as}
use Rattle.check_types.proofs.ListLaws.{count_of_views}
use Rattle.check_types.proofs.own.is_misused.Goals as goal

pub is_miscalled-requires : goal.is_miscalled-requires
is_miscalled-requires c =
    let e = ap node_view c.in-Call.is ∙ view_of_call c.in-Call.callee c.in-Call.word c.in-Call.args c.in-Call.close in
    c.requires.word
    ∙ ap (λ (n : raw.Node). word_at (all_of c.args.table.now) (word_of n)) e
    ∙ ap (λ (x : List ℕ). word_as (named (all_of c.args.table.now) x)) (sym c.as_str.ensures)

pub returns-in-Number : goal.returns-in-Number
returns-in-Number c =
    let none : c.is_none.result ≡ is_none c.constant_type.result = search rules in
    none ∙ ap is_none c.constant_type.ensures
    ∙ sym (ap (λ (n : RawNode). misused c.args.model (items_of c.args.functions.now) (all_of c.args.table.now) (node_view n)) c.in-Number.is)

pub returns-in-Call : goal.returns-in-Call
returns-in-Call c =
    let es = all_of c.args.table.now in
    let items = items_of c.args.functions.now in
    let e = ap node_view c.in-Call.is ∙ view_of_call c.in-Call.callee c.in-Call.word c.in-Call.args c.in-Call.close in
    c.is_miscalled.ensures c.args.model
    ∙ ap (λ (x : List ℕ). miscalled c.args.model items es x c.len-in-Call.result (named es x)) c.as_str.ensures
    ∙ ap (λ (n : ℕ). miscalled c.args.model items es c.in-Call.callee n (named es c.in-Call.callee)) (c.len-in-Call.ensures ∙ sym (count_of_views c.in-Call.args))
    ∙ sym (ap (misused c.args.model items es) e)

pub returns-in-Index : goal.returns-in-Index
returns-in-Index c =
    let es = all_of c.args.table.now in
    let items = items_of c.args.functions.now in
    let e = ap node_view c.in-Index.is ∙ view_of_index c.in-Index.object c.in-Index.word c.in-Index.at in
    let word = c.requires.word ∙ ap (λ (n : raw.Node). word_at es (word_of n)) e in
    c.is_no_element.ensures (named es c.in-Index.object) word
    ∙ ap (λ (n : ℕ). is_no_element n (named es c.in-Index.object)) (c.len.ensures ∙ sym (count_of_views c.in-Index.at))
    ∙ sym (ap (misused c.args.model items es) e)
