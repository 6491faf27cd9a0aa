use Rattle.std.proofs.Common.{lit<, Some, None}
use Rattle.std.proofs.lemmas.Str.Pattern.{strip_suffix_char}
use Rattle.yaml_lines.proofs.Breaks.{return_cut, return_kept, return_less}
use Rattle.yaml_lines.proofs.lines.without_cr.Goals as goal

pub returns-in-Some-clause-value : goal.returns-in-Some-clause-value
returns-in-Some-clause-value c = return_cut c.args.text.now c.in-Some.front.now c.utf8.text (strip_suffix_char 13 c.args.text.now (Some c.in-Some.front) c.in-Some.ensures.cases (lit< tt))

pub returns-in-Some-clause-within : goal.returns-in-Some-clause-within
returns-in-Some-clause-within c = return_less c.args.text.now c.in-Some.front.now c.utf8.text (strip_suffix_char 13 c.args.text.now (Some c.in-Some.front) c.in-Some.ensures.cases (lit< tt))

pub returns-in-None-clause-value : goal.returns-in-None-clause-value
returns-in-None-clause-value c = return_kept c.args.text.now c.utf8.text (strip_suffix_char 13 c.args.text.now None c.in-None.ensures.cases (lit< tt))
