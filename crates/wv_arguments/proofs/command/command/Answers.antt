use Rattle.std.proofs.Common.{◌∙◌, ap₂}
use Rattle.clap.specs.Words.{with_rule}
use Rattle.wv_arguments.proofs.command.command.Goals as goal

pub returns : goal.returns
returns c =
    let one = c.in_ok-arg.ensures.shape c.mode.ensures.local ∙ ap₂ with_rule c.new.ensures.app c.mode.ensures.rule in
    let two = c.in_ok-arg-2.ensures.shape c.option.ensures.local ∙ ap₂ with_rule one c.option.ensures.rule in
    let three = c.in_ok-arg-3.ensures.shape c.option-2.ensures.local ∙ ap₂ with_rule two c.option-2.ensures.rule in
    let four = c.in_ok-arg-4.ensures.shape c.option-3.ensures.local ∙ ap₂ with_rule three c.option-3.ensures.rule in
    let five = c.in_ok-arg-5.ensures.shape c.option-4.ensures.local ∙ ap₂ with_rule four c.option-4.ensures.rule in
    let six = c.in_ok-arg-6.ensures.shape c.option-5.ensures.local ∙ ap₂ with_rule five c.option-5.ensures.rule in
    let seven = c.in_ok-arg-7.ensures.shape c.option_or.ensures.local ∙ ap₂ with_rule six c.option_or.ensures.rule in
    let eight = c.in_ok-arg-8.ensures.shape c.option_or-2.ensures.local ∙ ap₂ with_rule seven c.option_or-2.ensures.rule in
    let nine = c.in_ok-arg-9.ensures.shape c.option_or-3.ensures.local ∙ ap₂ with_rule eight c.option_or-3.ensures.rule in
    let ten = c.in_ok-arg-10.ensures.shape c.number_or.ensures.local ∙ ap₂ with_rule nine c.number_or.ensures.rule in
    let eleven = c.in_ok-arg-11.ensures.shape c.number_or-2.ensures.local ∙ ap₂ with_rule ten c.number_or-2.ensures.rule in
    let twelve = c.in_ok-arg-12.ensures.shape c.number_or-3.ensures.local ∙ ap₂ with_rule eleven c.number_or-3.ensures.rule in
    let thirteen = c.in_ok-arg-13.ensures.shape c.number.ensures.local ∙ ap₂ with_rule twelve c.number.ensures.rule in
    c.in_ok-command.ensures.shape c.flag.ensures.local ∙ ap₂ with_rule thirteen c.flag.ensures.rule
