use Rattle.std.proofs.Common.{◌<◌, length, rules}
use Rattle.site_scripts.proofs.LineLaws.{says_whole}
use Rattle.desk.proofs.script.parse.Goals as goal

pub returns-in_ok-command-in-len1-up : goal.returns-in_ok-command-in-len1-up
returns-in_ok-command-in-len1-up c =
    let some : 0 < length c.args.words.now = search rules in
    record { command_is_what_the_words_say = (some, says_whole _ _ _ some c.in_ok-command-in-len1-up.ensures.command_is_what_the_words_say) }
