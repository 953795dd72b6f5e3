use Rattle.std.proofs.Common.{◌<◌, length, rules}
use Rattle.site_scripts.proofs.LineLaws.{says_whole}
use Rattle.scripts.proofs.script.parse.Goals as goal

pub returns-in_ok-request-in-len1-up : goal.returns-in_ok-request-in-len1-up
returns-in_ok-request-in-len1-up c =
    let some : 0 < length c.args.words.now = search rules in
    record { request_is_what_the_words_say = (some, says_whole _ _ _ some c.in_ok-request-in-len1-up.ensures.request_is_what_the_words_say) }
