use Rattle.std.proofs.Common.{rules, le-ltb, lt-ltb}
use Rattle.measures.specs.Sites.{share_in}
use Rattle.measures.proofs.site.Site.share.Goals as goal

pub returns-then-supply-self : goal.returns-then-supply-self
unfolding share_in
returns-then-supply-self c = search (rules, le-ltb)

pub returns : goal.returns
unfolding share_in
returns c = search (rules, lt-ltb)
