use Rattle.std.proofs.Common.{rules}
use Rattle.measures.specs.Shares.{equal_part}
use Rattle.measures.proofs.share.equal_part.Goals as goal

pub returns : goal.returns
unfolding equal_part
returns c = search rules
