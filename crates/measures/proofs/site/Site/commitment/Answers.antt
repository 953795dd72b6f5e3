use Rattle.std.proofs.Common.{◌≡◌, ◌∙◌, arith, rules}
use Rattle.measures.specs.Sites.{part_due, commitment_in}
use Rattle.measures.specs.Bounds.{commitment_in_most}
use Rattle.measures.specs.StandingLaws.{commitment_in_mixes, commitment_in_settles}
use Rattle.measures.proofs.site.Site.commitment.Goals as goal

computed : (c : goal.After-commitment_after) → c.commitment_after.result ≡ commitment_in c.args.self.now (part_due c.args.self.now c.args.account.now) c.args.account.now c.args.tick c.args.supply
unfolding commitment_in
computed c = search rules

pub returns : goal.returns
returns c =
    let value = computed c in
    let part = part_due c.args.self.now c.args.account.now in
    let mixes = commitment_in_mixes c.args.self.now part c.args.account.now c.args.tick c.args.supply in
    record {
      commitment_at_the_tick = value;
      at_most_the_whole = omega (arith, commitment_in_most c.args.self.now part c.args.account.now c.args.tick c.args.supply);
      between_the_record_and_the_excess = (omega (arith, mixes.0), omega (arith, mixes.1));
      is_the_excess_after_1568_ticks = λ h. value ∙ commitment_in_settles c.args.self.now part c.args.account.now c.args.tick c.args.supply h;
    }
